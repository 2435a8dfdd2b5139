-- Whether two runs of bytes are the same.
use Rattle.std.specs.Prelude.{Bool, true, false, List, ◌≡◌, ℕ}

abbrev pub TellsSame : List ℕ → List ℕ → Bool → Type 0
TellsSame one other true = one ≡ other
TellsSame one other false = one ≡ other → ⊥
