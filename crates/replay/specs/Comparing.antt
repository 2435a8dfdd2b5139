-- An answer and a stored one, compared byte for byte.
use Rattle.std.specs.Prelude.{ℕ, Bool, ◌&&◌, ◌||◌, List, ◌==◌, length}
use Rattle.std.specs.List.{list_all, zip}

-- a stored `.` stands for any byte
abbrev pub any : ℕ
any = 46

abbrev pub fits : ℕ → ℕ → Bool
fits a s = a == s || s == any

-- as many bytes, and each fits the stored one at its place
abbrev pub as_stored : List ℕ → List ℕ → Bool
as_stored answer stored = length answer == length stored && list_all (λ p. fits p.0 p.1) (zip answer stored)
