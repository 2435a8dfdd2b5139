-- Case splits on a test that keep what each way tells, for the proofs of every crate. Assumes nothing.
use mathlib.Core.Bool.{Bool, true, false, cond, ◌||◌, true≢false}
use mathlib.Core.Path.{◌≡◌, refl}

pub split : (P : Bool → Type 0) (b : Bool) → (b ≡ true → P true) → (b ≡ false → P false) → P b
split P true t f = t refl
split P false t f = f refl

-- a fact about what the test chooses
pub by_if : {A : Type 0} (P : A → Type 0) (b : Bool) {x y : A} → (b ≡ true → P x) → (b ≡ false → P y) → P (cond b x y)
by_if P true t f = t refl
by_if P false t f = f refl

-- a test for either that fails: both fail
pub neither : (a b : Bool) → a || b ≡ false → (a ≡ false) × (b ≡ false)
neither true b e = absurd (true≢false e)
neither false b e = (refl, e)
