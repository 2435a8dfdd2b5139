-- What a store leaves at each place of a state: where it was made, and everywhere else. Assumes nothing.
use mathlib.Core.Path.{◌≡◌, refl, sym, ap, subst}
use mathlib.Core.List.{List}
use Prim.Native.Nat.{ℕ, ◌<◌}
use native.Mathlib.Omega.{arith}
use borrow.Author.Tests.{eqb-true, eqb-false}
use lib.Dec.{eqb}
use lib.ListN.{length, get_or, set}
use lib.Seq.{get_or-set_same, get_or-set_other}
use Rattle.records.specs.declared.band.QoSClass.{QoSClass}
use Rattle.records.specs.declared.band.QoSClass.TheVariants.{UserInteractive, RealTimeIO, Background}
use Rattle.records.specs.Band.{band_code}
use Rattle.records.proofs.Cases.{split}
use Rattle.rules.specs.State.{Queues, of_band, with_band, each_queue}

-- a list after a store: what holds of the new element, and of the others as they were, holds everywhere
pub each_set : {A : Type 0} (P : ℕ → A → Type 0) (l : List A) (i : ℕ) (a d : A) → i < length l → P i a →
    ((j : ℕ) → (j ≡ i → ⊥) → P j (get_or l j d)) → (j : ℕ) → P j (get_or (set l i a) j d)
each_set P l i a d h new old j =
    split (λ _. P j (get_or (set l i a) j d)) (eqb j i)
    (λ is. subst (λ (k : ℕ). P k (get_or (set l i a) k d)) (sym (eqb-true j i is)) (subst (P i) (sym (get_or-set_same l i a d h)) new))
    (λ no. subst (P j) (sym (get_or-set_other l i j a d (eqb-false j i no))) (old j (eqb-false j i no)))

-- bands with different codes are different
by_code : {a b : QoSClass} → (band_code a ≡ band_code b → ⊥) → a ≡ b → ⊥
by_code differ e = differ (ap band_code e)

-- the same for the queues
pub each-queue : (P : QoSClass → List ℕ → Type 0) (q : Queues) (b : QoSClass) (es : List ℕ) → P b es →
    ((c : QoSClass) → (c ≡ b → ⊥) → P c (of_band q c)) → (c : QoSClass) → P c (of_band (with_band q b es) c)
each-queue P q UserInteractive es new old UserInteractive = new
each-queue P q UserInteractive es new old RealTimeIO = old RealTimeIO (by_code (λ n. omega arith))
each-queue P q UserInteractive es new old Background = old Background (by_code (λ n. omega arith))
each-queue P q RealTimeIO es new old UserInteractive = old UserInteractive (by_code (λ n. omega arith))
each-queue P q RealTimeIO es new old RealTimeIO = new
each-queue P q RealTimeIO es new old Background = old Background (by_code (λ n. omega arith))
each-queue P q Background es new old UserInteractive = old UserInteractive (by_code (λ n. omega arith))
each-queue P q Background es new old RealTimeIO = old RealTimeIO (by_code (λ n. omega arith))
each-queue P q Background es new old Background = new

pub of_band-each : (f : List ℕ → List ℕ) (q : Queues) (b : QoSClass) → of_band (each_queue f q) b ≡ f (of_band q b)
of_band-each f q UserInteractive = refl
of_band-each f q RealTimeIO = refl
of_band-each f q Background = refl

pub of_band_with : (q : Queues) (b : QoSClass) (es : List ℕ) → of_band (with_band q b es) b ≡ es
of_band_with q UserInteractive es = refl
of_band_with q RealTimeIO es = refl
of_band_with q Background es = refl
