-- A frame's call: it is read where the length is the call's. Assumes nothing.
use mathlib.Core.Path.{◌≡◌, refl, sym, ap, ◌∙◌}
use mathlib.Core.List.{List, [], ◌∷◌}
use Prim.Native.Nat.{ℕ, suc, ◌≤◌, ◌<◌}
use native.Mathlib.Nat.{suc_inj}
use native.Mathlib.Omega.{arith}
use lib.Dec.{eqb}
use lib.ListN.{length, get_or, get_or-eq_default}
use borrow.Author.Tests.{eq-eqb, ne_eqb}
use Rattle.std.specs.Prelude.{Option, None}
use Rattle.rules.specs.declared.call.Call.{Call}
use Rattle.records.proofs.Cases.{by_if}
use Rattle.records.specs.Lists.{every_below}
use Rattle.rules.proofs.Says.{equal, below}
use Rattle.frames.specs.Frame.{arguments_length, calls_in, frame_call}

-- the lengths of whole frames, as the code has them
abbrev lengths : List ℕ
lengths = 30 ∷ 17 ∷ 9 ∷ 9 ∷ 9 ∷ 9 ∷ 9 ∷ 13 ∷ 9 ∷ 9 ∷ 13 ∷ 17 ∷ 5 ∷ 9 ∷ 9 ∷ 1 ∷ 9 ∷ []

lengths_are : (call : ℕ) → call < 17 → get_or lengths call 0 ≡ suc (arguments_length call)
unfolding every_below
lengths_are = (below (λ (call : ℕ). equal)).0 refl

-- what is none, from the length or from the first byte
pub frame_empty : (frame : List ℕ) → length frame ≤ 0 → None ≡ frame_call frame
unfolding frame_call
frame_empty [] none = refl
frame_empty (first ∷ arguments) none = absurd (omega (arith, none))

pub frame_unknown : (frame : List ℕ) {call : ℕ} → 0 < length frame → call ≡ get_or frame 0 0 → 17 ≤ call → None ≡ frame_call frame
unfolding frame_call
frame_unknown [] some is past = absurd (omega (arith, some))
frame_unknown (first ∷ arguments) some is past =
    let late : 17 ≤ first = omega (arith, is, past) in
    let none = get_or-eq_default (calls_in (first ∷ arguments)) None late in
    sym (by_if (λ (o : Option Call). o ≡ None) (eqb (length arguments) (arguments_length first)) (λ _. none) (λ _. refl))

-- a known call, with the length of its frame and with another
as_long : (frame : List ℕ) {call n : ℕ} → call < 17 → n ≡ get_or lengths call 0 → call ≡ get_or frame 0 0 → n ≡ suc (arguments_length (get_or frame 0 0))
as_long frame known long is = long ∙ lengths_are _ known ∙ ap (λ (k : ℕ). suc (arguments_length k)) is

pub frame_unless : (frame : List ℕ) {call n : ℕ} → 0 < length frame → call ≡ get_or frame 0 0 → call < 17 → n ≡ get_or lengths call 0
    → (length frame ≡ n → ⊥) → None ≡ frame_call frame
unfolding frame_call
frame_unless [] some is known long other = absurd (omega (arith, some))
frame_unless (first ∷ arguments) some is known long other =
    let apart = ne_eqb (length arguments) (arguments_length first) (λ e. other (ap suc e ∙ sym (as_long (first ∷ arguments) known long is))) in
    rw apart

pub frame_when : (frame : List ℕ) {call n : ℕ} → 0 < length frame → call ≡ get_or frame 0 0 → call < 17 → n ≡ get_or lengths call 0
    → length frame ≡ n → get_or (calls_in frame) call None ≡ frame_call frame
unfolding frame_call
frame_when [] some is known long same = absurd (omega (arith, some))
frame_when (first ∷ arguments) some is known long same =
    let fits : length arguments ≡ arguments_length first = suc_inj (same ∙ as_long (first ∷ arguments) known long is) in
    rw (is, eq-eqb (length arguments) (arguments_length first) fits)
