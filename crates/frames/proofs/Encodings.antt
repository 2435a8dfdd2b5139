-- What the parts of an answer leave in the buffer, put together: values by their kind, and an answer from status, pick and value.
-- Assumes nothing.
use mathlib.Core.Path.{◌≡◌, refl, sym, ap, ◌∙◌}
use mathlib.Core.Bool.{Bool, true, false}
use mathlib.Core.List.{List, [], ◌∷◌}
use Prim.Native.Nat.{ℕ, ◌+◌}
use lib.ListN.{length}
use lib.Seq.{sets}
use Rattle.std.specs.Int.{from_bool}
use Rattle.std.specs.Prelude.{Option, Some}
use Rattle.rules.specs.declared.answer.Pick.{Pick}
use Rattle.records.specs.declared.task.TaskControlBlock.{TaskControlBlock}
use Rattle.rules.specs.declared.answer.Answer.{Answer}
use Rattle.rules.specs.declared.answer.ContextSwitchPlan.{ContextSwitchPlan}
use Rattle.rules.specs.declared.answer.ContextSwitchTarget.{ContextSwitchTarget}
use Rattle.rules.specs.declared.answer.Value.{Value}
use Rattle.rules.specs.declared.answer.Value.TheVariants as value
use Rattle.rules.specs.Paper.{flag_number, status_number, pick_numbers, slot_number, target_numbers, value_numbers}
use Rattle.frames.specs.Answer.{record_bytes, value_widths, answer_bytes}
use Rattle.frames.specs.Private.{value_bytes}
use Rattle.frames.specs.Bytes.{Puts, bytes_of, written, total}
use Rattle.frames.proofs.Runs.{behind, run_on}
use Rattle.frames.proofs.Sizes.{length-value_bytes, length-pick, answer_bytes_are, length-answer_bytes}

-- ---- a flag's number

pub flag_is : {x : ℕ} (b : Bool) → x ≡ from_bool b → x ≡ flag_number b
flag_is true e = e
flag_is false e = e

-- ---- a value that was matched

pub value_as : {v w : Value} {b a : List ℕ} {r : ℕ} → v ≡ w → Puts (value_bytes w) 3 b a r → Puts (value_bytes v) 3 b a r
value_as {b = b} e p = record { buffer_is = p.buffer_is ∙ ap (λ v. sets b 3 (value_bytes v)) (sym e); length_is = p.length_is ∙ ap (λ v. length (value_bytes v)) (sym e) }

-- a value whose bytes were stored, and their number told
pub value_put : (v : Value) {b a : List ℕ} → a ≡ sets b 3 (written (value_widths v) (value_numbers v)) → Puts (value_bytes v) 3 b a (total (value_widths v))
unfolding value_bytes
value_put v e = record { buffer_is = e; length_is = sym (length-value_bytes v) }

-- a value of one byte
pub byte_put : {x y : ℕ} (v : Value) {b a : List ℕ} {r : ℕ} → x ≡ y → value_bytes v ≡ written (1 ∷ []) (y ∷ []) → Puts (written (1 ∷ []) (x ∷ [])) 3 b a r → Puts (value_bytes v) 3 b a r
byte_put v {b} e is p =
    let same = ap (λ (n : ℕ). written (1 ∷ []) (n ∷ [])) e ∙ sym is in
    record { buffer_is = p.buffer_is ∙ ap (sets b 3) same; length_is = p.length_is ∙ ap length same }

-- a pick that was matched
pub pick_as : (o : List ℕ) {p q : Option Pick} {o₁ : List ℕ} → p ≡ q → o₁ ≡ sets o 1 (written (1 ∷ 1 ∷ []) (pick_numbers q)) → o₁ ≡ sets o 1 (written (1 ∷ 1 ∷ []) (pick_numbers p))
pick_as o e is = is ∙ ap (λ p. sets o 1 (written (1 ∷ 1 ∷ []) (pick_numbers p))) (sym e)

-- "01, previous byte (ff none), target byte (ff idle), cr3 8 (0 if idle)", for a target that was matched
pub switch_put : (p : ContextSwitchPlan) {t : ContextSwitchTarget} {o o₁ : List ℕ} → p.target ≡ t
    → o₁ ≡ sets o 3 (written (1 ∷ 1 ∷ 1 ∷ 8 ∷ []) (1 ∷ slot_number p.prev_task_idx ∷ target_numbers t))
    → Puts (value_bytes (value.Plan (Some p))) 3 o o₁ 11
switch_put p {o = o} e is =
    value_put (value.Plan (Some p)) (is ∙ ap (λ t. sets o 3 (written (1 ∷ 1 ∷ 1 ∷ 8 ∷ []) (1 ∷ slot_number p.prev_task_idx ∷ target_numbers t))) (sym e))

-- ---- a record

-- "01 and the record"
pub task-put : (t : TaskControlBlock) (o : List ℕ) {o₁ o₂ : List ℕ} → o₁ ≡ sets o 3 (bytes_of 1 1) → o₂ ≡ sets o₁ 4 (record_bytes t)
    → Puts (value_bytes (value.Task (Some t))) 3 o o₂ 48
unfolding value_bytes record_bytes
task-put t o e r = record { buffer_is = run_on o 3 1 4 _ e refl refl r; length_is = sym (length-value_bytes (value.Task (Some t))) }

-- ---- an answer

pub answer-put : (a : Answer) (o : List ℕ) {o₁ o₂ o₃ : List ℕ} {x n : ℕ} → o₁ ≡ sets o 0 (bytes_of 1 x) → x ≡ status_number a.status
    → o₂ ≡ sets o₁ 1 (written (1 ∷ 1 ∷ []) (pick_numbers a.pick)) → Puts (value_bytes a.value) 3 o₂ o₃ n → Puts (answer_bytes a) 0 o o₃ (3 + n)
answer-put a o {o₁} {o₂} e v p w = record {
  buffer_is =
      run_on o 0 1 1 _ e v refl
      (behind o₁ 1 3 (written (1 ∷ 1 ∷ []) (pick_numbers a.pick)) (value_bytes a.value) p (ap (λ (n : ℕ). 1 + n) (sym (length-pick a.pick))) w.buffer_is)
      ∙ ap (sets o 0) (sym (answer_bytes_are a));
  length_is = ap (λ (n : ℕ). 3 + n) w.length_is ∙ sym (length-answer_bytes a);
}
