-- How many bytes an answer has: as many as its widths add up to, and never more than 51.
-- Assumes nothing.
use mathlib.Core.Path.{◌≡◌, refl, sym, ap, ◌∙◌}
use mathlib.Core.List.{List, [], ◌∷◌, ◌++◌, append_assoc}
use Prim.Native.Nat.{ℕ, suc, ◌+◌, ◌≤◌}
use native.Mathlib.Nat.{suc_inj, suc-ne-zero}
use native.Mathlib.Omega.{arith}
use lib.ListN.{length, length-append}
use Rattle.std.specs.Prelude.{Option, None, Some}
use Rattle.rules.specs.declared.call.Call.{Call}
use Rattle.rules.specs.declared.answer.Pick.{Pick}
use Rattle.records.specs.declared.ids.Slot.{Slot}
use Rattle.records.specs.declared.task.TaskControlBlock.{TaskControlBlock}
use Rattle.rules.specs.declared.answer.Answer.{Answer}
use Rattle.rules.specs.declared.answer.ContextSwitchTarget.{ContextSwitchTarget}
use Rattle.rules.specs.declared.answer.ContextSwitchTarget.TheVariants as target
use Rattle.rules.specs.declared.answer.Value.{Value}
use Rattle.rules.specs.declared.answer.Value.TheVariants as value
use Rattle.rules.specs.Paper.{paper, status_number, pick_numbers, value_numbers, record_numbers, slot_number, target_numbers}
use Rattle.rules.specs.State.{State}
use Rattle.rules.specs.Step.{step}
use Rattle.frames.specs.Answer.{record_widths, record_bytes, value_widths, answer_bytes}
use Rattle.frames.specs.Private.{value_bytes}
use Rattle.frames.specs.Bytes.{bytes_of, written, total}
use Rattle.frames.specs.Lines.{said, said_to, line_call}
use Rattle.frames.proofs.Numbers.{length-bytes_of}

-- ---- widths

pub length-written : (widths numbers : List ℕ) → length widths ≡ length numbers → length (written widths numbers) ≡ total widths
length-written [] numbers e = refl
length-written (width ∷ widths) [] e = absurd (suc-ne-zero _ e)
length-written (width ∷ widths) (x ∷ numbers) e =
    length-append (bytes_of width x) (written widths numbers)
    ∙ (λ i. length-bytes_of width x i + length-written widths numbers (suc_inj e) i)

-- two runs of numbers are one
pub written_append : (widths numbers widths' numbers' : List ℕ) → length widths ≡ length numbers
    → written (widths ++ widths') (numbers ++ numbers') ≡ written widths numbers ++ written widths' numbers'
written_append [] [] widths' numbers' e = refl
written_append [] (x ∷ numbers) widths' numbers' e = absurd (suc-ne-zero _ (sym e))
written_append (width ∷ widths) [] widths' numbers' e = absurd (suc-ne-zero _ e)
written_append (width ∷ widths) (x ∷ numbers) widths' numbers' e =
    ap (λ (bytes : List ℕ). bytes_of width x ++ bytes) (written_append widths numbers widths' numbers' (suc_inj e))
    ∙ sym (append_assoc (bytes_of width x) (written widths numbers) (written widths' numbers'))

-- ---- records, values, answers

pub length-record_bytes : (t : TaskControlBlock) → length (record_bytes t) ≡ 47
unfolding record_bytes
length-record_bytes t = length-written record_widths (record_numbers t) refl

as_many_plan : (previous : Option Slot) (t : ContextSwitchTarget) → 3 ≡ length (slot_number previous ∷ target_numbers t)
as_many_plan previous target.Idle = refl
as_many_plan previous (target.Task s cr3) = refl

-- every value has a number for each of its widths
pub as_many : (v : Value) → length (value_widths v) ≡ length (value_numbers v)
as_many value.Nothing = refl
as_many (value.Slot s) = refl
as_many (value.Core c) = refl
as_many (value.Plan None) = refl
as_many (value.Plan (Some p)) = ap suc (as_many_plan p.prev_task_idx p.target)
as_many (value.Flag b) = refl
as_many (value.Task None) = refl
as_many (value.Task (Some t)) = refl
as_many (value.Micros n) = refl

pub length-value_bytes : (v : Value) → length (value_bytes v) ≡ total (value_widths v)
unfolding value_bytes
length-value_bytes v = length-written (value_widths v) (value_numbers v) (as_many v)

pub value_fits : (v : Value) → total (value_widths v) ≤ 48
value_fits value.Nothing = omega arith
value_fits (value.Slot s) = omega arith
value_fits (value.Core c) = omega arith
value_fits (value.Plan None) = omega arith
value_fits (value.Plan (Some p)) = omega arith
value_fits (value.Flag b) = omega arith
value_fits (value.Task None) = omega arith
value_fits (value.Task (Some t)) = omega arith
value_fits (value.Micros n) = omega arith

-- status, pick, value
pub answer_bytes_are : (a : Answer) → answer_bytes a ≡ bytes_of 1 (status_number a.status) ++ (written (1 ∷ 1 ∷ []) (pick_numbers a.pick) ++ value_bytes a.value)
unfolding answer_bytes value_bytes paper bytes_of
answer_bytes_are a = by_pick a.pick
  where
    by_pick : (p : Option Pick) →
        written (1 ∷ 1 ∷ 1 ∷ value_widths a.value) (status_number a.status ∷ (pick_numbers p ++ value_numbers a.value))
        ≡ bytes_of 1 (status_number a.status) ++ (written (1 ∷ 1 ∷ []) (pick_numbers p) ++ written (value_widths a.value) (value_numbers a.value))
    by_pick None = refl
    by_pick (Some p) = refl

pub length-pick : (p : Option Pick) → length (written (1 ∷ 1 ∷ []) (pick_numbers p)) ≡ 2
length-pick None = length-written (1 ∷ 1 ∷ []) (pick_numbers None) refl
length-pick (Some p) = length-written (1 ∷ 1 ∷ []) (pick_numbers (Some p)) refl

pub length-answer_bytes : (a : Answer) → length (answer_bytes a) ≡ 3 + length (value_bytes a.value)
length-answer_bytes a =
    ap length (answer_bytes_are a)
    ∙ length-append (bytes_of 1 (status_number a.status)) _
    ∙ (λ i. length-bytes_of 1 (status_number a.status) i + length-append (written (1 ∷ 1 ∷ []) (pick_numbers a.pick)) (value_bytes a.value) i)
    ∙ ap (λ (n : ℕ). 1 + (n + length (value_bytes a.value))) (length-pick a.pick)
    ∙ omega arith

pub answer-fits : (a : Answer) → length (answer_bytes a) ≤ 51
answer-fits a = omega (arith, value_fits a.value, length-value_bytes a.value, length-answer_bytes a)

-- a buffer of 51 bytes has room for what any line is answered
pub said_fits : (line : List ℕ) (s : State) → length (said_to line s).bytes ≤ 51
unfolding said_to
said_fits line s = fits (line_call line)
  where
    fits : (c : Option Call) → length (said c s).bytes ≤ 51
    fits None = omega arith
    fits (Some c) = answer-fits (step c s).answer
