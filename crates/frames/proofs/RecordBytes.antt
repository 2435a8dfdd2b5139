-- What the 47 bytes of a record say: the numbers that the code reads are the fields of the record that they stand for, and the tests of a record one
-- after the other. Where a number stands in a record is layout.rt's table. Assumes nothing.
use mathlib.Core.Path.{◌≡◌, refl, ap, ◌∙◌}
use mathlib.Core.Bool.{Bool, true, false, not, ◌&&◌, ◌||◌, beq, and_assoc}
use mathlib.Core.List.{List}
use Prim.Native.Nat.{ℕ}
use lib.Dec.{eqb, ltb}
use Rattle.std.specs.Prelude.{Option, None, Some, Result, ok_or}
use Rattle.std.specs.Result.{result_unwrap_or}
use Rattle.records.specs.declared.band.QoSClass.{QoSClass}
use Rattle.records.specs.declared.code.UnknownCode.{UnknownCode}
use Rattle.records.specs.declared.state.ThreadState.{ThreadState}
use Rattle.records.specs.declared.task.TaskControlBlock.{TaskControlBlock}
use Rattle.records.specs.declared.state.ThreadState.TheVariants.{Terminated}
use Rattle.records.specs.Band.{slice, coded_band}
use Rattle.records.specs.Code.{unknown_code}
use Rattle.records.specs.Task.{empty_record}
use Rattle.records.specs.ThreadState.{coded_state, is_state}
use Rattle.rules.specs.Accepted.{record_fits}
use Rattle.frames.specs.AcceptedImage.{codes_fit}
use Rattle.frames.specs.Image.{or_empty_band, band_of, or_empty_state, state_of, record_in}
use Rattle.frames.specs.Private.{IsNumber}

-- a code that is read, or what is put where it is none

band_or : (b : Option QoSClass) → result_unwrap_or (ok_or b unknown_code) empty_record.qos ≡ or_empty_band b
band_or None = refl
band_or (Some q) = refl

state_or : (s : Option ThreadState) → result_unwrap_or (ok_or s unknown_code) empty_record.state ≡ or_empty_state s
state_or None = refl
state_or (Some s) = refl

module _ {bytes : List ℕ} {n : ℕ} where
  -- band and state, by what their code reads as
  pub band_read : {r : Result QoSClass UnknownCode} {q : QoSClass} → IsNumber 4 1 bytes n → r ≡ ok_or (coded_band n) unknown_code →
      q ≡ result_unwrap_or r empty_record.qos → q ≡ (record_in bytes).qos
  unfolding record_in
  band_read is code e = e ∙ ap (λ (x : Result QoSClass UnknownCode). result_unwrap_or x empty_record.qos) code ∙ band_or (coded_band n) ∙ ap band_of is.is

  pub state_read : {r : Result ThreadState UnknownCode} {s : ThreadState} → IsNumber 5 1 bytes n → r ≡ ok_or (coded_state n) unknown_code →
      s ≡ result_unwrap_or r empty_record.state → s ≡ (record_in bytes).state
  unfolding record_in
  state_read is code e = e ∙ ap (λ (x : Result ThreadState UnknownCode). result_unwrap_or x empty_record.state) code ∙ state_or (coded_state n) ∙ ap state_of is.is

-- the record that all ten numbers make
pub record_read : {bytes : List ℕ} {r : TaskControlBlock} → IsNumber 0 4 bytes r.tid.0 → r.qos ≡ (record_in bytes).qos → r.state ≡ (record_in bytes).state →
    IsNumber 6 8 bytes r.context_handle → IsNumber 14 8 bytes r.cr3 → IsNumber 22 8 bytes r.rsp0 → IsNumber 30 8 bytes r.cpu_affinity →
    IsNumber 38 4 bytes r.slice_budget_us → IsNumber 42 4 bytes r.consumed_slice_us → r.in_use ≡ (record_in bytes).in_use → r ≡ record_in bytes
unfolding record_in
record_read tid qos state context cr3 rsp0 mask budget consumed in_use_lem = λ i. record {
  tid = record { 0 = tid.is i };
  qos = qos i;
  state = state i;
  context_handle = context.is i;
  cr3 = cr3.is i;
  rsp0 = rsp0.is i;
  cpu_affinity = mask.is i;
  slice_budget_us = budget.is i;
  consumed_slice_us = consumed.is i;
  in_use = in_use_lem i;
}

-- ---- the tests of a record, one after the other

same-is_not : (a b : Bool) → not (beq a b) ≡ beq a (not b)
same-is_not true true = refl
same-is_not true false = refl
same-is_not false true = refl
same-is_not false false = refl

module _ (bytes : List ℕ) where
  abbrev t : TaskControlBlock
  t = record_in bytes

  abbrev pub codes_use : Bool
  codes_use = codes_fit bytes && beq t.in_use (not (is_state t.state Terminated))

  abbrev pub codes_mask : Bool
  codes_mask = codes_use && not (eqb t.cpu_affinity 0)

  abbrev pub codes_budget : Bool
  codes_budget = codes_mask && (eqb t.slice_budget_us 0 || eqb t.slice_budget_us (slice t.qos))

  -- in use and Terminated differ
  pub use_tested : {r u e : Bool} → r ≡ not (beq u e) → u ≡ t.in_use → e ≡ is_state t.state Terminated → r ≡ beq t.in_use (not (is_state t.state Terminated))
  use_tested r u e = r ∙ (λ i. not (beq (u i) (e i))) ∙ same-is_not t.in_use (is_state t.state Terminated)

  pub mask_tested : {r : Bool} {m : ℕ} → r ≡ not (eqb m 0) → IsNumber 30 8 bytes m → r ≡ not (eqb t.cpu_affinity 0)
  unfolding record_in
  mask_tested r m = r ∙ ap (λ (n : ℕ). not (eqb n 0)) m.is

  pub budget_tested : {r : Bool} {b s : ℕ} → r ≡ eqb b 0 || eqb b s → IsNumber 38 4 bytes b → s ≡ slice t.qos →
      r ≡ eqb t.slice_budget_us 0 || eqb t.slice_budget_us (slice t.qos)
  unfolding record_in
  budget_tested r b s = r ∙ (λ i. eqb (b.is i) 0 || eqb (b.is i) (s i))

  pub consumed_tested : {n s : ℕ} → IsNumber 42 4 bytes n → s ≡ slice t.qos → ltb n s ≡ ltb t.consumed_slice_us (slice t.qos)
  unfolding record_in
  consumed_tested n s = λ i. ltb (n.is i) (s i)

  -- all of them
  pub record_tested : {r : Bool} → r ≡ codes_budget && ltb t.consumed_slice_us (slice t.qos) → r ≡ codes_fit bytes && record_fits t
  record_tested e = e ∙ simp and_assoc
