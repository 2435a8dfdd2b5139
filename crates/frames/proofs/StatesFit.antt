-- Document 01, "Task record, queues, holders": a call whose numbers fit keeps a state's numbers in their fields, so that of a state that has an image it
-- makes one that has an image. Acceptance bounds all numbers of a state but those that calls give and the microseconds; for these it goes by cases on
-- the ways out of a call. Then: the numbers of new fit, those of an accepted image, and those of a call that is read from a frame. Assumes nothing.
use mathlib.Core.Path.{◌≡◌, refl, sym, subst}
use mathlib.Core.List.{List, [], ◌∷◌}
use mathlib.Core.Logic.{⊎_elim}
use Prim.Native.Nat.{ℕ, ◌<◌, ◌^◌}
use native.Mathlib.Omega.{arith}
use lib.Dec.{eqb}
use lib.ListN.{length, get_or-replicate, drop}
use Rattle.std.specs.Prelude.{Option, None, Some}
use Rattle.records.specs.declared.band.QoSClass.{QoSClass}
use Rattle.records.specs.declared.band.QoSClass.TheVariants.{UserInteractive, RealTimeIO, Background}
use Rattle.records.specs.declared.ids.Slot.{Slot}
use Rattle.records.specs.declared.state.ThreadState.TheVariants.{Ready, Running}
use Rattle.records.specs.declared.task.TaskControlBlock.{TaskControlBlock}
use Rattle.records.specs.Band.{band_code, coded_band, slice}
use Rattle.records.specs.Lists.{Each}
use Rattle.records.specs.Mask.{stored_mask}
use Rattle.records.specs.ThreadState.{state_code}
use Rattle.records.specs.Task.{empty_record, created, with_state, with_mask, with_consumed, terminated, blocked, picked}
use Rattle.records.proofs.Bands.{band_code-small}
use Rattle.records.proofs.Cases.{by_if}
use Rattle.records.proofs.States.{state_code-small}
use Rattle.rules.specs.declared.call.Call.{Call}
use Rattle.rules.specs.Accepted.{Accepted}
use Rattle.rules.specs.Outcome.{Outcome, Chosen}
use Rattle.rules.specs.Paper.{flag_number}
use Rattle.rules.specs.Picking.{rule_p}
use Rattle.rules.specs.State.{State, new_state, task, with_task}
use Rattle.rules.specs.Step.{step}
use Rattle.rules.specs.Ticking.{stays_holder, gain, charged}
use Rattle.rules.specs.Waking.{free_slot}
use Rattle.rules.proofs.Calls.{new-accepted, call-accepted}
use Rattle.rules.proofs.Invariant.{Good, empty-good, everywhere, accepted-invariant}
use Rattle.rules.specs.declared.answer.Value.{Value}
use Rattle.rules.specs.Took.{Reach}
use Rattle.rules.proofs.Ways.{PEnd, picks_one, picks_none, P-way, Requeued, queued, not_queued, requeued_way, Deed, by_create, by_affinity, by_terminate}
use Rattle.rules.proofs.Ways.{by_block, by_wake, by_queueing, Timed, at_once, later, Approach, straight, clearing, slice_ends, yielding, Way, refuses, tells}
use Rattle.rules.proofs.Ways.{does, keeps, comes, way}
use Rattle.frames.specs.AcceptedImage.{AcceptedImage}
use Rattle.frames.specs.Bytes.{AllBytes, number_at, Fit}
use Rattle.frames.specs.Fits.{FitsCall, HasImage}
use Rattle.frames.specs.Frame.{arguments_length, create_in, calls_in, frame_call}
use Rattle.frames.specs.Image.{record_length, record_place, micros_place, record_in, record_at, state_at, FitsImage, FitsRecord}
use Rattle.frames.specs.Lines.{said}
use Rattle.frames.proofs.AcceptedImages.{accepted-state, has_image}
use Rattle.frames.proofs.Elements.{each_read, read_each, stored_read}
use Rattle.frames.proofs.Images.{flag_number-small, length-tasks, task-read}
use Rattle.frames.proofs.Widths.{bytes-part, number_small}

-- ---- what acceptance does not bound

-- those that calls give: tid, context, cr3, rsp0, mask. Of a record that is `changed` this says the same, where the mask stays.
abbrev Given : TaskControlBlock → Type 0
Given t = Fit (4 ∷ 8 ∷ 8 ∷ 8 ∷ 8 ∷ []) (t.tid.0 ∷ t.context_handle ∷ t.cr3 ∷ t.rsp0 ∷ t.cpu_affinity ∷ [])

-- those of every slot, and the microseconds
abbrev pub Bounded : State → Type 0
Bounded s = ((slot : ℕ) → Given (task s slot)) × (s.micros < 256 ^ 8)

slice-small : (q : QoSClass) → slice q < 256 ^ 4
slice-small UserInteractive = omega arith
slice-small RealTimeIO = omega arith
slice-small Background = omega arith

-- acceptance bounds the rest: budgets are 0 or a slice, consumed times are below one, and codes are small
record_fits_lem : (t : TaskControlBlock) → Good t → Given t → FitsRecord t
unfolding Fit
record_fits_lem t good (tid, (context, (cr3, (rsp0, (mask, _))))) =
    let band : band_code t.qos < 256 = omega (arith, band_code-small t.qos) in
    let state : state_code t.state < 256 = omega (arith, state_code-small t.state) in
    let small : slice t.qos < 256 ^ 4 = slice-small t.qos in
    let budget : t.slice_budget_us < 256 ^ 4 = ⊎_elim (λ e. omega arith) (λ e. omega arith) good.budget in
    let consumed : t.consumed_slice_us < 256 ^ 4 = omega (arith, good.consumed) in
    let flag : flag_number t.in_use < 256 = omega (arith, flag_number-small t.in_use) in
    (tid, (band, (state, (context, (cr3, (rsp0, (mask, (budget, (consumed, (flag, tt))))))))))

record_given : (t : TaskControlBlock) → FitsRecord t → Given t
unfolding Fit
record_given t (tid, (_, (_, (context, (cr3, (rsp0, (mask, _))))))) = (tid, (context, (cr3, (rsp0, (mask, tt)))))

empty_given : Given empty_record
unfolding Fit
empty_given = (omega arith, (omega arith, (omega arith, (omega arith, (omega arith, tt)))))

-- the same of states: a slot of 64 and above reads as the empty record
pub record_of : (s : State) → FitsImage s → (slot : ℕ) → FitsRecord (task s slot)
record_of s f = each_read FitsRecord s.tasks empty_record (record_fits_lem empty_record empty-good empty_given) f.records

pub fits_bounded : (s : State) → FitsImage s → Bounded s
fits_bounded s f = (λ slot. record_given (task s slot) (record_of s f slot), f.micros)

bounded_fits : (s : State) → Accepted s → Bounded s → FitsImage s
bounded_fits s a b =
    let k = accepted-invariant s a in
    record { records = read_each FitsRecord s.tasks empty_record (λ slot. record_fits_lem (task s slot) (k.good slot) (b.0 slot)); micros = b.1 }

-- ---- the rules keep the bounds

-- a record is stored; queues and holders do not matter
put : (s : State) (i : ℕ) (t : TaskControlBlock) → Given t → Bounded s → Bounded (with_task s i t)
put s i t new b = (stored_read Given s.tasks i t empty_record new b.0, b.1)

mask-small : (mask : ℕ) → mask < 256 ^ 8 → stored_mask mask < 256 ^ 8
mask-small mask small = by_if (λ (m : ℕ). m < 256 ^ 8) (eqb mask 0) (λ _. omega arith) (λ _. small)

-- no record is given other numbers, but by create and affinity
P-bounded : (c : ℕ) (s : State) {o : Chosen} → PEnd s c o → Bounded s → Bounded o.state
P-bounded c s (picks_one p) b = put s p.slot.0 (picked (task s p.slot.0)) (b.0 p.slot.0) b
P-bounded c s picks_none b = b

consumed_bounded : (i n : ℕ) (s : State) → Bounded s → Bounded (with_task s i (with_consumed (task s i) n))
consumed_bounded i n s b = put s i (with_consumed (task s i) n) (b.0 i) b

-- the microseconds are a sum modulo 2 ^ 64
gained_bounded : (elapsed : ℕ) (s : State) → Bounded s → Bounded (gain elapsed s)
gained_bounded elapsed s b = (b.0, omega arith)

queued_bounded : (i : ℕ) {s t : State} → Requeued i s t → Bounded s → Bounded t
queued_bounded i {s} queued b = put s i (with_state (task s i) Ready) (b.0 i) b
queued_bounded i not_queued b = b

module _ (s : State) (b : Bounded s) where
  deed_bounded : {call : Call} {v : Value} {t : State} → Deed s call v t → FitsCall call → Bounded t
  unfolding Fit
  deed_bounded (by_create tid band context cr3 rsp0 low) fit =
      put s (free_slot s) (created tid band context cr3 rsp0) (fit.0, (fit.1, (fit.2, (fit.3, (omega arith, tt))))) b
  deed_bounded (by_affinity i mask low) fit =
      let old = b.0 i.0 in
      put s i.0 (with_mask (task s i.0) (stored_mask mask)) (old.0, (old.1.0, (old.1.1.0, (old.1.1.1.0, (mask-small mask fit, tt))))) b
  deed_bounded (by_terminate i low) fit = put s i.0 (terminated (task s i.0)) (b.0 i.0) b
  deed_bounded (by_block i here awake) fit = put s i.0 (blocked (task s i.0)) (b.0 i.0) b
  deed_bounded (by_wake i here was held) fit = put s i.0 (with_state (task s i.0) Running) (b.0 i.0) b
  deed_bounded (by_queueing i named here idle) fit = put s i (with_state (task s i) Ready) (b.0 i) b

  timed_bounded : {u : State} → Timed s u → Bounded u
  timed_bounded at_once = b
  timed_bounded (later elapsed) = gained_bounded elapsed s b

  approach_bounded : {call : Call} {c : ℕ} {t u : State} → Approach s call c t u → Bounded t
  approach_bounded (straight gone) = timed_bounded gone
  approach_bounded (clearing gone h is blocked) = timed_bounded gone
  approach_bounded (slice_ends elapsed h is named awake ended) =
      queued_bounded h.0 (requeued_way h.0 (gain elapsed s)) (consumed_bounded h.0 0 (gain elapsed s) (gained_bounded elapsed s b))
  approach_bounded (yielding h is named runs) = put s h.0 (with_state (task s h.0) Ready) (b.0 h.0) b

  -- a holder that is charged and stays, and P
  pub kept_bounded : (h : Slot) (elapsed : ℕ) → Bounded (stays_holder h elapsed (gain elapsed s)).state
  kept_bounded h elapsed = consumed_bounded h.0 (charged h.0 elapsed s) (gain elapsed s) (gained_bounded elapsed s b)

  pub came_bounded : {call : Call} {c : ℕ} {t u : State} → c < 64 → Approach s call c t u → Bounded (rule_p c t).state
  came_bounded {c = c} {t} low by = P-bounded c t (P-way t c low) (approach_bounded by)

  way_bounded : {call : Call} {o : Outcome} {r : Reach} → Way s call o r → FitsCall call → Bounded o.state
  way_bounded (refuses e why) fit = b
  way_bounded (tells v of) fit = b
  way_bounded (does v t deed) fit = deed_bounded deed fit
  way_bounded (keeps how c elapsed h low is named awake on) fit = kept_bounded h elapsed
  way_bounded (comes how previous c t u low on-it is by) fit = came_bounded low by

  pub call_bounded : (call : Call) → FitsCall call → Bounded (step call s).state
  call_bounded call = way_bounded (way call s)

-- a call whose numbers fit leaves a state whose numbers fit
pub kept-fits : (call : Call) (s : State) → Accepted s → FitsCall call → FitsImage s → FitsImage (step call s).state
kept-fits call s a fit f = bounded_fits (step call s).state (call-accepted call s a) (call_bounded s (fits_bounded s f) call fit)

-- so of a state that has an image it makes one that has
pub call_has_image : (call : Call) (s : State) → FitsCall call → HasImage s → HasImage (step call s).state
call_has_image call s fit has =
    has_image (step call s).state (call-accepted call s has.accepted) (kept-fits call s has.accepted fit has.fits)

-- ---- where lists of calls start

-- new
pub new-fits : FitsImage new_state
new-fits =
    let all-empty : (slot : ℕ) → slot < 64 → Given (task new_state slot) =
    λ slot low. subst Given (sym (get_or-replicate 64 slot empty_record empty_record low)) empty_given in
    bounded_fits new_state new-accepted (everywhere Given new_state.tasks empty_record 64 refl empty_given all-empty, omega arith)

pub new_has_image : HasImage new_state
new_has_image = has_image new_state new-accepted new-fits

-- an accepted image: what is read fits
read_given : (bytes : List ℕ) → AllBytes bytes → Given (record_in bytes)
unfolding record_in Fit
read_given bytes h =
    (number_small 0 4 bytes h, (number_small 6 8 bytes h, (number_small 14 8 bytes h, (number_small 22 8 bytes h, (number_small 30 8 bytes h, tt)))))

pub image-fits : (image : List ℕ) → AcceptedImage image → FitsImage (state_at image)
unfolding state_at
image-fits image a =
    let all_read : (slot : ℕ) → slot < 64 → Given (task (state_at image) slot) = λ slot low.
    subst Given (sym (task-read image slot low)) (read_given (record_at slot image) (bytes-part (record_place slot) record_length image a.base.bytes)) in
    bounded_fits (state_at image) (accepted-state image a)
    (everywhere Given (state_at image).tasks empty_record 64 (length-tasks image) empty_given all_read, number_small micros_place 8 image a.base.bytes)

pub image_has_image : (image : List ℕ) → AcceptedImage image → HasImage (state_at image)
image_has_image image a = has_image (state_at image) (accepted-state image a) (image-fits image a)

-- ---- calls that are read from frames

-- no call, or one whose numbers fit
abbrev FitsRead : Option Call → Type 0
FitsRead None = Unit {0}
FitsRead (Some call) = FitsCall call

module _ (frame : List ℕ) (h : AllBytes frame) where
  create_fits : (b : Option QoSClass) → FitsRead (create_in b frame)
  create_fits None = tt
  create_fits (Some q) = (number_small 1 4 frame h, number_small 6 8 frame h, number_small 14 8 frame h, number_small 22 8 frame h)

  -- the table of calls
  table_fits : Each FitsRead (calls_in frame)
  unfolding Each
  table_fits =
      let rest : Each FitsRead (drop 2 (calls_in frame)) = (tt, (tt, (tt, (tt, (tt, (tt, (tt, (tt, (tt, (tt, (tt, (tt, (tt, (tt, (tt, tt))))))))))))))) in
      (create_fits (coded_band (number_at 5 1 frame)), (number_small 9 8 frame h, rest))

read_fits : (frame : List ℕ) → AllBytes frame → FitsRead (frame_call frame)
unfolding frame_call
read_fits [] h = tt
read_fits (call ∷ arguments) h =
    by_if FitsRead (eqb (length arguments) (arguments_length call))
    (λ _. each_read FitsRead (calls_in (call ∷ arguments)) None tt (table_fits (call ∷ arguments) h) call)
    (λ _. tt)

-- a call that is read from a frame has numbers that fit
pub frame-fits : (frame : List ℕ) (call : Call) → AllBytes frame → frame_call frame ≡ Some call → FitsCall call
frame-fits frame call h is = subst FitsRead is (read_fits frame h)

-- what a frame makes of a state that has an image has one too
said-image : (c : Option Call) (s : State) → FitsRead c → HasImage s → HasImage (said c s).state
said-image None s fit has = has
said-image (Some call) s fit has = call_has_image call s fit has

pub frame-image : (frame : List ℕ) (s : State) → AllBytes frame → HasImage s → HasImage (said (frame_call frame) s).state
frame-image frame s h = said-image (frame_call frame) s (read_fits frame h)
