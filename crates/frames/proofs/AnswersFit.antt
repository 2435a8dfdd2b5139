-- Document 01, "Call frames": the numbers of an answer fit their fields, in every accepted state whose own numbers fit. Slots come from the table,
-- from holders and from picks, and a pick is its core's holder in the state that is left; cores are below 64; the numbers of records and plans are
-- the state's. Assumes nothing.
use mathlib.Core.Path.{◌≡◌, refl, subst, ◌∙◌}
use mathlib.Core.Bool.{false}
use mathlib.Core.List.{List, [], ◌∷◌, ◌++◌}
use Prim.Native.Nat.{ℕ, ◌+◌, ◌%◌, ◌≤◌, ◌<◌}
use native.Mathlib.Omega.{arith}
use borrow.Author.Tests.{leb-false}
use lib.Dec.{leb, eqb}
use lib.ListN.{length, length-set}
use lib.Seq.{sets, get_or-set_same}
use Rattle.std.specs.Prelude.{Option, None, Some}
use Rattle.rules.specs.declared.answer.ContextSwitchPlan.{ContextSwitchPlan}
use Rattle.rules.specs.declared.answer.Pick.{Pick}
use Rattle.records.specs.declared.task.TaskControlBlock.{TaskControlBlock}
use Rattle.records.specs.declared.ids.Slot.{Slot}
use Rattle.records.specs.declared.error.SchedError.{SchedError}
use Rattle.records.specs.declared.error.SchedError.TheVariants.{TableFull, QueueFull, NoSuchTask, AlreadyReady, AlreadyBlocked, NotBlocked}
use Rattle.records.specs.Error.{error_code}
use Rattle.records.proofs.Bands.{band_code-small}
use Rattle.records.proofs.Cases.{by_if}
use Rattle.records.specs.Band.{band_code}
use Rattle.rules.specs.declared.answer.Answer.{Answer}
use Rattle.rules.specs.declared.answer.Value.{Value}
use Rattle.rules.specs.declared.answer.Value.TheVariants as value
use Rattle.rules.specs.declared.call.Call.{Call}
use Rattle.rules.specs.Accepted.{Accepted}
use Rattle.rules.specs.Outcome.{Outcome, Chosen, answered, refusal}
use Rattle.rules.specs.Paper.{paper, status_number, pick_numbers, slot_number, core_number, target_numbers, value_numbers}
use Rattle.rules.specs.Picking.{after_pick, rule_p}
use Rattle.rules.specs.Queries.{slot_below, task_at, holder_record, current_task_on_cpu, core_of}
use Rattle.rules.specs.State.{State, none_byte, holder, holder_of}
use Rattle.rules.specs.Step.{step}
use Rattle.rules.specs.Ticking.{stays_holder, gain, target_of, same, plan_of}
use Rattle.rules.specs.Waking.{free_slot, core_holding}
use Rattle.rules.proofs.Calls.{call-accepted}
use Rattle.rules.specs.Took.{Reach}
use Rattle.rules.proofs.Ways.{PEnd, picks_one, picks_none, P-way, Telling, by_slot, plan_telling, told_as, Tells, nobody, no_plan, a_flag, a_slot, a_core}
use Rattle.rules.proofs.Ways.{a_record, a_holder, the_time, Deed, by_create, by_affinity, by_terminate, by_block, by_wake, by_queueing, Way, refuses, tells}
use Rattle.rules.proofs.Ways.{does, keeps, comes, way}
use Rattle.frames.specs.Answer.{value_widths, answer_bytes, pick_in}
use Rattle.frames.specs.Private.{value_bytes}
use Rattle.frames.specs.Bytes.{bytes_of, written, numbers_at, Fit}
use Rattle.frames.specs.Fits.{FitsAnswer}
use Rattle.frames.specs.Image.{FitsImage}
use Rattle.frames.proofs.AcceptedImages.{holder_small}
use Rattle.frames.proofs.Images.{flag_number-small}
use Rattle.frames.proofs.StatesFit.{Bounded, record_of, fits_bounded, kept_bounded, came_bounded}
use Rattle.frames.proofs.Sizes.{length-answer_bytes, answer-fits}
use Rattle.frames.proofs.Stores.{sets_read}
use Rattle.frames.proofs.Widths.{numbers_at-written}

-- ---- an answer from its parts

abbrev SlotFits : Option Slot → Type 0
SlotFits o = slot_number o < 256

abbrev PickFits : Option Pick → Type 0
PickFits None = Unit {0}
PickFits (Some p) = p.slot.0 < 256

abbrev ValueFits : Value → Type 0
ValueFits v = Fit (value_widths v) (value_numbers v)

error_small : (e : SchedError) → error_code e < 256
error_small TableFull = omega arith
error_small QueueFull = omega arith
error_small NoSuchTask = omega arith
error_small AlreadyReady = omega arith
error_small AlreadyBlocked = omega arith
error_small NotBlocked = omega arith

refusal-fits : (e : SchedError) → FitsAnswer (refusal e)
unfolding Fit paper
refusal-fits e = (error_small e, (omega arith, (omega arith, tt)))

-- done, with a pick and a value
answered-fits : (p : Option Pick) (v : Value) → PickFits p → ValueFits v → FitsAnswer (answered p v)
unfolding Fit paper
answered-fits None v low fit = (omega arith, (omega arith, (omega arith, fit)))
answered-fits (Some p) v low fit = (omega arith, (low, (omega (arith, band_code-small p.band), fit)))

-- ---- who is to run on a core

holder-fits : (s : State) → Accepted s → (core : ℕ) → SlotFits (holder_of s core)
holder-fits s a core = by_if SlotFits (eqb (holder s core) none_byte) (λ _. omega arith) (λ _. holder_small s a core)

-- where the state that a choice leaves is accepted, who is to run fits a byte, and the pick too
abbrev NextFits : Chosen → Type 0
NextFits c = Accepted c.state → SlotFits c.next × PickFits c.pick

-- a pick is then the core's holder
P-next : (s : State) (c : ℕ) → c < 64 → {o : Chosen} → PEnd s c o → NextFits o
P-next s c low picks_none a = (omega arith, tt)
P-next s c low (picks_one p) a =
    let i : ℕ = p.slot.0 in
    let t : State = (after_pick s c (Some p)).state in
    let held : holder t c ≡ i = get_or-set_same s.holders c i none_byte (omega (arith, a.cores, length-set s.holders c i)) in
    let small : i < 256 = omega (arith, holder_small t a c) in
    (small, small)

-- ---- plans

plan_fits : (s : State) → Bounded s → (previous next : Option Slot) → SlotFits previous → SlotFits next → ValueFits (value.Plan (plan_of previous next s))
unfolding Fit
plan_fits s b previous next from to =
    by_if (λ (p : Option ContextSwitchPlan). ValueFits (value.Plan p)) (same previous next) (λ _. (omega arith, tt)) (λ _. (omega arith, (from, target next to)))
  where
    target : (o : Option Slot) → SlotFits o → Fit (1 ∷ 8 ∷ []) (target_numbers (target_of o s))
    target None low = (omega arith, (omega arith, tt))
    target (Some n) low = (low, ((b.0 n.0).1.1.0, tt))

-- who is to run, told as a slot or as a plan, where the state that is left is accepted and bounded
telling_fits : (how : Telling) (previous : Option Slot) (c : Chosen) → SlotFits previous → NextFits c → Accepted c.state → Bounded c.state →
    FitsAnswer (told_as how previous c).answer
unfolding Fit
telling_fits by_slot previous c from next after b = answered-fits c.pick (value.Slot c.next) (next after).1 ((next after).0, tt)
telling_fits plan_telling previous c from next after b =
    answered-fits c.pick (value.Plan (plan_of previous c.next c.state)) (next after).1 (plan_fits c.state b previous c.next from (next after).0)

-- ---- queries

below-fits : (n : ℕ) → leb 64 n ≡ false → n < 256
below-fits n low = let small : n < 64 = leb-false 64 n low in omega arith

index_fits : (n : ℕ) → SlotFits (slot_below n)
index_fits n = by_if SlotFits (leb 64 n) (λ _. omega arith) (below-fits n)

abbrev CoreFits : Option ℕ → Type 0
CoreFits o = core_number o < 256

core_fits_lem : (i : ℕ) (s : State) → CoreFits (core_of i s)
unfolding core_of
core_fits_lem i s =
    by_if CoreFits (leb 64 i) (λ _. omega arith) (λ _.
    by_if CoreFits (leb 64 (core_holding s i)) (λ _. omega arith) (below-fits (core_holding s i)))

abbrev TaskFits : Option TaskControlBlock → Type 0
TaskFits o = ValueFits (value.Task o)

task-fits : (s : State) → FitsImage s → (i : ℕ) → TaskFits (task_at i s)
unfolding task_at Fit
task-fits s f i = by_if TaskFits (leb 64 i) (λ _. (omega arith, tt)) (λ _. (omega arith, record_of s f i))

current-fits : (s : State) → FitsImage s → (core : ℕ) → TaskFits (current_task_on_cpu core s)
unfolding current_task_on_cpu Fit
current-fits s f core = by_if TaskFits (leb 64 core) (λ _. (omega arith, tt)) (λ _. of (holder_of s core))
  where
    of : (h : Option Slot) → TaskFits (holder_record h s)
    of None = (omega arith, tt)
    of (Some h) = task-fits s f h.0

-- ---- every call and query

module _ (s : State) (a : Accepted s) (f : FitsImage s) where
  tells_fits : {v : Value} → Tells s v → ValueFits v
  unfolding Fit
  tells_fits nobody = (omega arith, tt)
  tells_fits no_plan = (omega arith, tt)
  tells_fits (a_flag b) = (omega (arith, flag_number-small b), tt)
  tells_fits (a_slot n) = (index_fits n, tt)
  tells_fits (a_core i) = (core_fits_lem i s, tt)
  tells_fits (a_record i) = task-fits s f i
  tells_fits (a_holder c) = current-fits s f c
  tells_fits the_time = (f.micros, tt)

  deed_fits : {call : Call} {v : Value} {t : State} → Deed s call v t → ValueFits v
  unfolding Fit
  deed_fits (by_create tid band context cr3 rsp0 low) = (let small : free_slot s < 256 = omega (arith, low) in small, tt)
  deed_fits (by_affinity i mask low) = tt
  deed_fits (by_terminate i low) = tt
  deed_fits (by_block i here awake) = tt
  deed_fits (by_wake i here was held) = tt
  deed_fits (by_queueing i named here idle) = tt

  way_fits : {call : Call} {o : Outcome} {r : Reach} → Way s call o r → Accepted o.state → FitsAnswer o.answer
  way_fits (refuses e why) after = refusal-fits e
  way_fits (tells v of) after = answered-fits None v tt (tells_fits of)
  way_fits (does v t deed) after = answered-fits None v tt (deed_fits deed)
  way_fits (keeps how c elapsed h low is named awake on) after =
      let from : SlotFits (Some h) = subst SlotFits is (holder-fits s a c) in
      telling_fits how (Some h) (stays_holder h elapsed (gain elapsed s)) from (λ _. (from, tt)) after (kept_bounded s (fits_bounded s f) h elapsed)
  way_fits (comes how previous c t u low on-it is by) after =
      telling_fits how previous (rule_p c t) (subst SlotFits is (holder-fits s a c)) (P-next t c low (P-way t c low)) after
      (came_bounded s (fits_bounded s f) low by)

-- no number of an answer is too large for its field
pub answer-fits_widths : (call : Call) (s : State) → Accepted s → FitsImage s → FitsAnswer (step call s).answer
answer-fits_widths call s a f = way_fits s a f (way call s) (call-accepted call s a)

-- so each is read back from the answer's bytes: its status, the slot and the band of its pick, and its value
pub answer-read : (call : Call) (s : State) → Accepted s → FitsImage s →
    let a = (step call s).answer in numbers_at 0 (1 ∷ 1 ∷ 1 ∷ value_widths a.value) (answer_bytes a) ≡ paper a
unfolding answer_bytes
answer-read call s a f = numbers_at-written _ (paper (step call s).answer) (answer-fits_widths call s a f)

-- the pick stands behind the status, in whatever buffer the answer is stored
pick-behind : (status : ℕ) (p : Option Pick) (widths numbers : List ℕ) → Fit (1 ∷ 1 ∷ 1 ∷ widths) (status ∷ (pick_numbers p ++ numbers)) →
    pick_in (written (1 ∷ 1 ∷ 1 ∷ widths) (status ∷ (pick_numbers p ++ numbers))) ≡ pick_numbers p
unfolding Fit bytes_of
pick-behind status None widths numbers fit = refl
pick-behind status (Some p) widths numbers fit =
    let slot : p.slot.0 % 256 ≡ p.slot.0 = omega (arith, fit.1.0) in
    let band : band_code p.band % 256 ≡ band_code p.band = omega (arith, band_code-small p.band) in
    λ i. slot i ∷ band i ∷ []

pub pick-told : (call : Call) (s : State) → Accepted s → FitsImage s → (o : List ℕ) → 51 ≤ length o →
    let a = (step call s).answer in pick_in (sets o 0 (answer_bytes a)) ≡ pick_numbers a.pick
unfolding answer_bytes paper
pick-told call s a f o room =
    let answer : Answer = (step call s).answer in
    let long : length (answer_bytes answer) ≡ 3 + length (value_bytes answer.value) = length-answer_bytes answer in
    let whole : length (answer_bytes answer) ≤ length o = omega (arith, room, answer-fits answer) in
    (λ i. sets_read o (answer_bytes answer) 1 whole (omega (arith, long)) i ∷ sets_read o (answer_bytes answer) 2 whole (omega (arith, long)) i ∷ [])
    ∙ pick-behind (status_number answer.status) answer.pick (value_widths answer.value) (value_numbers answer.value) (answer-fits_widths call s a f)
