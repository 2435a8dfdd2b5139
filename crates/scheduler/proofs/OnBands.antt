-- Rule P as the code goes through it: a band's queue is looked through for an entry that may use the core, the bands in their order; the first
-- one found leaves its queue and runs. Assumes nothing.
use Rattle.std.proofs.Common.{◌≡◌, ℕ, ◌<◌, ◌≤◌, Bool, true, false, List, length, get_or, set, sym, refl, ap, ◌∙◌, subst, arith, get_or-set_same, lt-ltb, le-ltb}
use borrow.Author.Tests.{ltb-false}
use Rattle.std.specs.Prelude.{Option, None, Some}
use Rattle.records.specs.declared.band.QoSClass.{QoSClass}
use Rattle.records.specs.declared.band.QoSClass.TheVariants.{UserInteractive, RealTimeIO, Background}
use Rattle.records.specs.declared.ids.Slot.{Slot}
use Rattle.records.specs.declared.task.TaskControlBlock.{TaskControlBlock}
use Rattle.records.specs.Band.{band_code}
use Rattle.records.specs.Mask.{permits}
use Rattle.records.specs.Task.{empty_record, picked}
use Rattle.queue.specs.declared.BandQueue.{BandQueue}
use Rattle.queue.specs.Entries.{entry_at, taken_at}
use Rattle.queue.specs.Stored.{entries}
use Rattle.queue.proofs.Entries.{entry_at_in, entry_at-past, entry_at-some}
use Rattle.rules.specs.declared.answer.Answer.{Answer}
use Rattle.rules.specs.declared.answer.ContextSwitchTarget.{ContextSwitchTarget}
use Rattle.rules.specs.declared.answer.ContextSwitchTarget.TheVariants.{Task}
use Rattle.rules.specs.Accepted.{Accepted, ReadyOf, accepts}
use Rattle.rules.specs.Outcome.{Chosen, answered}
use Rattle.rules.specs.State.{State, none_byte, band_order, task, queue, with_band}
use Rattle.rules.specs.Picking.{permitted, place_for, first_permitted, waits_in, choice, after_pick, rule_p, schedule}
use Rattle.rules.proofs.Accepts.{accepts_complete}
use Rattle.rules.proofs.Calls.{call-accepted}
use Rattle.rules.specs.declared.call.Call.TheVariants.{Schedule}
use Rattle.rules.proofs.Invariant.{ready_in_table}
use Rattle.rules.proofs.Picks.{P-below}
use Rattle.scheduler.specs.declared.picking.Form.{Form}
use Rattle.scheduler.specs.declared.scheduler.QoSScheduler.{QoSScheduler}
use Rattle.scheduler.specs.Private.{IsFirst, Gives, answer_in, who_runs}
use Rattle.scheduler.specs.Scheduler.{abs}
use Rattle.scheduler.specs.Stored.{queues_of, state_of}
use Rattle.scheduler.proofs.Arrays.{valid, slots, record_at_lem, queue_at_lem, queue_changed}
use Rattle.scheduler.proofs.Promises.{gives-chosen}
use Rattle.scheduler.proofs.Searches.{first_at}

-- ---- looking through one band

-- an entry stands at a place before the end
pub entry_there : (place : ℕ) (es : List ℕ) {o : Option Slot} → o ≡ entry_at place es → place < length es → (e : Slot) × (o ≡ Some e)
unfolding entry_at
entry_there place es is low = (record { 0 = get_or es place 0 }, is ∙ rw (lt-ltb place (length es) low) refl)

-- nothing before the place may use the core
abbrev pub NoneBefore : State → ℕ → QoSClass → ℕ → Type 0
NoneBefore s core band place = (k : ℕ) → k < place → permitted s core (get_or (queue s band) k 0) ≡ false

-- an entry is a Ready slot of its band, and so one of the table
ready_at : (s : QoSScheduler) (band : QoSClass) (place : ℕ) {slot : ℕ} → place < length (queue (abs s) band) →
    get_or (queue (abs s) band) place 0 ≡ slot →
    ReadyOf band (task (abs s) slot)
ready_at s band place low is = subst (λ (i : ℕ). ReadyOf band (task (abs s) i)) is ((valid s).entries band place low)

in_table : (s : QoSScheduler) (band : QoSClass) {slot : ℕ} → ReadyOf band (task (abs s) slot) → slot < 64
in_table s band {slot} r = ready_in_table (abs s) (valid s).slots slot r.ready

module _ (s : QoSScheduler) (core : ℕ) (band : QoSClass) {n : ℕ} (code : n ≡ band_code band) (d : BandQueue) where
  queue_is : entries (get_or s.queues n d) ≡ queue (abs s) band
  queue_is = queue_at_lem s band code d

  -- all were looked at
  pub none_waits : (place : ℕ) → NoneBefore (abs s) core band place → {len : ℕ} → len ≡ length (entries (get_or s.queues n d)) →
      place ≤ len → len ≤ place → waits_in (abs s) core band ≡ false
  none_waits place before len-is up past =
      let all : place ≡ length (queue (abs s) band) = omega (arith, len-is, ap length queue_is) in
      rw (first_at (permitted (abs s) core) (queue (abs s) band) place 0 (omega arith) before (λ h. absurd (omega arith)))
      (le-ltb place (length (queue (abs s) band)) (omega arith))

  module _ (place : ℕ) (e : Slot) (some : Some e ≡ entry_at place (entries (get_or s.queues n d))) where
    here : (place < length (queue (abs s) band)) × (get_or (queue (abs s) band) place 0 ≡ e.0)
    here = entry_at-some place (queue (abs s) band) e (ap (entry_at place) (sym queue_is) ∙ sym some)

    pub entry_low : e.0 < 64
    entry_low = in_table s band (ready_at s band place here.0 here.1)

    module _ (dt : TaskControlBlock) {b : Bool} (asked : b ≡ permits (get_or s.tasks e.0 dt).cpu_affinity core) where
      may : permitted (abs s) core (get_or (queue (abs s) band) place 0) ≡ b
      may =
          ap (permitted (abs s) core) here.1
          ∙ ap (λ (r : TaskControlBlock). permits r.cpu_affinity core) (sym (record_at_lem s e.0 dt entry_low))
          ∙ sym asked

      pub entry_first : NoneBefore (abs s) core band place → b ≡ true → IsFirst (abs s) core band (place, e)
      entry_first before passes = record {
        place_is = first_at (permitted (abs s) core) (queue (abs s) band) place 0 (omega (arith, here.0)) before (λ _. may ∙ passes);
        in_queue = here.0;
        entry_is = here.1;
        in_table = entry_low;
      }

      pub entry_fails : b ≡ false → permitted (abs s) core (get_or (queue (abs s) band) place 0) ≡ false
      entry_fails fails = may ∙ fails

-- ---- the bands in their order

-- no band before this place has an entry that may use the core
abbrev pub NoBandBefore : State → ℕ → ℕ → Type 0
NoBandBefore s core n = (b : QoSClass) → band_code b < n → waits_in s core b ≡ false

module _ (s : State) (core : ℕ) where
  nobody : (b : QoSClass) → waits_in s core b ≡ false → first_permitted s core b ≡ None
  nobody b none = entry_at-past (place_for s core b) (queue s b) (ltb-false (place_for s core b) (length (queue s b)) none)

  chosen : (b : QoSClass) (e : Slot) → first_permitted s core b ≡ Some e → NoBandBefore s core (band_code b) →
      choice s core band_order ≡ Some (record { slot = e; band = b })
  unfolding choice
  chosen UserInteractive e first before = rw first refl
  chosen RealTimeIO e first before = rw (nobody UserInteractive (before UserInteractive (omega arith)), first) refl
  chosen Background e first before =
      rw (nobody UserInteractive (before UserInteractive (omega arith)), nobody RealTimeIO (before RealTimeIO (omega arith)), first) refl

  none-chosen : {n : ℕ} → NoBandBefore s core n → 3 ≤ n → choice s core band_order ≡ None
  unfolding choice
  none-chosen before past =
      rw (
        nobody UserInteractive (before UserInteractive (omega arith)),
        nobody RealTimeIO (before RealTimeIO (omega arith)),
        nobody Background (before Background (omega arith)),
      ) refl

-- ---- what P comes to, and how it is told

module _ (s : QoSScheduler) (core : ℕ) (low : core < 64) where
  -- what P leaves is accepted
  pub pick_kept : {c : Chosen} → rule_p core (abs s) ≡ c → accepts c.state ≡ true
  unfolding schedule
  pick_kept {c} comes = accepts_complete c.state (subst (λ (d : Chosen). Accepted d.state) comes (call-accepted (Schedule core) (abs s) (valid s)))

  -- nobody may use the core
  pub pick_none : {n : ℕ} → NoBandBefore (abs s) core n → 3 ≤ n →
      rule_p core (abs s) ≡ record { next = None; pick = None; state = state_of s.tasks s.queues (set s.current core none_byte) s.system_ticks_us }
  unfolding abs
  pick_none before past = P-below (abs s) core low ∙ ap (after_pick (abs s) core) (none-chosen (abs s) core before past)

  -- the first who may leaves the queue and runs
  module _ {band : QoSClass} {place : ℕ} {e : Slot} (first : IsFirst (abs s) core band (place, e)) where
    ready : ReadyOf band (task (abs s) e.0)
    ready = ready_at s band place first.in_queue first.entry_is

    module _ {n index : ℕ} (code : n ≡ band_code band) (at : index ≡ band_code band) (before : NoBandBefore (abs s) core index) (d : BandQueue)
        (q : BandQueue) (left : entries q ≡ taken_at place (entries (get_or s.queues n d))) (dt : TaskControlBlock) {u : TaskControlBlock}
        (u-is : u ≡ picked (get_or s.tasks e.0 dt)) where
      abbrev read : TaskControlBlock
      read = get_or s.tasks e.0 dt

      read_is : read ≡ task (abs s) e.0
      read_is = record_at_lem s e.0 dt first.in_table

      chosen_is : choice (abs s) core band_order ≡ Some (record { slot = e; band = band })
      chosen_is =
          chosen (abs s) core band e
          (ap (λ (k : ℕ). entry_at k (queue (abs s) band)) first.place_is ∙ entry_at_in place (queue (abs s) band) e first.in_queue first.entry_is)
          (subst (NoBandBefore (abs s) core) at before)

      queues_are : with_band (queues_of s.queues) band (taken_at (place_for (abs s) core band) (queue (abs s) band)) ≡ queues_of (set s.queues n q)
      unfolding abs
      queues_are =
          ap (λ (k : ℕ). with_band (queues_of s.queues) band (taken_at k (queue (abs s) band))) first.place_is
          ∙ sym (queue_changed s.queues s.bands band code d (taken_at place) q left)

      pub pick_comes : rule_p core (abs s) ≡ record {
        next = Some e;
        pick = Some (record { slot = e; band = band });
        state = state_of (set s.tasks e.0 u) (set s.queues n q) (set s.current core e.0) s.system_ticks_us;
      }
      unfolding abs
      pick_comes =
          P-below (abs s) core low
          ∙ ap (after_pick (abs s) core) chosen_is
          ∙ (λ i. record {
            next = Some e;
            pick = Some (record { slot = e; band = band });
            state = record {
              tasks = set s.tasks e.0 ((ap picked (sym read_is) ∙ sym u-is) i);
              queues = queues_are i;
              holders = set s.current core e.0;
              micros = s.system_ticks_us;
            };
          })

      -- told of the scheduler by the name that it had first
      pub pick_gives : (f : Form) {t m : QoSScheduler} → s ≡ t → {to : ContextSwitchTarget} → to ≡ Task e read.cr3 → {a : Answer} →
          a ≡ answered (Some (record { slot = e; band = read.qos })) (who_runs f to) →
          abs m ≡ state_of (set s.tasks e.0 u) (set s.queues n q) (set s.current core e.0) s.system_ticks_us →
          Gives (answer_in f (rule_p core (abs t))) (record { answer = a; state = m })
      pick_gives f same {to} to-is a-is state =
          gives-chosen f (ap (λ (r : QoSScheduler). rule_p core (abs r)) (sym same) ∙ pick_comes)
          (to-is
          ∙ ap (λ (r : TaskControlBlock). Task e r.cr3) (sym u-is ∙ sym (get_or-set_same s.tasks e.0 u empty_record (omega (arith, first.in_table, slots s)))))
          (a-is ∙ (λ i. answered (Some (record { slot = e; band = (ap (λ (r : TaskControlBlock). r.qos) read_is ∙ ready.in_band) i })) (who_runs f to)))
          state
