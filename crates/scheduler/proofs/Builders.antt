-- The stored scheduler put together: three queues, what its ghost field asks for, and a scheduler for every accepted state. Assumes nothing.
use Rattle.std.proofs.Common.{◌≡◌, true, ℕ, List, [], ◌∷◌, length, get_or, set, refl, ap, ◌∙◌}
use Rattle.std.specs.Prelude.{Result}
use Rattle.records.specs.declared.error.SchedError.{SchedError}
use Rattle.records.specs.declared.ids.Slot.{Slot}
use Rattle.records.specs.declared.task.TaskControlBlock.{TaskControlBlock}
use Rattle.records.specs.Band.{band_code, IsBandCode}
use Rattle.records.specs.declared.band.QoSClass.{QoSClass}
use Rattle.records.specs.declared.band.QoSClass.TheVariants.{UserInteractive, RealTimeIO, Background}
use Rattle.queue.specs.declared.BandQueue.{BandQueue}
use Rattle.queue.specs.Entries.{pushed}
use Rattle.queue.specs.Promises.{Push}
use Rattle.queue.specs.Stored.{entries}
use Rattle.queue.proofs.Stored.{stored}
use Rattle.rules.specs.Accepted.{Accepted, accepts}
use Rattle.rules.specs.State.{State, Queues, task, queue, with_task, with_queues, with_queue, with_holders, with_holder, with_micros}
use Rattle.rules.proofs.Accepts.{accepts_complete}
use Rattle.scheduler.specs.declared.scheduler.QoSScheduler.{QoSScheduler}
use Rattle.scheduler.specs.Stored.{queues_of, state_of}
use Rattle.scheduler.proofs.Arrays.{queue_changed}
use Rattle.scheduler.specs.Scheduler.{abs}

-- a queue for each band
pub three_hold : (a b c : BandQueue) {q : Queues} → entries a ≡ q.interactive → entries b ≡ q.real_time → entries c ≡ q.background →
    queues_of (a ∷ b ∷ c ∷ []) ≡ q
unfolding queues_of
three_hold a b c a-is b-is c-is = λ i. record { interactive = a-is i; real_time = b-is i; background = c-is i }

-- parts that hold an accepted state may be stored
pub accepted_as : {s t : State} → s ≡ t → Accepted t → accepts s ≡ true
accepted_as {t = t} is ok = ap accepts is ∙ accepts_complete t ok

-- every accepted state is held by some scheduler
module _ (t : State) (ok : Accepted t) where
  band_stored : (b : QoSClass) → (q : BandQueue) × (entries q ≡ queue t b)
  band_stored b = stored (queue t b) (ok.lengths b)

  abbrev three_stored : List BandQueue
  three_stored = (band_stored UserInteractive).0 ∷ (band_stored RealTimeIO).0 ∷ (band_stored Background).0 ∷ []

  holds : with_queues t (queues_of three_stored) ≡ t
  holds = ap (with_queues t) (three_hold _ _ _ (band_stored UserInteractive).1 (band_stored RealTimeIO).1 (band_stored Background).1)

  pub stored_as : (s : QoSScheduler) × (abs s ≡ t)
  unfolding abs
  stored_as = (
    record { tasks = t.tasks; queues = three_stored; current = t.holders; system_ticks_us = t.micros; bands = refl; accepted = accepted_as holds ok },
    holds,
  )

-- ---- a part replaced, with what is held then

module _ {tasks : List TaskControlBlock} (queues : List BandQueue) {current : List ℕ} {micros : ℕ} {now : State} (holds : state_of tasks queues current micros ≡ now) where
  pub put_task_lem : (slot : ℕ) {t u : TaskControlBlock} → t ≡ u → state_of (set tasks slot t) queues current micros ≡ with_task now slot u
  put_task_lem slot is = λ i. with_task (holds i) slot (is i)

  pub put_queues_lem : (qs : List BandQueue) {q : Queues} → queues_of qs ≡ q → state_of tasks qs current micros ≡ with_queues now q
  put_queues_lem qs is = λ i. with_queues (holds i) (is i)

  pub put_holders_lem : {hs held : List ℕ} → hs ≡ held → state_of tasks queues hs micros ≡ with_holders now held
  put_holders_lem is = λ i. with_holders (holds i) (is i)

  pub put_holder_lem : (core slot : ℕ) → state_of tasks queues (set current core slot) micros ≡ with_holder now core slot
  put_holder_lem core slot = λ i. with_holder (holds i) core slot

  pub put_micros_lem : {n gained : ℕ} → n ≡ gained → state_of tasks queues current n ≡ with_micros now gained
  put_micros_lem is = λ i. with_micros (holds i) (is i)

  pub put_queue_lem : length queues ≡ 3 → (b : QoSClass) {n : ℕ} → n ≡ band_code b → (dq : BandQueue) (f : List ℕ → List ℕ) (q : BandQueue) →
      entries q ≡ f (entries (get_or queues n dq)) → state_of tasks (set queues n q) current micros ≡ with_queue now b (f (queue now b))
  put_queue_lem all b is dq f q e =
      ap (λ (qs : Queues). record { tasks = tasks; queues = qs; holders = current; micros = micros }) (queue_changed queues all b is dq f q e)
      ∙ (λ i. with_queue (holds i) b (f (queue (holds i) b)))

  -- a slot goes to the tail of its band, and its record, which was read as t, becomes what f makes of it
  module _ (all : length queues ≡ 3) (slot : Slot) {t : TaskControlBlock} (t-is : t ≡ task now slot.0) {n : ℕ} (code : IsBandCode t.qos n)
      (dq : BandQueue) {a : Result Unit SchedError} {q : BandQueue} (push : Push (get_or queues n dq) slot a q)
      (f : TaskControlBlock → TaskControlBlock) where
    abbrev tailed : TaskControlBlock → State
    tailed r = with_task (with_queue now r.qos (pushed slot.0 (queue now r.qos))) slot.0 (f r)

    pub put_tail : {u : TaskControlBlock} → u ≡ f t → state_of (set tasks slot.0 u) (set queues n q) current micros ≡ tailed (task now slot.0)
    put_tail u-is =
        (λ i. with_task (put_queue_lem all t.qos code.is dq (pushed slot.0) q push.entries_are i) slot.0 (u-is i)) ∙ ap tailed t-is
