-- The stored scheduler's arrays read as the state that they hold, which is accepted in every scheduler: records, holders, queues; and three
-- queues with some of them replaced. Assumes nothing.
use Rattle.std.proofs.Common.{◌≡◌, ℕ, zero, suc, ◌<◌, List, [], ◌∷◌, length, get_or, set, refl, ap, ◌∙◌, arith}
use Rattle.std.proofs.lemmas.List.{get_or_default}
use Rattle.std.specs.Prelude.{Result}
use Rattle.records.specs.declared.band.QoSClass.{QoSClass}
use Rattle.records.specs.declared.band.QoSClass.TheVariants.{UserInteractive, RealTimeIO, Background}
use Rattle.records.specs.declared.error.SchedError.{SchedError}
use Rattle.records.specs.declared.ids.Slot.{Slot}
use Rattle.records.specs.declared.task.TaskControlBlock.{TaskControlBlock}
use Rattle.records.specs.Band.{band_code}
use Rattle.queue.specs.declared.BandQueue.{BandQueue}
use Rattle.queue.specs.Entries.{push_result, pushed}
use Rattle.queue.specs.Promises.{Push}
use Rattle.queue.specs.Stored.{entries}
use Rattle.rules.specs.Accepted.{Accepted}
use Rattle.rules.specs.State.{band_order, task, of_band, with_band, queue, holder}
use Rattle.rules.proofs.Accepts.{accepts_sound}
use Rattle.rules.proofs.Invariant.{Invariant, accepted-invariant}
use Rattle.scheduler.specs.declared.scheduler.QoSScheduler.{QoSScheduler}
use Rattle.scheduler.specs.Stored.{queues_of}
use Rattle.scheduler.specs.Scheduler.{abs}

module _ (s : QoSScheduler) where
  pub valid : Accepted (abs s)
  unfolding abs
  valid = accepts_sound (abs s) s.accepted

  pub known : Invariant (abs s)
  known = accepted-invariant (abs s) valid

  -- ---- records and holders, whatever is read past the end

  pub slots : length s.tasks ≡ 64
  unfolding abs
  slots = valid.slots

  pub cores : length s.current ≡ 64
  unfolding abs
  cores = valid.cores

  pub record_at_lem : (slot : ℕ) (d : TaskControlBlock) → slot < 64 → get_or s.tasks slot d ≡ task (abs s) slot
  unfolding abs
  record_at_lem slot d low = get_or_default s.tasks slot d _ (omega (arith, slots))

  pub holder_at : (core d : ℕ) → core < 64 → get_or s.current core d ≡ holder (abs s) core
  unfolding abs
  holder_at core d low = get_or_default s.current core d _ (omega (arith, cores))

-- ---- three queues

-- the band at a place of the order has that place for its code
pub order_at : (n : ℕ) (d : QoSClass) → n < 3 → n ≡ band_code (get_or band_order n d)
order_at zero d low = refl
order_at (suc zero) d low = refl
order_at (suc (suc zero)) d low = refl
order_at (suc (suc (suc n))) d low = absurd (omega arith)

-- a place among the three is a band's
pub band-at : (n : ℕ) → n < 3 → (b : QoSClass) × (n ≡ band_code b)
band-at n low = (get_or band_order n Background, order_at n Background low)

three : (P : List BandQueue → Type 0) → ((a b c : BandQueue) → P (a ∷ b ∷ c ∷ [])) → (qs : List BandQueue) → length qs ≡ 3 → P qs
three P are [] l = absurd (omega arith)
three P are (a ∷ []) l = absurd (omega arith)
three P are (a ∷ b ∷ []) l = absurd (omega arith)
three P are (a ∷ b ∷ c ∷ []) l = are a b c
three P are (a ∷ b ∷ c ∷ d ∷ rest) l = absurd (omega arith)

entries_in : (b : QoSClass) (x y z d : BandQueue) → entries (get_or (x ∷ y ∷ z ∷ []) (band_code b) d) ≡ of_band (queues_of (x ∷ y ∷ z ∷ [])) b
unfolding queues_of
entries_in UserInteractive x y z d = refl
entries_in RealTimeIO x y z d = refl
entries_in Background x y z d = refl

put_in : (b : QoSClass) (x y z q : BandQueue) →
    queues_of (set (x ∷ y ∷ z ∷ []) (band_code b) q) ≡ with_band (queues_of (x ∷ y ∷ z ∷ [])) b (entries q)
unfolding queues_of
put_in UserInteractive x y z q = refl
put_in RealTimeIO x y z q = refl
put_in Background x y z q = refl

module _ (qs : List BandQueue) (all : length qs ≡ 3) (b : QoSClass) {place : ℕ} (is : place ≡ band_code b) where
  -- a band's queue, at the band's code
  pub entries_of : (d : BandQueue) → entries (get_or qs place d) ≡ of_band (queues_of qs) b
  entries_of d =
      rw is (three (λ (l : List BandQueue). entries (get_or l (band_code b) d) ≡ of_band (queues_of l) b) (λ x y z. entries_in b x y z d) qs all)

  -- it becomes one that holds these entries
  pub queue_put : (q : BandQueue) {es : List ℕ} → entries q ≡ es → queues_of (set qs place q) ≡ with_band (queues_of qs) b es
  queue_put q holds =
      rw is (three (λ (l : List BandQueue). queues_of (set l (band_code b) q) ≡ with_band (queues_of l) b (entries q))
      (λ x y z. put_in b x y z q) qs all)
      ∙ ap (with_band (queues_of qs) b) holds

  -- or what f makes of its own
  pub queue_changed : (d : BandQueue) (f : List ℕ → List ℕ) (q : BandQueue) → entries q ≡ f (entries (get_or qs place d)) →
      queues_of (set qs place q) ≡ with_band (queues_of qs) b (f (of_band (queues_of qs) b))
  queue_changed d f q e = queue_put q (e ∙ ap f (entries_of d))

-- ---- a band's queue in a scheduler

pub queue_at_lem : (s : QoSScheduler) (b : QoSClass) {place : ℕ} → place ≡ band_code b → (d : BandQueue) →
    entries (get_or s.queues place d) ≡ queue (abs s) b
unfolding abs
queue_at_lem s b is d = entries_of s.queues s.bands b is d

-- a push on it answers as the rules say of that band, and changes the queues so
module _ (s : QoSScheduler) (b : QoSClass) {place : ℕ} (is : place ≡ band_code b) (d : BandQueue) {slot : Slot} {a : Result Unit SchedError}
    {q : BandQueue} (push : Push (get_or s.queues place d) slot a q) where
  pub push_answer : a ≡ push_result slot.0 (queue (abs s) b)
  push_answer = push.answer_is ∙ ap (push_result slot.0) (queue_at_lem s b is d)

  pub push_queues : queues_of (set s.queues place q) ≡ with_band (queues_of s.queues) b (pushed slot.0 (queue (abs s) b))
  unfolding abs
  push_queues = queue_changed s.queues s.bands b is d (pushed slot.0) q push.entries_are
