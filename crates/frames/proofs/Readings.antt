-- The reader's parts: the records, a queue from its places, and the state that they make. Which bytes the reader refuses is Statuses'
-- matter. Assumes nothing.
use mathlib.Core.Path.{◌≡◌, refl, sym, ap, subst, ◌∙◌}
use mathlib.Core.List.{List, [], ◌∷◌, map}
use Prim.Native.Nat.{ℕ, zero, suc, ◌+◌, ◌≤◌, ◌<◌}
use native.Mathlib.Omega.{arith}
use lib.ListN.{get_or, take, drop}
use lib.Dec.{eqb}
use lib.Seq.{ext_get_or}
use Rattle.std.specs.Array.{IsFromFnResult, IsFromFnResultFrom, IsMapOf}
use Rattle.std.specs.Fn.{Called}
use Rattle.std.specs.Prelude.{◌≢◌}
use Rattle.std.proofs.lemmas.Bool.{eqb-true, eqb-false}
use Rattle.std.proofs.lemmas.List.{get_or-map}
use denote.Param.Members.{Mut}
use Rattle.records.proofs.Cases.{split}
use Rattle.records.specs.declared.band.QoSClass.{QoSClass}
use Rattle.records.specs.declared.band.QoSClass.TheVariants.{UserInteractive, RealTimeIO, Background}
use Rattle.records.specs.declared.task.TaskControlBlock.{TaskControlBlock}
use Rattle.records.specs.Task.{empty_record}
use Rattle.queue.specs.declared.BandQueue.{BandQueue}
use Rattle.queue.specs.Stored.{entries}
use Rattle.scheduler.specs.Stored.{queues_of, state_of}
use Rattle.rules.specs.State.{queue}
use Rattle.frames.specs.Private.{IsNumber}
use Rattle.frames.specs.Image.{micros_place, record_in, record_at, queue_at, length_byte, state_at}
use Rattle.frames.proofs.Images.{length-tasks, task-read, queue-read}

-- ---- the records

-- what a closure makes, place by place, where each call leaves it as it was
made_from : {F B : Type 0} (g : Mut F (ℕ × Unit {0}) B) (f : F) (made : ℕ → B) (ys : List B) (d : B) (i n : ℕ) →
    IsFromFnResultFrom g f ys i n →
    ((k : ℕ) (y : B) (q : F) → k < i + n → Called g f (k, tt) y q → (q ≡ f) × (y ≡ made k)) → (k : ℕ) → i ≤ k → k < i + n → get_or ys k d ≡ made k
made_from g f made ys d i zero each step k from low = absurd (omega arith)
made_from {F = F} g f made ys d i (suc n) (q, y, is, called, rest) step k from low =
    let it = step i y q (omega arith) called in
    split (λ _. get_or ys k d ≡ made k) (eqb k i)
    (λ e. rw (eqb-true k i e) (is.1 d ∙ it.1))
    (λ e.
    let other : k ≢ i = eqb-false k i e in
    let others = subst (λ (p : F). IsFromFnResultFrom g p ys (i + 1) n) it.0 rest in
    made_from g f made ys d (i + 1) n others (λ m z p h. step m z p (omega arith)) k (omega arith) (omega arith))

-- 64 records, each read from its slot's bytes
pub records_are : {F : Type 0} (image : List ℕ) (g : Mut F (ℕ × Unit {0}) TaskControlBlock) (f : F) (tasks : List TaskControlBlock) →
    IsFromFnResult g f tasks 64 →
    ((slot : ℕ) (t : TaskControlBlock) (q : F) → slot < 64 → Called g f (slot, tt) t q → (q ≡ f) × (t ≡ record_in (record_at slot image))) →
    tasks ≡ (state_at image).tasks
records_are image g f tasks made step =
    ext_get_or empty_record tasks (state_at image).tasks (made.long ∙ sym (length-tasks image))
    (λ slot low.
    let h : slot < 64 = omega (arith, low, made.long) in
    made_from g f (λ s. record_in (record_at s image)) tasks empty_record 0 64 made.each step slot (omega arith) h ∙ sym (task-read image slot h))

-- ---- the queues, the holders, and the state

-- a queue for each band, in the order of picks
pub queues_are : {F : Type 0} (image : List ℕ) (g : Mut F (QoSClass × Unit {0}) BandQueue) (f : F) (qs : List BandQueue) →
    IsMapOf g f (UserInteractive ∷ RealTimeIO ∷ Background ∷ []) qs 3 →
    ((band : QoSClass) (q : BandQueue) (f' : F) → Called g f (band, tt) q f' → (f' ≡ f) × (entries q ≡ queue (state_at image) band)) →
    queues_of qs ≡ (state_at image).queues
unfolding queues_of
queues_are {F = F} image g f qs made step =
    let queue_made : (k : ℕ) (band own : QoSClass) (q : BandQueue) (p p' : F) → k < 3 → p ≡ f → band ≡ own → get_or qs k q ≡ q → Called g p (own, tt) q p' →
    (p' ≡ f) × (get_or (map entries qs) k [] ≡ queue (state_at image) band) =
    λ k band own q p p' low same is at called.
    let it = step own q p' (subst (λ (h : F). Called g h (own, tt) q p') same called) in
    (it.0, get_or-map entries qs k q [] (omega (arith, low, made.long)) ∙ ap entries at ∙ it.1 ∙ ap (queue (state_at image)) (sym is)) in
    let (f1, a, qa, a-is, qa-is, called-a, (f2, b, qb, b-is, qb-is, called-b, (f3, c, qc, c-is, qc-is, called-c, _))) = made.each in
    let first = queue_made 0 UserInteractive a qa f f1 (omega arith) refl a-is.0 qa-is.0 called-a in
    let second = queue_made 1 RealTimeIO b qb f1 f2 (omega arith) first.0 b-is.0 qb-is.0 called-b in
    let third = queue_made 2 Background c qc f2 f3 (omega arith) second.0 c-is.0 qc-is.0 called-c in
    λ i. record { interactive = first.1 i; real_time = second.1 i; background = third.1 i }

-- a queue from its places
pub queue_is : (image : List ℕ) (band : QoSClass) {n : ℕ} {places es : List ℕ} → n ≡ length_byte (queue_at band image) →
    places ≡ drop 1 (queue_at band image) → es ≡ take n places → es ≡ queue (state_at image) band
queue_is image band len behind e = e ∙ (λ i. take (len i) (behind i)) ∙ sym (queue-read image band)

-- all of them
pub state_is : (image : List ℕ) {tasks : List TaskControlBlock} (queues : List BandQueue) {current : List ℕ} {micros : ℕ} → tasks ≡ (state_at image).tasks →
    queues_of queues ≡ (state_at image).queues → current ≡ (state_at image).holders → IsNumber micros_place 8 image micros →
    state_of tasks queues current micros ≡ state_at image
unfolding state_at
state_is image _ tasks queues current micros = λ i. record { tasks = tasks i; queues = queues i; holders = current i; micros = micros.is i }
