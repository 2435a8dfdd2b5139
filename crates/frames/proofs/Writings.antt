-- What the parts of an image leave in the buffer, put together: records one behind the other, a queue from its length and its places, three queues,
-- and the image from all of them. Assumes nothing.
use mathlib.Core.Path.{◌≡◌, refl, sym, ap, ◌∙◌}
use mathlib.Core.Bool.{Bool, cond}
use Rattle.std.specs.Prelude.{Ok, Err}
use mathlib.Core.List.{List, [], ◌∷◌, ◌++◌, flatten}
use Prim.Native.Nat.{ℕ, zero, suc, ◌+◌, ◌*◌, ◌≤◌, ◌<◌}
use native.Mathlib.Nat.{zero-add}
use native.Mathlib.Omega.{arith}
use native.Mathlib.Numerals.{add-one}
use borrow.Author.Tests.{eqb-true, eqb-false, ltb-true, ltb-false, eq-eqb, ne_eqb}
use lib.Dec.{eqb, ltb}
use lib.ListN.{length, get_or, drop, set, length-set, length-append, drop_of_length-le}
use lib.Seq.{sets, drop-cons, ext_get_or, get_or-set_same, get_or-set_other}
use Rattle.records.specs.declared.task.TaskControlBlock.{TaskControlBlock}
use Rattle.records.specs.Task.{empty_record}
use Rattle.records.proofs.Cases.{split}
use Rattle.queue.specs.declared.BandQueue.{BandQueue}
use Rattle.queue.specs.Entries.{places}
use Rattle.queue.specs.Stored.{entries}
use Rattle.queue.proofs.Stored.{entries_short}
use Rattle.scheduler.specs.Stored.{queues_of}
use Rattle.rules.specs.Accepted.{Accepted}
use Rattle.rules.specs.State.{State, task, with_task}
use Rattle.rules.specs.Touched.{SameBut}
use Rattle.frames.specs.declared.refusal.HostError.TheVariants.{WrongLength}
use Rattle.frames.specs.AcceptedImage.{AcceptedImage}
use Rattle.frames.specs.Answer.{record_bytes}
use Rattle.frames.specs.Bytes.{bytes_of}
use Rattle.frames.specs.Image.{record_length, record_place, queue_length, queues_place, holders_place, micros_place, image_length}
use Rattle.frames.specs.Image.{records_bytes, queue_bytes, queues_bytes, image_parts, image_of, state_at}
use Rattle.frames.specs.Fits.{HasImage}
use Rattle.frames.specs.Private.{with_rest, put_slot}
use Rattle.frames.specs.ReadWrite.{WritesImage}
use Rattle.frames.proofs.Images.{length-records_bytes, length-tasks, length-queue_bytes, length_queues_bytes, length_image_of, writes_back}
use Rattle.frames.proofs.Runs.{behind, alone, run_on}
use Rattle.frames.proofs.Sizes.{length-record_bytes}
use Rattle.frames.proofs.Stores.{sets_append, sets_behind, sets_over, sets_all}
use Rattle.frames.proofs.Widths.{sets_part}

-- the state with other records
abbrev with_tasks : State → List TaskControlBlock → State
with_tasks s ts = record { tasks = ts; queues = s.queues; holders = s.holders; micros = s.micros }

set_past : {A : Type 0} (l : List A) (i : ℕ) (a : A) → length l ≤ i → set l i a ≡ l
set_past [] i a past = refl
set_past (b ∷ l) zero a past = absurd (omega arith)
set_past {A} (b ∷ l) (suc i) a past = ap (λ (r : List A). b ∷ r) (set_past l i a (omega arith))

-- ---- the records

-- one more record, and what is left of them behind it
pub records_on : (o : List ℕ) {now : List ℕ} (tasks : List TaskControlBlock) (slot : ℕ) (d : TaskControlBlock) → slot < length tasks
    → now ≡ sets o (record_length * slot) (record_bytes (get_or tasks slot d))
    → sets now (record_length * (slot + 1)) (records_bytes (drop (slot + 1) tasks)) ≡ sets o (record_length * slot) (records_bytes (drop slot tasks))
unfolding records_bytes flatten
records_on o tasks slot d h e =
    let t = get_or tasks slot d in
    let next : record_length * (slot + 1) ≡ record_length * slot + length (record_bytes t) = omega (arith, length-record_bytes t) in
    (λ i. sets (e i) (next i) (records_bytes (drop (add-one slot i) tasks)))
    ∙ sym (sets_append o (record_length * slot) (record_bytes t) (records_bytes (drop (suc slot) tasks)))
    ∙ ap (λ ts. sets o (record_length * slot) (records_bytes ts)) (sym (drop-cons tasks slot d h))

-- none is left
pub records_end : (o : List ℕ) (tasks : List TaskControlBlock) (slot : ℕ) → length tasks ≤ slot →
    o ≡ sets o (record_length * slot) (records_bytes (drop slot tasks))
unfolding records_bytes flatten
records_end o tasks slot h = ap (λ ts. sets o (record_length * slot) (records_bytes ts)) (sym (drop_of_length-le tasks h))

-- a record over that of its slot, among the records and in the image
record_over : (tasks : List TaskControlBlock) (slot : ℕ) (t : TaskControlBlock) → slot < length tasks →
    sets (records_bytes tasks) (record_place slot) (record_bytes t) ≡ records_bytes (set tasks slot t)
unfolding records_bytes flatten
record_over [] slot t h = absurd (omega arith)
record_over (u ∷ tasks) zero t h = sets_over (record_bytes u) (records_bytes tasks) (record_bytes t) (length-record_bytes u ∙ sym (length-record_bytes t))
record_over (u ∷ tasks) (suc slot) t h =
    let place : record_place (suc slot) ≡ length (record_bytes u) + record_place slot = omega (arith, length-record_bytes u) in
    ap (λ (n : ℕ). sets (record_bytes u ++ records_bytes tasks) n (record_bytes t)) place
    ∙ sets_behind (record_bytes u) (records_bytes tasks) (record_place slot) (record_bytes t)
    ∙ ap (λ (l : List ℕ). record_bytes u ++ l) (record_over tasks slot t (omega arith))

record_stored : (s : State) (slot : ℕ) (t : TaskControlBlock) → slot < length s.tasks →
    sets (image_of s) (record_place slot) (record_bytes t) ≡ image_of (with_task s slot t)
unfolding image_of
record_stored s slot t h =
    let room : record_place slot + length (record_bytes t) ≤ length (records_bytes s.tasks) =
    omega (arith, length-record_bytes t, length-records_bytes s.tasks) in
    ap (λ (n : ℕ). sets (image_of s) n (record_bytes t)) (sym (zero-add (record_place slot)))
    ∙ sets_part (image_parts s) 0 (record_place slot) (record_bytes t) (omega arith) room
    ∙ ap (λ (records : List ℕ). flatten (set (image_parts s) 0 records)) (record_over s.tasks slot t h)

-- a record is written over that of its slot; what is no slot of the table has none
pub slot_put : (s : State) (tasks : List TaskControlBlock) (slot : ℕ) → length s.tasks ≡ 64 →
    put_slot tasks slot (image_of s) ≡ image_of (with_task s slot (get_or tasks slot empty_record))
slot_put s tasks slot size =
    split (λ (b : Bool). cond b (sets (image_of s) (record_place slot) (record_bytes (get_or tasks slot empty_record))) (image_of s)
    ≡ image_of (with_task s slot (get_or tasks slot empty_record))) (ltb slot 64)
    (λ low. record_stored s slot (get_or tasks slot empty_record) (omega (arith, ltb-true slot 64 low, size)))
    (λ past. ap (λ (ts : List TaskControlBlock). image_of (with_tasks s ts)) (sym (set_past s.tasks slot _ (omega (arith, ltb-false slot 64 past, size)))))

-- a list from one that differs at two places only
set_two : {A : Type 0} (d : A) (l m : List A) (i j : ℕ) → length l ≡ length m →
    ((k : ℕ) → (k ≡ i → ⊥) → (k ≡ j → ⊥) → get_or m k d ≡ get_or l k d) → set (set l i (get_or m i d)) j (get_or m j d) ≡ m
set_two d l m i j long same =
    let first = set l i (get_or m i d) in
    let inside : length first ≡ length l = length-set l i (get_or m i d) in
    ext_get_or d (set first j (get_or m j d)) m (length-set first j (get_or m j d) ∙ inside ∙ long) (λ k low.
    let here : k < length l = omega (arith, low, inside, length-set first j (get_or m j d)) in
    split (λ _. get_or (set first j (get_or m j d)) k d ≡ get_or m k d) (eqb k j)
    (λ is. let e : k ≡ j = eqb-true k j is in rw e (get_or-set_same first j (get_or m j d) d (omega (arith, inside))))
    (λ not-j. get_or-set_other first j k (get_or m j d) d (eqb-false k j not-j)
    ∙ split (λ _. get_or first k d ≡ get_or m k d) (eqb k i)
    (λ is. let e : k ≡ i = eqb-true k i is in rw e (get_or-set_same l i (get_or m i d) d (omega arith)))
    (λ not-i. get_or-set_other l i k (get_or m i d) d (eqb-false k i not-i) ∙ sym (same k (eqb-false k i not-i) (eqb-false k j not-j)))))

-- ---- the queues

-- a byte is its own one byte
one_byte : (x : ℕ) → x < 256 → bytes_of 1 x ≡ x ∷ []
unfolding bytes_of
one_byte x h = ap (λ (b : ℕ). b ∷ []) (omega arith)

-- the length, then the places
pub queue_put : (es : List ℕ) → length es ≤ 64 → (o : List ℕ) {o₁ o₂ : List ℕ} (at : ℕ) {x : ℕ} {ps : List ℕ} → o₁ ≡ sets o at (bytes_of 1 x) → x ≡ length es
    → o₂ ≡ sets o₁ (at + 1) ps → ps ≡ places es → o₂ ≡ sets o at (queue_bytes es)
unfolding queue_bytes
queue_put es short o {o₁} at e₁ x e₂ p =
    run_on o at 1 (at + 1) (places es) e₁ x refl (e₂ ∙ ap (sets o₁ (at + 1)) p)
    ∙ ap (λ front. sets o at (front ++ places es)) (one_byte (length es) (omega (arith, short)))

-- the first band's, the second's behind it, the third's behind both
pub queues_put : (qs : List BandQueue) → length qs ≡ 3 → (o : List ℕ) {o₁ o₂ o₃ : List ℕ} (at : ℕ) (d e f : BandQueue)
    → o₁ ≡ sets o at (queue_bytes (entries (get_or qs 0 d))) → o₂ ≡ sets o₁ (at + queue_length) (queue_bytes (entries (get_or qs 1 e)))
    → o₃ ≡ sets o₂ (at + 2 * queue_length) (queue_bytes (entries (get_or qs 2 f))) → o₃ ≡ sets o at (queues_bytes (queues_of qs))
unfolding queues_bytes flatten queues_of
queues_put [] l o at x y z e₁ e₂ e₃ = absurd (omega arith)
queues_put (a ∷ []) l o at x y z e₁ e₂ e₃ = absurd (omega arith)
queues_put (a ∷ b ∷ []) l o at x y z e₁ e₂ e₃ = absurd (omega arith)
queues_put (a ∷ b ∷ c ∷ d ∷ more) l o at x y z e₁ e₂ e₃ = absurd (omega arith)
queues_put (a ∷ b ∷ c ∷ []) l o {o₁} {o₂} at x y z e₁ e₂ e₃ =
    behind o at (at + queue_length) (queue_bytes (entries a)) _ e₁ (omega (arith, length-queue_bytes (entries a) (entries_short a)))
    (behind o₁ (at + queue_length) (at + 2 * queue_length) (queue_bytes (entries b)) _ e₂ (omega (arith, length-queue_bytes (entries b) (entries_short b)))
    (alone o₂ (at + 2 * queue_length) (queue_bytes (entries c)) e₃))

-- ---- the image

module _ (s : State) (ok : Accepted s) where
  -- records, queues, holders, microseconds, over a buffer that they fill
  pub image_put : (o : List ℕ) → length o ≡ image_length → with_rest s (sets o 0 (records_bytes s.tasks)) ≡ image_of s
  unfolding image_of flatten
  image_put o long =
      let records : length (records_bytes s.tasks) ≡ queues_place = length-records_bytes s.tasks ∙ omega (arith, ok.slots) in
      behind o 0 queues_place (records_bytes s.tasks) _ refl (omega (arith, records))
      (behind _ queues_place holders_place (queues_bytes s.queues) _ refl (omega (arith, length_queues_bytes s.queues ok.lengths))
      (behind _ holders_place micros_place s.holders _ refl (omega (arith, ok.cores))
      (alone _ micros_place (bytes_of 8 s.micros) refl)))
      ∙ sets_all o _ (length_image_of s ok ∙ sym long)

  -- the same over the image of a state with the same records but for those of two slots
  pub image_over : (image : List ℕ) (first second : ℕ) → AcceptedImage image → SameBut first second (state_at image) s →
      with_rest s (put_slot s.tasks second (put_slot s.tasks first image)) ≡ image_of s
  unfolding image_of flatten
  image_over image first second a same =
      let old = state_at image in
      let size : length old.tasks ≡ 64 = length-tasks image in
      let one : State = with_task old first (task s first) in
      let both : State = with_task one second (task s second) in
      let written : put_slot s.tasks second (put_slot s.tasks first image) ≡ image_of both =
      ap (λ (l : List ℕ). put_slot s.tasks second (put_slot s.tasks first l)) (sym (writes_back image a))
      ∙ ap (put_slot s.tasks second) (slot_put old s.tasks first size)
      ∙ slot_put one s.tasks second (length-set old.tasks first (task s first) ∙ size) in
      let whole : both ≡ with_tasks old s.tasks = ap (with_tasks old) (set_two empty_record old.tasks s.tasks first second (size ∙ sym ok.slots) same) in
      let rest : List ℕ = flatten (drop 1 (image_parts old)) in
      let now : List ℕ = records_bytes s.tasks ++ rest in
      let long : length now ≡ image_length =
      omega (
        arith,
        length-append (records_bytes s.tasks) rest,
        length-append (records_bytes old.tasks) rest,
        length-records_bytes s.tasks,
        length-records_bytes old.tasks,
        ap length (writes_back image a),
        a.length_is,
        size,
        ok.slots,
      ) in
      ap (with_rest s) (written ∙ ap image_of whole ∙ sym (sets_over (records_bytes s.tasks) rest (records_bytes s.tasks) refl)) ∙ image_put now long

-- what the writer promises, by whether the buffer has an image's length
pub image_written : {s : State} → HasImage s → (before : List ℕ) {after : List ℕ} → length before ≡ image_length → after ≡ image_of s →
    WritesImage s before after (Ok tt)
image_written has before long is = record { done_is = rw (eq-eqb (length before) image_length long); image_is = rw (eq-eqb (length before) image_length long) is; has_image = has }

pub image_unwritten : {s : State} → HasImage s → (before : List ℕ) → (length before ≡ image_length → ⊥) → WritesImage s before before (Err WrongLength)
image_unwritten has before other = record { done_is = rw (ne_eqb (length before) image_length other); image_is = rw (ne_eqb (length before) image_length other) refl; has_image = has }
