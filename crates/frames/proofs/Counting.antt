-- How often each slot stands in the queues: the loop that counts a queue's entries, and the three queues counted one after the other.
-- Assumes nothing.
use mathlib.Core.Path.{◌≡◌, ap, ◌∙◌}
use mathlib.Core.Bool.{Bool}
use mathlib.Core.List.{List, [], ◌∷◌}
use Prim.Native.Nat.{ℕ, suc, ◌+◌, ◌≤◌, ◌<◌}
use native.Mathlib.Numerals.{add-one}
use native.Mathlib.Omega.{arith}
use borrow.Author.Tests.{ltb-true, ltb-false, eqb-true, eqb-false}
use lib.Dec.{ltb, eqb}
use lib.ListN.{length, get_or, take, set, replicate, length-set, length-take, get_or-eq_default}
use lib.Seq.{take-suc, take_all, get_or-set_same, get_or-set_other}
use Rattle.records.specs.declared.band.QoSClass.{QoSClass}
use Rattle.records.specs.declared.band.QoSClass.TheVariants.{UserInteractive, RealTimeIO, Background}
use Rattle.records.proofs.Cases.{split}
use Rattle.records.specs.Lists.{count}
use Rattle.queue.proofs.Counts.{count_append, count_one, count_other, length_without}
use Rattle.rules.specs.Accepted.{standings, once_if_ready, stands_once}
use Rattle.rules.specs.State.{State, task, queue}
use Rattle.frames.specs.Image.{queue_at, state_at}
use Rattle.frames.specs.Private.{LengthsFit, AtMost, Counted}
use Rattle.frames.proofs.Images.{queue-read, get_d_zeros}
use Rattle.frames.proofs.AcceptedImages.{length-queue_in}

-- ---- counting: the counts have gained the entries so far

pub record Counting (es before : List ℕ) (k : ℕ) (counts : List ℕ) : Type 0 where
  pub inside : k ≤ length es
  pub whole : length counts ≡ 64
  pub counts_are : (slot : ℕ) → slot < 64 → get_or counts slot 0 ≡ get_or before slot 0 + count slot (take k es)

pub counting_begin : (es before : List ℕ) → length before ≡ 64 → Counting es before 0 before
unfolding count
counting_begin es before e = record { inside = omega arith; whole = e; counts_are = λ slot _. omega arith }

count_most : (slot : ℕ) (es : List ℕ) → count slot es ≤ length es
count_most slot es = omega (arith, length_without slot es)

module _ {es before : List ℕ} {k : ℕ} {counts : List ℕ} (so : Counting es before k counts) where
  -- the entry at k is a slot of the table, or no slot
  module _ {slot : ℕ} (h : k < length es) (e : get_or es k 0 ≡ slot) where
    one_more : (x : ℕ) → count x (take (suc k) es) ≡ count x (take k es) + count x (slot ∷ [])
    one_more x =
        ap (count x) (take-suc es k 0 h) ∙ count_append x (take k es) (get_or es k 0 ∷ []) ∙ ap (λ (n : ℕ). count x (take k es) + count x (n ∷ [])) e

    pub counting_on : slot < 64 → Counting es before (k + 1) (set counts slot (get_or counts slot 0 + 1))
    counting_on low =
        let more : ℕ = get_or counts slot 0 + 1 in
        rw (add-one k)
        record {
          inside = omega arith;
          whole = length-set counts slot more ∙ so.whole;
          counts_are = λ x hx.
              split (λ _. get_or (set counts slot more) x 0 ≡ get_or before x 0 + count x (take (suc k) es)) (eqb x slot)
              (λ is.
              rw (eqb-true x slot is)
              (omega (arith, get_or-set_same counts slot more 0 (omega (arith, so.whole)), so.counts_are slot low, one_more slot, count_one slot)))
              (λ other.
              let apart : x ≡ slot → ⊥ = eqb-false x slot other in
              omega (arith, get_or-set_other counts slot x more 0 apart, so.counts_are x hx, one_more x, count_other x slot apart));
        }

    pub counting_past : 64 ≤ slot → Counting es before (k + 1) counts
    counting_past past =
        rw (add-one k)
        record {
          inside = omega arith;
          whole = so.whole;
          counts_are = λ x hx. omega (arith, so.counts_are x hx, one_more x, count_other x slot (λ same. omega arith));
        }

  pub counting_ended : length es ≤ k → Counted es before counts
  counting_ended h = record {
    whole = so.whole;
    counts_are = λ slot low. so.counts_are slot low ∙ ap (λ (l : List ℕ). get_or before slot 0 + count slot l) (take_all k es h);
  }

  pub counting_room : (slot : ℕ) → AtMost 128 before → length es ≤ 64 → slot < 64 → get_or counts slot 0 ≤ 192
  counting_room slot most short low = omega (arith, so.counts_are slot low, most slot, count_most slot (take k es), length-take k es)

-- ---- the three queues counted, one after the other

counted_most : {n : ℕ} {es before after : List ℕ} → AtMost n before → Counted es before after → length es ≤ 64 → AtMost (n + 64) after
counted_most {n} {es} {before} {after} most so short slot =
    split (λ _. get_or after slot 0 ≤ n + 64) (ltb slot 64)
    (λ low. omega (arith, so.counts_are slot (ltb-true slot 64 low), most slot, count_most slot es))
    (λ high. omega (arith, get_or-eq_default after 0 {n = slot} (omega (arith, so.whole, ltb-false slot 64 high))))

-- each count is how often its slot stands in the queues
pub record CountsAre (s : State) (counts : List ℕ) : Type 0 where
  pub each_is : (slot : ℕ) → slot < 64 → get_or counts slot 0 ≡ standings s slot

module _ (image : List ℕ) (fit : LengthsFit image) where
  abbrev none : List ℕ
  none = replicate 64 0

  abbrev entries : QoSClass → List ℕ
  entries band = queue (state_at image) band

  short : (band : QoSClass) → length (entries band) ≤ 64
  short band =
      rw (queue-read image band) (omega (arith, fit band, length-queue_in (queue_at band image)))

  none_most : AtMost 0 none
  none_most slot = omega (arith, get_d_zeros 64 slot)

  pub first_most : AtMost 128 none
  first_most slot = omega (arith, none_most slot)

  pub second_most : {a : List ℕ} → Counted (entries UserInteractive) none a → AtMost 128 a
  second_most p slot = omega (arith, counted_most none_most p (short UserInteractive) slot)

  pub third_most : {a b : List ℕ} → Counted (entries UserInteractive) none a → Counted (entries RealTimeIO) a b → AtMost 128 b
  third_most p q = counted_most (counted_most none_most p (short UserInteractive)) q (short RealTimeIO)

  pub counts_are : {a b c : List ℕ} → Counted (entries UserInteractive) none a → Counted (entries RealTimeIO) a b → Counted (entries Background) b c →
      CountsAre (state_at image) c
  counts_are p q r = record {
    each_is = λ slot h. omega (arith, none_most slot, p.counts_are slot h, q.counts_are slot h, r.counts_are slot h);
  }

pub stands_once_lem : {s : State} {counts : List ℕ} {slot : ℕ} {r : Bool} → CountsAre s counts → slot < 64 →
    r ≡ once_if_ready (task s slot) (get_or counts slot 0) → r ≡ stands_once s slot
stands_once_lem {s} {slot = slot} so h e = e ∙ ap (once_if_ready (task s slot)) (so.each_is slot h)
