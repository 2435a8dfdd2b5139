-- A block is fed in goes: what is fed so far is its feedings, in order, and each go adds one (`turn`). Over all blocks of an input these are the feedings of
-- the whole input, to its end (`all-fed`). Assumes nothing.
use mathlib.Core.Bool.{Bool, true, false, false≢true}
use mathlib.Core.List.{List, [], ◌∷◌, ◌++◌, append-nil, flatten}
use mathlib.Core.Path.{◌≡◌, refl, sym, ap, ◌∙◌, subst}
use Prim.Native.Nat.{ℕ, ◌+◌, ◌-◌, ◌≤◌}
use native.Mathlib.Omega.{arith}
use lib.ListN.{length, take, drop, length-drop}
use lib.Seq.{take_all, drop_at, drop-append-le}
use Rattle.scheduler.specs.declared.scheduler.QoSScheduler.{QoSScheduler}
use Rattle.scheduler.specs.Scheduler.{abs}
use Rattle.frames.specs.declared.stream.Fed.{Fed}
use Rattle.frames.specs.declared.stream.Stream.{Stream}
use Rattle.frames.specs.Lines.{lines, answers_to}
use Rattle.frames.specs.Stream.{Begins, Feeds}
use Rattle.claims.specs.TextClaim.{Feeding, NextOf, Feedings, stream_after, used_by, text_of, Finished}
use Rattle.frames.proofs.Streams.{feeds_in, feeds_all}
use Rattle.claims.proofs.Feedings.{feedings_append, stream_after_append, used_by_append, finished_append, feedings-answered}
use Rattle.calls.specs.declared.Progress.{Progress}
use Rattle.calls.specs.Program.{FeedsBlock, BlockFed, FeedsAll, input_of}

-- ---- one block

pub record BlockGoing (last : Bool) (start : Stream) (block : List ℕ) (stream : Stream) (used : ℕ) : Type 0 where
  pub feedings : List Feeding
  pub in_order : (more : List ℕ) → (last ≡ true → more ≡ []) → Feedings start (block ++ more) feedings
  pub stream_is : stream_after start feedings ≡ stream
  pub used_is : used_by feedings ≡ used
  pub within : used ≤ length block

pub block_begin : (last : Bool) (start : Stream) (block : List ℕ) → BlockGoing last start block start 0
unfolding Feedings stream_after used_by
block_begin last start block = record {
  feedings = [];
  in_order = λ more none. tt;
  stream_is = refl;
  used_is = refl;
  within = omega arith;
}

module _ {last : Bool} {start : Stream} {block : List ℕ} {stream : Stream} {used : ℕ} (g : BlockGoing last start block stream used) {before after : List ℕ}
    {r : Fed} (fed : Feeds last stream (take (length block - used) (drop used block)) before after r) where
  abbrev f : Feeding
  f = record { block = drop used block; last = last; before = before; after = after; got = r }

  feeds : Feeds last stream (drop used block) before after r
  feeds =
      subst (λ (l : List ℕ). Feeds last stream l before after r) (take_all (length block - used) (drop used block) (omega (arith, length-drop used block))) fed

  next : (more : List ℕ) → (last ≡ true → more ≡ []) → NextOf (drop (used_by g.feedings) (block ++ more)) f
  next more none = record {
    more = more;
    text_is = ap (λ (n : ℕ). drop n (block ++ more)) g.used_is ∙ drop-append-le used block more g.within;
    last_is = none;
  }

  all : List Feeding
  all = g.feedings ++ (f ∷ [])

  stream_after_lem : stream_after start all ≡ r.stream
  unfolding all stream_after
  stream_after_lem = stream_after_append g.feedings (f ∷ []) start

  used_after : used_by all ≡ used + r.used
  unfolding all used_by
  used_after = omega (arith, used_by_append g.feedings (f ∷ []), g.used_is)

  in_order_after : (more : List ℕ) → (last ≡ true → more ≡ []) → Feedings start (block ++ more) all
  unfolding all Feedings
  in_order_after more none =
      feedings_append g.feedings (f ∷ []) start (block ++ more) (g.in_order more none)
      (subst (λ (s : Stream). Feeds last s (drop used block) before after r) (sym g.stream_is) feeds, (next more none, tt))

  pub within_after : used + r.used ≤ length block
  within_after = omega (arith, feeds_in feeds, length-drop used block, g.within)

  -- one go more
  pub turn : BlockGoing last start block r.stream (used + r.used)
  turn = record {
    feedings = all;
    in_order = in_order_after;
    stream_is = stream_after_lem;
    used_is = used_after;
    within = within_after;
  }

  -- the last go: the buffer is not full, or its answers could not be written
  pub done : {is-written : Bool} → (is-written ≡ true → r.is_full ≡ false) →
      FeedsBlock last start block (record { stream = r.stream; is_written = is-written })
  unfolding all Finished
  done room = record {
    feedings = all;
    in_order = in_order_after;
    stream_is = stream_after_lem;
    all_used = λ written. omega (arith, used_after, feeds_all feeds (room written), length-drop used block, g.within);
    finished = λ written is_last. finished_append g.feedings (f ∷ []) (is_last, room written);
  }

-- ---- all blocks

all-used_up : {last : Bool} {stream : Stream} {block more : List ℕ} {r : Progress} (b : FeedsBlock last stream block r) → r.is_written ≡ true →
    drop (used_by b.feedings) (block ++ more) ≡ more
all-used_up {block = block} {more} b written = drop_at block more (used_by b.feedings) (sym (b.all_used written))

-- what was fed, one block after the other, is fed in the order of the whole input, and to its end
pub all-fed : (stream : Stream) (bs : List BlockFed) (end : Progress) → FeedsAll stream bs end →
    (fs : List Feeding) × (Feedings stream (input_of bs) fs × Finished fs)
unfolding FeedsAll flatten
all-fed stream [] end (b, written) = (b.feedings, (b.in_order [] (λ _. refl), b.finished written refl))
all-fed stream (b ∷ rest) end (fed, (written, later)) =
    let behind = all-fed b.got.stream rest end later in
    let place = all-used_up fed written in
    let here : Feedings (stream_after stream fed.feedings) (drop (used_by fed.feedings) (b.block ++ input_of rest)) behind.0 =
    subst (λ (s : Stream). Feedings s (drop (used_by fed.feedings) (b.block ++ input_of rest)) behind.0) (sym fed.stream_is)
    (subst (λ (l : List ℕ). Feedings b.got.stream l behind.0) (sym place) behind.1.0) in (
      fed.feedings ++ behind.0,
      (
        feedings_append fed.feedings behind.0 stream (b.block ++ input_of rest) (fed.in_order (input_of rest) (λ is. absurd (false≢true is))) here,
        finished_append fed.feedings behind.0 behind.1.1,
      ),
    )

-- so the texts of these feedings, one behind the other, are the answers to the lines of all that was read; that they are the bytes passed on to be
-- written is one line of `answer_block` to read
pub input_answered : {s : QoSScheduler} {stream : Stream} → Begins s stream → (bs : List BlockFed) (end : Progress) → FeedsAll stream bs end →
    (fs : List Feeding) × (Feedings stream (input_of bs) fs × (text_of fs ≡ answers_to (abs s) (lines (input_of bs))))
input_answered {s} {stream} begins bs end fed =
    let all = all-fed stream bs end fed in
    let a = feedings-answered begins (input_of bs) all.0 all.1.0 in
    let lines_are : lines (input_of bs) ≡ a.answered =
    a.lines_are ∙ ap (λ (l : List (List ℕ)). a.answered ++ l) (a.finished all.1.1) ∙ append-nil a.answered in
    (all.0, (all.1.0, a.text_is ∙ ap (answers_to (abs s)) (sym lines_are)))
