-- A text fed to a stream, block after block: what a list of feedings writes is the answers to the lines of the text, however it is cut and however
-- small the buffers are (`feedings-answered`). What one feeding makes of a block is Streams' matter, in frames. Assumes nothing.
use mathlib.Core.Bool.{Bool, true, false, cond, ◌&&◌, true≢false, and-eq-true_iff}
use mathlib.Core.List.{List, [], ◌∷◌, ◌++◌, append_assoc, append-nil, flatten}
use mathlib.Core.Path.{◌≡◌, refl, sym, ap, ◌∙◌, subst}
use Prim.Native.Nat.{ℕ, ◌+◌}
use native.Mathlib.Omega.{arith}
use lib.ListN.{length, take, drop}
use lib.Seq.{drop-length, drop-drop, drop-append-le}
use Rattle.scheduler.specs.declared.scheduler.QoSScheduler.{QoSScheduler}
use Rattle.scheduler.specs.Scheduler.{abs}
use Rattle.rules.specs.State.{State}
use Rattle.frames.specs.declared.stream.Stream.{Stream}
use Rattle.frames.specs.Lines.{some, lines_from, lines, answer_to, state_after, answers_to}
use Rattle.frames.specs.Stream.{held_of, FedSoFar, fed, held_in, Begins, fed_by, Feeds}
use Rattle.claims.specs.TextClaim.{Feeding, NextOf, Feedings, stream_after, used_by, Finished, Answered}
use Rattle.frames.proofs.Streams.{held_more, answer_held, state_held, some-held, along, written_out, feeds_in, feeds_all}

-- ---- the lines that are answered

-- the state that lines leave
unfoldable state_after_all : State → List (List ℕ) → State
state_after_all s [] = s
state_after_all s (line ∷ rest) = state_after_all (state_after line s) rest

answers_to_append : (s : State) (ps qs : List (List ℕ)) → answers_to s (ps ++ qs) ≡ answers_to s ps ++ answers_to (state_after_all s ps) qs
unfolding answers_to state_after_all
answers_to_append s [] qs = refl
answers_to_append s (line ∷ ps) qs =
    ap (λ (l : List ℕ). answer_to line s ++ l) (answers_to_append (state_after line s) ps qs)
    ∙ sym (append_assoc (answer_to line s) (answers_to (state_after line s) ps) _)

-- From lines of which the first is begun: some are answered, in this text, and the rest of the text goes on from the line that is next.
record Onto (s : State) (all : List (List ℕ)) (text : List ℕ) (next : State) (held rest : List ℕ) : Type 0 where
  answered : List (List ℕ)
  line : List ℕ
  held_is : held ≡ held_of line
  lines_are : all ≡ answered ++ lines_from line rest
  text_is : text ≡ answers_to s answered
  state_is : next ≡ state_after_all s answered

-- none are
onto_none : {s : State} (line : List ℕ) {held rest : List ℕ} → held ≡ held_of line → Onto s (lines_from line rest) [] s held rest
unfolding answers_to state_after_all
onto_none line is = record { answered = []; line = line; held_is = is; lines_are = refl; text_is = refl; state_is = refl }

-- a line that is begun is the first
onto_first : {s next : State} {line held text held' rest : List ℕ} {all : List (List ℕ)} → held ≡ held_of line →
    Onto (state_after held s) all text next held' rest → Onto s (line ∷ all) (answer_to held s ++ text) next held' rest
unfolding answers_to state_after_all
onto_first {s} {next} {line} {held} {text} is o =
    let state : state_after held s ≡ state_after line s = ap (λ (l : List ℕ). state_after l s) is ∙ state_held line s in
    record {
      answered = line ∷ o.answered;
      line = o.line;
      held_is = o.held_is;
      lines_are = ap (λ (l : List (List ℕ)). line ∷ l) o.lines_are;
      text_is =
          ap (λ (l : List ℕ). answer_to held s ++ l) o.text_is
          ∙ (λ i. (ap (λ (l : List ℕ). answer_to l s) is ∙ answer_held line s) i ++ answers_to (state i) o.answered);
      state_is = o.state_is ∙ ap (λ (t : State). state_after_all t o.answered) state;
    }

-- a block, whatever comes behind it; nothing comes behind the last
module _ (last : Bool) (more : List ℕ) (none : last ≡ true → more ≡ []) where
  abbrev From : ℕ → State → List ℕ → List ℕ → FedSoFar → Type 0
  From room s held block r =
      (line : List ℕ) → held ≡ held_of line → Onto s (lines_from line (block ++ more)) r.text r.state r.held (drop r.used block ++ more)

  at_end : (s : State) (held line : List ℕ) → held ≡ held_of line → last && some held ≡ true →
      Onto s (lines_from line more) (answer_to held s ++ []) (state_after held s) [] more
  unfolding lines_from
  at_end s held line is due =
      let both = (and-eq-true_iff last (some held)).0 due in
      let there : some line ≡ true = sym (some-held line) ∙ ap some (sym is) ∙ both.1 in
      let all : lines_from line more ≡ line ∷ lines_from [] more =
      subst (λ (m : List ℕ). lines_from line m ≡ line ∷ lines_from [] m) (sym (none both.0)) (ap (λ (b : Bool). cond b (line ∷ []) []) there) in
      subst (λ (l : List (List ℕ)). Onto s l (answer_to held s ++ []) (state_after held s) [] more) (sym all) (onto_first is (onto_none [] refl))

  onto_fed : (block : List ℕ) (room : ℕ) (s : State) (held : List ℕ) → From room s held block (fed last room s held block)
  unfolding lines_from
  onto_fed =
      along last From (λ room s held _ line is. onto_none line is) (λ room s held due fits line is. at_end s held line is due)
      (λ room s held block small line is. onto_none line is)
      (λ room s held block r b e fits behind line is. rw e (onto_first is (behind [] refl)))
      (λ room s held block r b e behind line is.
      rw e (behind (line ++ (b ∷ [])) (ap (λ (l : List ℕ). held_of (l ++ (b ∷ []))) is ∙ held_more line (b ∷ []))))

-- nothing is held behind the last block, if every answer had room
none_held : (block : List ℕ) (room : ℕ) (s : State) (held : List ℕ) → (fed true room s held block).full ≡ false → (fed true room s held block).held ≡ []
none_held =
    along true (λ room s held block r. r.full ≡ false → r.held ≡ []) (λ room s held none e. empty held none) (λ room s held due fits e. refl)
    (λ room s held block small e. absurd (true≢false e))
    (λ room s held block r b e fits behind. behind)
    (λ room s held block r b e behind. behind)
  where
    empty : (l : List ℕ) → some l ≡ false → l ≡ []
    empty [] none = refl
    empty (b ∷ l) none = absurd (true≢false none)

held_none : (line : List ℕ) → [] ≡ held_of line → line ≡ []
held_none [] is = refl
held_none (b ∷ line) is = absurd (omega (arith, ap length is))

-- ---- a list of feedings

module _ (stream : Stream) (text line : List ℕ) (is : held_in stream ≡ held_of line) (f : Feeding)
    (feeds : Feeds f.last stream f.block f.before f.after f.got) (next : NextOf text f) where
  abbrev at : List ℕ
  at = drop f.got.used text

  abbrev r : FedSoFar
  r = fed_by f.last stream f.block (length f.before)

  feeds_onto : Onto (abs stream.state) (lines_from line text) (take f.got.written f.after) (abs f.got.stream.state) (held_in f.got.stream) at
  feeds_onto =
      let o = onto_fed f.last next.more next.last_is f.block (length f.before) (abs stream.state) (held_in stream) line is in
      let rest : drop f.got.used text ≡ drop r.used f.block ++ next.more =
      ap (drop f.got.used) next.text_is
      ∙ drop-append-le f.got.used f.block next.more (feeds_in feeds)
      ∙ ap (λ (n : ℕ). drop n f.block ++ next.more) feeds.used_is in
      record {
        answered = o.answered;
        line = o.line;
        held_is = feeds.held_is ∙ o.held_is;
        lines_are =
            ap (lines_from line) next.text_is ∙ o.lines_are ∙ ap (λ (l : List ℕ). o.answered ++ lines_from o.line l) (sym rest);
        text_is = written_out feeds ∙ o.text_is;
        state_is = feeds.state_is ∙ o.state_is;
      }

  -- nothing is left behind the last
  feeds_last : f.last ≡ true → f.got.is_full ≡ false → lines_from feeds_onto.line at ≡ []
  unfolding lines_from
  feeds_last last room =
      let s = abs stream.state in
      let full : r.full ≡ false = sym feeds.full_is ∙ room in
      let none : r.held ≡ [] =
      ap (λ (l : Bool). (fed l (length f.before) s (held_in stream) f.block).held) last
      ∙ none_held f.block (length f.before) s (held_in stream)
      (ap (λ (l : Bool). (fed l (length f.before) s (held_in stream) f.block).full) (sym last) ∙ full) in
      let line-is : feeds_onto.line ≡ [] = held_none feeds_onto.line (sym (feeds.held_is ∙ none) ∙ feeds_onto.held_is) in
      let rest : at ≡ [] =
      ap (drop f.got.used) (next.text_is ∙ ap (λ (l : List ℕ). f.block ++ l) (next.last_is last) ∙ append-nil f.block)
      ∙ ap (λ (n : ℕ). drop n f.block) (feeds_all feeds room)
      ∙ drop-length f.block in
      λ i. lines_from (line-is i) (rest i)

-- one, and then others
joined : {s next : State} {all : List (List ℕ)} {held rest : List ℕ} (f : Feeding) (fs : List Feeding)
    (o : Onto s all (take f.got.written f.after) next held rest) (l : Answered next (lines_from o.line rest) fs) →
    (Finished (f ∷ fs) → l.later ≡ []) → Answered s all (f ∷ fs)
unfolding flatten
joined {s} f fs o l finished = record {
  answered = o.answered ++ l.answered;
  later = l.later;
  lines_are = o.lines_are ∙ ap (λ (ls : List (List ℕ)). o.answered ++ ls) l.lines_are ∙ sym (append_assoc o.answered l.answered l.later);
  text_is =
      (λ i. o.text_is i ++ (l.text_is ∙ ap (λ (t : State). answers_to t l.answered) o.state_is) i)
      ∙ sym (answers_to_append s o.answered l.answered);
  finished = finished;
}

-- no feeding at all
none_yet : (s : State) (all : List (List ℕ)) → Answered s all []
unfolding answers_to flatten Finished
none_yet s all = record { answered = []; later = all; lines_are = refl; text_is = refl; finished = λ fin. absurd fin }

so_far : (fs : List Feeding) (stream : Stream) (text line : List ℕ) → held_in stream ≡ held_of line → Feedings stream text fs →
    Answered (abs stream.state) (lines_from line text) fs
unfolding Feedings Finished none_yet
so_far [] stream text line is none = none_yet (abs stream.state) (lines_from line text)
so_far (f ∷ []) stream text line is (feeds, (next, none)) =
    let o = feeds_onto stream text line is f feeds next in
    joined f [] o (none_yet (abs f.got.stream.state) (lines_from o.line (drop f.got.used text)))
    (λ fin. feeds_last stream text line is f feeds next fin.0 fin.1)
so_far (f ∷ g ∷ rest) stream text line is (feeds, (next, later)) =
    let o = feeds_onto stream text line is f feeds next in
    let l = so_far (g ∷ rest) f.got.stream (drop f.got.used text) o.line o.held_is later in
    joined f (g ∷ rest) o l l.finished

-- ---- feedings append

pub feedings_append : (fs gs : List Feeding) (stream : Stream) (text : List ℕ) → Feedings stream text fs →
    Feedings (stream_after stream fs) (drop (used_by fs) text) gs → Feedings stream text (fs ++ gs)
unfolding Feedings stream_after used_by
feedings_append [] gs stream text none later = later
feedings_append (f ∷ fs) gs stream text (feeds, (next, rest)) later =
    let place = sym (drop-drop (used_by fs) f.got.used text) in
    let behind = subst (λ (l : List ℕ). Feedings (stream_after f.got.stream fs) l gs) place later in
    (feeds, (next, feedings_append fs gs f.got.stream (drop f.got.used text) rest behind))

pub stream_after_append : (fs gs : List Feeding) (stream : Stream) → stream_after stream (fs ++ gs) ≡ stream_after (stream_after stream fs) gs
unfolding stream_after
stream_after_append [] gs stream = refl
stream_after_append (f ∷ fs) gs stream = stream_after_append fs gs f.got.stream

pub used_by_append : (fs gs : List Feeding) → used_by (fs ++ gs) ≡ used_by fs + used_by gs
unfolding used_by
used_by_append [] gs = omega arith
used_by_append (f ∷ fs) gs = omega (arith, used_by_append fs gs)

pub finished_append : (fs gs : List Feeding) → Finished gs → Finished (fs ++ gs)
unfolding Finished
finished_append [] gs fin = fin
finished_append (f ∷ []) [] fin = absurd fin
finished_append (f ∷ []) (g ∷ gs) fin = fin
finished_append (f ∷ f' ∷ fs) gs fin = finished_append (f' ∷ fs) gs fin

-- what a list of feedings writes is the answers to the lines of the text
pub feedings-answered : {s : QoSScheduler} {stream : Stream} → Begins s stream → (text : List ℕ) (fs : List Feeding) → Feedings stream text fs →
    Answered (abs s) (lines text) fs
feedings-answered {s} {stream} begins text fs feedings =
    subst (λ (t : QoSScheduler). Answered (abs t) (lines text) fs) begins.state_is (so_far fs stream text [] begins.held_is feedings)
