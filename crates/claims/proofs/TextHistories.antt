-- Demand 3 for text: the answers to lines are a history's (`text_demand3`), and so is what is written of a text that is fed to a stream, however it is
-- cut and however small the buffers are (`stream_demand3`). Assumes nothing.
use mathlib.Core.Path.{◌≡◌, refl, sym, ap, subst}
use mathlib.Core.List.{List, [], ◌∷◌, ◌++◌, map, flatten}
use Prim.Native.Nat.{ℕ}
use Rattle.std.specs.Prelude.{Option, None, Some}
use Rattle.rules.specs.declared.call.Call.{Call}
use Rattle.scheduler.specs.declared.scheduler.QoSScheduler.{QoSScheduler}
use Rattle.rules.specs.State.{State}
use Rattle.rules.specs.Stretch.{events}
use Rattle.frames.specs.declared.stream.Stream.{Stream}
use Rattle.frames.specs.Lines.{line_call, said, said_to, line_text, lines, answer_to, state_after, answers_to}
use Rattle.claims.specs.Demand3.{Start, start_state}
use Rattle.frames.specs.Stream.{Begins}
use Rattle.claims.specs.Requests.{call_in}
use Rattle.claims.specs.TextClaim.{Feeding, Feedings, Answered, Line, by_line, TextClaim, StreamClaim}
use Rattle.claims.proofs.Demand3.{start_is}
use Rattle.claims.proofs.Histories.{answers_from}
use Rattle.claims.proofs.Follows.{run-said, Chain, asks}
use Rattle.claims.proofs.Feedings.{feedings-answered}

-- ---- some lines, with their answers

unfoldable answered : State → List (List ℕ) → List Line
answered s [] = []
answered s (line ∷ rest) = record { line = line; text = answer_to line s } ∷ answered (state_after line s) rest

answered-lines : (s : State) (asked : List (List ℕ)) → map (λ (l : Line). l.line) (answered s asked) ≡ asked
unfolding answered
answered-lines s [] = refl
answered-lines s (line ∷ rest) = ap (λ (l : List (List ℕ)). line ∷ l) (answered-lines (state_after line s) rest)

answered-text : (s : State) (asked : List (List ℕ)) → answers_to s asked ≡ flatten (map (λ (l : Line). l.text) (answered s asked))
unfolding answered answers_to flatten
answered-text s [] = refl
answered-text s (line ∷ rest) = ap (λ (l : List ℕ). answer_to line s ++ l) (answered-text (state_after line s) rest)

-- each is told what the rules say
line-says : (line : List ℕ) (s : State) (c : Option Call) →
    by_line.Told (record { line = line; text = line_text (said c s).bytes }) s (answers_from (call_in c) s)
unfolding events
line-says line s None = refl
line-says line s (Some call) = refl

answered_chain : (s : State) (asked : List (List ℕ)) → Chain by_line s (answered s asked)
unfolding answered Chain answer_to state_after said_to
answered_chain s [] = tt
answered_chain s (line ∷ rest) = (line-says line s (line_call line), rw (run-said (line_call line) s) (answered_chain (state_after line s) rest))

-- ---- the answers to lines are a history's

pub text_demand3 : {s : QoSScheduler} (start : Start s) (asked : List (List ℕ)) → TextClaim (start_state start) s asked (answers_to (start_state start) asked)
text_demand3 {s} start asked = record {
  lines = answered (start_state start) asked;
  lines_are = answered-lines (start_state start) asked;
  text_is = answered-text (start_state start) asked;
  asks = asks by_line start (answered (start_state start) asked) (answered_chain (start_state start) asked);
}

-- ---- a text fed to a stream

pub stream_demand3 : {s : QoSScheduler} (start : Start s) {stream : Stream} → Begins s stream → (text : List ℕ) (fs : List Feeding) →
    Feedings stream text fs → StreamClaim (start_state start) s text fs
stream_demand3 {s} start begins text fs feedings =
    let so_far : Answered (start_state start) (lines text) fs =
    subst (λ (t : State). Answered t (lines text) fs) (start_is start) (feedings-answered begins text fs feedings) in
    record {
      so_far = so_far;
      claim = subst (TextClaim (start_state start) s so_far.answered) (sym so_far.text_is) (text_demand3 start so_far.answered);
    }
