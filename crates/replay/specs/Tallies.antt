-- What a line does: what it adds to the counts of lists, calls compared and differences, and what becomes of the stream.
use Rattle.std.specs.Prelude.{◌≡◌, ℕ, ◌+◌, ◌%◌, ◌^◌, Bool, true, false, cond, List, [], ◌∷◌, ◌==◌, Option, None, Some, option_map, IsSome}
use Rattle.scheduler.specs.Scheduler.{abs}
use Rattle.rules.specs.State.{new_state}
use Rattle.frames.specs.Stream.{FedSoFar, fed_by, held_in, longest_answer}
use Rattle.replay.specs.declared.Counts.{Counts}
use Rattle.replay.specs.declared.Replay.{Replay}
use Rattle.replay.specs.Comparing.{as_stored}

-- one more, in 64 bits
abbrev pub more : ℕ → ℕ
more n = (n + 1) % 2 ^ 64

-- a list's name begins with `=`
abbrev pub is_name : List ℕ → Bool
is_name [] = false
is_name (b ∷ line) = b == 61

-- at first
abbrev pub none_counted : Counts
none_counted = record { lists = 0; calls = 0; differences = 0 }

-- an answer was held against the stored one
abbrev pub with_answer : Bool → Counts → Counts
with_answer is-stored k = record { lists = k.lists; calls = more k.calls; differences = cond is-stored k.differences (more k.differences) }

-- a list begins
abbrev pub with_list : Counts → Counts
with_list k = record { lists = more k.lists; calls = k.calls; differences = k.differences }

-- the answer that waits, if one does
abbrev pub waiting_in : Replay → Option (List ℕ)
waiting_in r = option_map (λ answer. answer.items) r.waiting

-- A line: the stored answer to the last frame, where an answer waits; else a list's name, or a frame.
abbrev pub with_line : Option (List ℕ) → List ℕ → Counts → Counts
with_line (Some answer) line k = with_answer (as_stored answer line) k
with_line None line k = cond (is_name line) (with_list k) k

-- a list begins with a new scheduler
pub record BeginsList (r : Replay) : Type 0 where
  pub state_is : abs r.stream.state ≡ new_state
  pub held_is : held_in r.stream ≡ []
  pub none_waits : waiting_in r ≡ None

-- what a frame makes of the stream, where the longest answer has room
abbrev pub fed_frame : Replay → List ℕ → FedSoFar
fed_frame before line = fed_by false before.stream line longest_answer

-- an answer waits, where there is any
abbrev pub waiting_of : List ℕ → Option (List ℕ)
waiting_of [] = None
waiting_of (b ∷ text) = Some (b ∷ text)

-- a frame is fed to the stream, and its answer waits once its newline has come
pub record FeedsFrame (before : Replay) (line : List ℕ) (after : Replay) : Type 0 where
  pub state_is : abs after.stream.state ≡ (fed_frame before line).state
  pub held_is : held_in after.stream ≡ (fed_frame before line).held
  pub waits : waiting_in after ≡ waiting_of (fed_frame before line).text
  pub counts_are : after.counts ≡ before.counts

-- what becomes of the stream and of what waits, by the kind of line
pub data Goes (before : Replay) (line : List ℕ) (after : Replay) : Type 0 where
  an_answer : IsSome (waiting_in before) → after.stream ≡ before.stream → waiting_in after ≡ None → Goes before line after
  a_name : waiting_in before ≡ None → is_name line ≡ true → BeginsList after → Goes before line after
  a_frame : waiting_in before ≡ None → is_name line ≡ false → FeedsFrame before line after → Goes before line after

-- a line is counted, and does what its kind does
pub record Replays (before : Replay) (line : List ℕ) (after : Replay) : Type 0 where
  pub counts_are : after.counts ≡ with_line (waiting_in before) line before.counts
  pub goes : Goes before line after
