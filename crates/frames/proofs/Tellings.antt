-- What a line is told: its call, and what that makes of a state. Assumes nothing.
use mathlib.Core.Path.{◌≡◌, sym, ap, ◌∙◌}
use mathlib.Core.Bool.{Bool, true, false, cond}
use mathlib.Core.List.{List}
use Prim.Native.Nat.{ℕ, ◌/◌, ◌≤◌}
use native.Mathlib.Omega.{arith}
use lib.ListN.{length, take}
use lib.Seq.{sets}
use Rattle.std.specs.Prelude.{Option, None, Some}
use Rattle.rules.specs.declared.call.Call.{Call}
use Rattle.scheduler.specs.declared.scheduler.QoSScheduler.{QoSScheduler}
use Rattle.scheduler.specs.declared.scheduler.Reply.{Reply}
use Rattle.scheduler.specs.Scheduler.{abs, Meets}
use Rattle.rules.specs.State.{State}
use Rattle.frames.specs.Answer.{answer_bytes}
use Rattle.frames.specs.Frame.{frame_call}
use Rattle.frames.specs.Hex.{is_hex, from_hex}
use Rattle.frames.proofs.Digits.{length-from_hex}
use Rattle.frames.proofs.Stores.{take_sets}
use Rattle.frames.specs.Lines.{line_call, Said, no_frame, said, said_to}

-- ---- the call of a line

pub line_unless : (line : List ℕ) → is_hex line ≡ false → None ≡ line_call line
unfolding line_call
line_unless line e = sym (ap (λ (b : Bool). cond b (frame_call (from_hex line)) None) e)

pub line_when : (line : List ℕ) {frame : List ℕ} → is_hex line ≡ true → frame ≡ from_hex line → frame_call frame ≡ line_call line
unfolding line_call
line_when line is e = ap frame_call e ∙ sym (ap (λ (b : Bool). cond b (frame_call (from_hex line)) None) is)

-- the bytes that were read stand at the front of the buffer
pub read_back : (line o : List ℕ) {buffer : List ℕ} → buffer ≡ sets o 0 (from_hex line) → length line / 2 ≤ length o → take (length line / 2) buffer ≡ from_hex line
read_back line o e room =
    ap (take (length line / 2)) e
    ∙ ap (λ (n : ℕ). take n (sets o 0 (from_hex line))) (sym (length-from_hex line))
    ∙ take_sets o (from_hex line) (omega (arith, room, length-from_hex line))

-- ---- what it makes

-- what a line makes of a state: these bytes, and the state that is next
pub record Makes (line : List ℕ) (s : QoSScheduler) (bytes : List ℕ) (next : QoSScheduler) : Type 0 where
  pub state_is : abs next ≡ (said_to line (abs s)).state
  pub bytes_are : bytes ≡ (said_to line (abs s)).bytes

said_as : (line : List ℕ) (s : State) {c : Option Call} → line_call line ≡ c → said_to line s ≡ said c s
unfolding said_to
said_as line s e = ap (λ c. said c s) e

pub makes_refusal : {line : List ℕ} {s : QoSScheduler} → line_call line ≡ None → Makes line s no_frame s
makes_refusal {line} {s} is =
    let told = sym (said_as line (abs s) is) in
    record { state_is = ap (λ (r : Said). r.state) told; bytes_are = ap (λ (r : Said). r.bytes) told }

pub makes_reply : {line : List ℕ} {s : QoSScheduler} {call : Call} {r : Reply} → line_call line ≡ Some call → Meets call s r →
    Makes line s (answer_bytes r.answer) r.state
makes_reply {line} {s} is meets =
    let told = sym (said_as line (abs s) is) in
    record {
      state_is = meets.state_is ∙ ap (λ (r : Said). r.state) told;
      bytes_are = ap answer_bytes meets.answer_is ∙ ap (λ (r : Said). r.bytes) told;
    }
