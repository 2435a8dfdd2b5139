-- The loop of `feed`: each turn answers one line, and stores the answer behind those before it. Assumes nothing.
use mathlib.Core.Bool.{Bool, true, false, cond, ◌&&◌, ◌||◌, and-eq-true_iff}
use mathlib.Core.List.{List, [], ◌++◌, append-nil}
use mathlib.Core.Path.{◌≡◌, refl, sym, ap, ◌∙◌}
use Prim.Native.Nat.{ℕ, ◌+◌, ◌-◌, ◌≤◌, ◌<◌, min}
use native.Mathlib.Nat.{sub-zero}
use native.Mathlib.Omega.{arith}
use borrow.Author.Tests.{le-leb, lt-leb, ltb-true, ltb-false}
use lib.Dec.{ltb, leb}
use lib.ListN.{length, drop, length-append, length-drop}
use lib.Seq.{sets, length-sets, drop-drop}
use Rattle.std.specs.Prelude.{None, Some}
use Rattle.scheduler.specs.declared.scheduler.QoSScheduler.{QoSScheduler}
use Rattle.scheduler.specs.Scheduler.{abs}
use Rattle.frames.specs.declared.held.Held.{Held}
use Rattle.frames.specs.declared.stream.Fed.{Fed}
use Rattle.frames.specs.declared.stream.Stream.{Stream}
use Rattle.frames.specs.Lines.{line_of, line_text, some, answer_to, state_after}
use Rattle.frames.specs.Stream.{held_bytes, held_of, FedSoFar, fed, fed_by, Feeds}
use Rattle.frames.specs.Private.{PutsLine, Stops}
use Rattle.frames.proofs.ByLine.{onward, onward-none, onward-onward, past, stops_at, by_parts, ltb_alike, fed_line}
use Rattle.frames.proofs.Cuts.{test, line-within}
use Rattle.frames.proofs.Holding.{length_held, some_length, some_append}
use Rattle.frames.proofs.LinePuts.{was_put, was_not_put}
use Rattle.frames.proofs.Stores.{sets_append}
use Rattle.frames.proofs.Tellings.{Makes}

-- What is done, and what the rest of the block makes in the room that is left, is what is asked for.
pub record Going (last : Bool) (start : Stream) (block before out : List ℕ) (state : QoSScheduler) (held : Held) (used written : ℕ) : Type 0 where
  pub done : List ℕ
  pub whole :
      fed_by last start block (length before)
      ≡ onward done used (fed last (length before - written) (abs state) (held_bytes held) (drop used block))
  pub written_is : written ≡ length done
  pub out_is : out ≡ sets before 0 done
  pub length_is : length out ≡ length before
  pub written_in : written ≤ length before
  pub used_in : used ≤ length block

pub begin : (last : Bool) (start : Stream) (block before : List ℕ) → Going last start block before before start.state start.held 0 0
begin last start block before = record {
  done = [];
  whole =
      onward-none _ ∙ ap (λ (n : ℕ). onward [] 0 (fed last n (abs start.state) (held_bytes start.held) block)) (sym (sub-zero (length before)));
  written_is = refl;
  out_is = refl;
  length_is = refl;
  written_in = omega arith;
  used_in = omega arith;
}

module _ {last : Bool} {start : Stream} {block before out : List ℕ} {state : QoSScheduler} {held : Held} {used written : ℕ}
    (g : Going last start block before out state held used written) {line : List ℕ} (is : line ≡ line_of (drop used block)) where
  abbrev here : List ℕ
  here = drop used block

  abbrev room : ℕ
  room = length before - written

  -- the stream at this turn
  abbrev now : Stream
  now = record { state = state; held = held }

  -- what is held of the line, once all of it is there
  abbrev pub held_then : List ℕ
  held_then = held_of (held_bytes held ++ line)

  -- whether it is at its end, as the code asks
  abbrev pub asked : Bool
  asked = ltb (used + length line) (length block) || (last && (some (held_bytes held) || some line))

  closed_is : ltb (length (line_of here)) (length here) ≡ ltb (used + length line) (length block)
  closed_is =
      let size = ap length is in
      let rest = length-drop used block in
      ltb_alike (length (line_of here)) (length here) (used + length line) (length block)
      (λ less. omega (arith, g.used_in)) (λ most. omega (arith, g.used_in))

  some_is : some (held_bytes held ++ line_of here) ≡ some (held_bytes held) || some line
  some_is = ap (λ (l : List ℕ). some (held_bytes held ++ l)) (sym is) ∙ some_append (held_bytes held) line

  first_line : fed last room (abs state) (held_bytes held) here
      ≡ by_parts last room (abs state) asked held_then (length line) (past here) (drop (past here) here)
  first_line =
      fed_line last room (abs state) here (held_bytes held) (omega (arith, length_held held, held.within))
      ∙ (λ i.
      by_parts last room (abs state) (closed_is i || (last && some_is i)) (held_of (held_bytes held ++ sym is i)) (length (sym is i)) (past here) (drop (past here) here))

  -- each turn leaves less: of the block, or of what is held
  pub less : asked ≡ true → (held' : Held) {used' : ℕ} → used' ≡ min (used + length line + 1) (length block) → held_bytes held' ≡ [] →
      length block - used' + length (held_bytes held') < length block - used + length (held_bytes held)
  less due held' {used'} used_is none =
      let within = line-within block used is in
      let empty : length (held_bytes held') ≡ 0 = ap length none in
      test (ltb (used + length line) (length block))
      (λ e. omega (arith, ltb-true (used + length line) (length block) e, g.used_in))
      (λ e.
      let at_last : last && (some (held_bytes held) || some line) ≡ true = rw e at due in
      let any = ((and-eq-true_iff last _).0 at_last).1 in
      test (some (held_bytes held))
      (λ h. omega (arith, ltb-true 0 (length (held_bytes held)) (sym (some_length (held_bytes held)) ∙ h), ltb-false (used + length line) (length block) e))
      (λ h.
      let more : some line ≡ true = rw h at any in
      omega (arith, ltb-true 0 (length line) (sym (some_length line) ∙ more), g.used_in)))

  -- ---- the ends

  module _ {full : Bool} (stops : fed last room (abs state) (held_bytes held) here ≡ stops_at (abs state) held_then (length line) full) where
    final : fed_by last start block (length before)
        ≡ record { text = g.done; used = used + length line; state = abs state; held = held_then; full = full }
    final =
        g.whole
        ∙ ap (onward g.done used) stops
        ∙ (λ i. record { text = append-nil g.done i; used = used + length line; state = abs state; held = held_then; full = full })

    stopped : {out' : List ℕ} {r : Fed} → out' ≡ out → Stops now line (used + length line) written full r → Feeds last start block before out' r
    stopped same s = record {
      state_is = ap abs s.state_is ∙ sym (ap (λ (r : FedSoFar). r.state) final);
      held_is = s.held_is ∙ sym (ap (λ (r : FedSoFar). r.held) final);
      used_is = s.used_is ∙ sym (ap (λ (r : FedSoFar). r.used) final);
      full_is = s.full_is ∙ sym (ap (λ (r : FedSoFar). r.full) final);
      written_is = s.written_is ∙ g.written_is ∙ sym (ap (λ (r : FedSoFar). length r.text) final);
      written_in = omega (arith, s.written_is, g.written_in);
      buffer_is = same ∙ g.out_is ∙ sym (ap (λ (r : FedSoFar). sets before 0 r.text) final);
    }

  -- the line is not at its end
  pub stops_open : {r : Fed} → asked ≡ false → Stops now line (used + length line) written false r → Feeds last start block before out r
  stops_open not-due s =
      stopped (first_line ∙ ap (λ (t : Bool). by_parts last room (abs state) t held_then (length line) (past here) (drop (past here) here)) not-due) refl s

  -- it is
  module _ (due : asked ≡ true) {bytes : List ℕ} {next : QoSScheduler} (made : Makes held_then state bytes next) where
    abbrev answer : List ℕ
    answer = answer_to held_then (abs state)

    answer_is : answer ≡ line_text bytes
    unfolding answer_to
    answer_is = ap line_text (sym made.bytes_are)

    next_state : state_after held_then (abs state) ≡ abs next
    unfolding state_after
    next_state = sym made.state_is

    -- what comes behind the line
    abbrev later : FedSoFar
    later = fed last (room - length answer) (state_after held_then (abs state)) [] (drop (past here) here)

    by_room : (b : Bool) → leb (length answer) room ≡ b →
        fed last room (abs state) (held_bytes held) here ≡ cond b (onward answer (past here) later) (stops_at (abs state) held_then (length line) true)
    by_room b e =
        first_line
        ∙ (λ i.
        cond (due i)
        (cond (e i) (onward answer (past here) later) (stops_at (abs state) held_then (length line) true))
        (stops_at (abs state) held_then (length line) false))

    -- its answer has no room
    pub stops_full : {out' : List ℕ} {r : Fed} → PutsLine bytes written out out' None → Stops now line (used + length line) written true r →
        Feeds last start block before out' r
    stops_full puts s =
        let not-put = was_not_put bytes written out puts in
        let small = lt-leb (length answer) room (omega (arith, not-put.0, ap length answer_is, g.length_is)) in
        stopped (by_room false small) not-put.1 s

    -- ---- a turn

    module _ {used' : ℕ} (used_is : used' ≡ min (used + length line + 1) (length block)) where
      next_used : used + past here ≡ used'
      next_used = omega (arith, ap length is, length-drop used block, g.used_in)

      next_rest : drop (past here) here ≡ drop used' block
      next_rest = drop-drop (past here) used block ∙ ap (λ (k : ℕ). drop k block) next_used

      pub turn : {out' : List ℕ} {n : ℕ} {held' : Held} → PutsLine bytes written out out' (Some n) → held_bytes held' ≡ [] →
          Going last start block before out' next held' used' (written + n)
      turn {n = n} puts none =
          let put = was_put bytes written out puts in
          let size = ap length answer_is in
          let fits = le-leb (length answer) room (omega (arith, put.0, put.1, g.length_is)) in
          let next-room : room - length answer ≡ length before - (written + n) = omega (arith, put.0) in
          let place : written ≡ 0 + length g.done = omega (arith, g.written_is) in
          record {
            done = g.done ++ line_text bytes;
            whole =
                g.whole
                ∙ ap (onward g.done used) (by_room true fits)
                ∙ onward-onward g.done answer used (past here) _
                ∙ (λ i. onward (g.done ++ answer_is i) (next_used i) (fed last (next-room i) (next_state i) (sym none i) (next_rest i)));
            written_is = omega (arith, g.written_is, length-append g.done (line_text bytes), put.0);
            out_is = put.2 ∙ (λ i. sets (g.out_is i) (place i) (line_text bytes)) ∙ sym (sets_append before 0 g.done (line_text bytes));
            length_is = ap length put.2 ∙ length-sets out written (line_text bytes) ∙ g.length_is;
            written_in = omega (arith, put.1, g.length_is, g.written_in);
            used_in = omega (arith, used_is);
          }
