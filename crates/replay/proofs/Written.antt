-- What a stream makes of a block, where so much of a buffer is lent to it: its text stands at the front, and in a vector that is cut there it waits if
-- there is any. Assumes nothing.
use Rattle.std.proofs.Common.{arith, ◌≡◌, ◌∙◌, ap, Bool, not, List, [], ◌∷◌, Option, ℕ, ◌==◌, length, take, option_map, ne_eqb}
use Rattle.std.specs.Bool.{then_some}
use Rattle.std.proofs.lemmas.List.Edits.{sets}
use Rattle.arrayvec.specs.ArrayVec.{ArrayVec}
use Rattle.scheduler.specs.Scheduler.{abs}
use Rattle.frames.proofs.Stores.{take_sets}
use Rattle.frames.specs.declared.stream.Fed.{Fed}
use Rattle.frames.specs.declared.stream.Stream.{Stream}
use Rattle.frames.specs.Stream.{fed_by, held_in, Feeds}
use Rattle.replay.specs.Tallies.{waiting_of}

module _ {last : Bool} {stream : Stream} {block before after : List ℕ} {r : Fed} {room : ℕ} (feeds : Feeds last stream block before after r)
    (is : length before ≡ room) where
  pub fed_state : abs r.stream.state ≡ (fed_by last stream block room).state
  fed_state = feeds.state_is ∙ ap (λ (n : ℕ). (fed_by last stream block n).state) is

  pub fed_held : held_in r.stream ≡ (fed_by last stream block room).held
  fed_held = feeds.held_is ∙ ap (λ (n : ℕ). (fed_by last stream block n).held) is

  pub written_text : take r.written after ≡ (fed_by last stream block room).text
  written_text =
      let text = (fed_by last stream block (length before)).text in
      ap (take r.written) feeds.buffer_is
      ∙ ap (λ (n : ℕ). take n (sets before 0 text)) feeds.written_is
      ∙ take_sets before text (omega (arith, feeds.written_in, feeds.written_is))
      ∙ ap (λ (n : ℕ). (fed_by last stream block n).text) is

-- the answer in a vector, which is kept unless it is empty
abbrev kept : List ℕ → Bool → Option (List ℕ)
kept items is-empty = option_map (λ (a : ArrayVec ℕ). a.items) (then_some (not is-empty) (record { items = items }))

pub kept_waits : (items : List ℕ) {is-empty : Bool} → is-empty ≡ (length items == 0) → kept items is-empty ≡ waiting_of items
kept_waits [] is = ap (kept []) is
kept_waits (b ∷ items) is = ap (kept (b ∷ items)) (is ∙ ne_eqb (length (b ∷ items)) 0 (λ e. absurd (omega (arith, e))))
