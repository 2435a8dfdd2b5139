-- `answer` meets its contract: what was written is the answer's text, which waits where there is any. Assumes nothing.
use Rattle.std.proofs.Common.{rules, ◌≡◌, ◌∙◌, ap, refl, length, take, option_map, ℕ}
use Rattle.arrayvec.specs.ArrayVec.{ArrayVec}
use Rattle.arrayvec.proofs.ArrayVecLemmas.{items-with_items}
use Rattle.frames.specs.Stream.{longest_answer}
use Rattle.replay.specs.Tallies.{waiting_of}
use Rattle.replay.proofs.Written.{fed_state, fed_held, written_text, kept_waits}
use Rattle.replay.proofs.Replay.answer.Goals as goal

pub returns : goal.returns
returns c =
    let fed = c.feed-fed.ensures in
    let answer = c.truncate.new.self.items in
    let room : length c.as_mut_slice.result.now ≡ longest_answer = ap length c.as_mut_slice.ensures.value ∙ c.from-answer.ensures.1 in
    let whole = items-with_items c.from-answer.result c.feed-fed.new.out (search rules) in
    let text = c.truncate.ensures.items ∙ ap (take c.feed-fed.result.written) whole ∙ written_text fed room in
    let waits = ap (option_map (λ (a : ArrayVec ℕ). a.items)) c.then_some-self.ensures ∙ kept_waits answer c.is_empty.ensures ∙ ap waiting_of text in
    record { state_is = fed_state fed room; held_is = fed_held fed room; waits = waits; counts_are = refl }
