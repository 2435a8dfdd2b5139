-- Document 01's five lines, "Given [..] it writes [..]", computed by the definitions from the new state.
-- Assumes nothing.
use mathlib.Core.Path.{◌≡◌, refl}
use mathlib.Core.List.{List, [], ◌∷◌, ◌++◌}
use Prim.Native.Nat.{ℕ}
use Rattle.queue.specs.Entries.{pushed, entry_at, taken_at}
use Rattle.rules.specs.Paper.{paper}
use Rattle.rules.specs.Picking.{choice, rule_p}
use Rattle.records.specs.Lists.{first_place}
use Rattle.rules.specs.State.{new_state}
use Rattle.rules.specs.Ticking.{ticked, tick}
use Rattle.rules.specs.Waking.{create, block, enqueue}
use Rattle.frames.specs.Answer.{answer_bytes}
use Rattle.frames.specs.Bytes.{big_endian_from, bytes_of}
use Rattle.frames.specs.Frame.{frame_call}
use Rattle.frames.specs.Hex.{is_hex, from_hex, to_hex}
use Rattle.frames.specs.Lines.{line_call, line_text, said_to, lines_from, lines, answer_to, state_after, answers_to}

-- Each text as the bytes of its digits, and a newline.

-- 000000000700000000000000000100000000000000000000000000000000
abbrev first : List ℕ
first =
    48 ∷ 48 ∷ 48 ∷ 48 ∷ 48 ∷ 48 ∷ 48 ∷ 48 ∷ 48 ∷ 55 ∷ 48 ∷ 48 ∷ 48 ∷ 48 ∷ 48 ∷ 48 ∷ 48 ∷ 48 ∷ 48 ∷ 48 ∷ 48 ∷ 48 ∷ 48 ∷ 48 ∷ 48 ∷ 48 ∷ 48 ∷ 49 ∷
    48 ∷ 48 ∷ 48 ∷ 48 ∷ 48 ∷ 48 ∷ 48 ∷ 48 ∷ 48 ∷ 48 ∷ 48 ∷ 48 ∷ 48 ∷ 48 ∷ 48 ∷ 48 ∷ 48 ∷ 48 ∷ 48 ∷ 48 ∷ 48 ∷ 48 ∷ 48 ∷ 48 ∷ 48 ∷ 48 ∷ 48 ∷ 48 ∷
    48 ∷ 48 ∷ 48 ∷ 48 ∷ 10 ∷ []

-- 050000000000000000
abbrev second : List ℕ
second =
    48 ∷ 53 ∷ 48 ∷ 48 ∷ 48 ∷ 48 ∷ 48 ∷ 48 ∷ 48 ∷ 48 ∷ 48 ∷ 48 ∷ 48 ∷ 48 ∷ 48 ∷ 48 ∷ 48 ∷ 48 ∷ 10 ∷ []

-- 07000000000000000000000064
abbrev third : List ℕ
third =
    48 ∷ 55 ∷ 48 ∷ 48 ∷ 48 ∷ 48 ∷ 48 ∷ 48 ∷ 48 ∷ 48 ∷ 48 ∷ 48 ∷ 48 ∷ 48 ∷ 48 ∷ 48 ∷ 48 ∷ 48 ∷ 48 ∷ 48 ∷ 48 ∷ 48 ∷ 48 ∷ 48 ∷ 54 ∷ 52 ∷ 10 ∷ []

-- 07000000000000004000000064
abbrev fourth : List ℕ
fourth =
    48 ∷ 55 ∷ 48 ∷ 48 ∷ 48 ∷ 48 ∷ 48 ∷ 48 ∷ 48 ∷ 48 ∷ 48 ∷ 48 ∷ 48 ∷ 48 ∷ 48 ∷ 48 ∷ 52 ∷ 48 ∷ 48 ∷ 48 ∷ 48 ∷ 48 ∷ 48 ∷ 48 ∷ 54 ∷ 52 ∷ 10 ∷ []

-- 030000000000000005
abbrev fifth : List ℕ
fifth =
    48 ∷ 51 ∷ 48 ∷ 48 ∷ 48 ∷ 48 ∷ 48 ∷ 48 ∷ 48 ∷ 48 ∷ 48 ∷ 48 ∷ 48 ∷ 48 ∷ 48 ∷ 48 ∷ 48 ∷ 53 ∷ 10 ∷ []

pub given : List ℕ
given = first ++ (second ++ (third ++ (fourth ++ fifth)))

-- 00ffff00
abbrev first_answer : List ℕ
first_answer = 48 ∷ 48 ∷ 102 ∷ 102 ∷ 102 ∷ 102 ∷ 48 ∷ 48 ∷ 10 ∷ []

-- 00ffff
abbrev second_answer : List ℕ
second_answer = 48 ∷ 48 ∷ 102 ∷ 102 ∷ 102 ∷ 102 ∷ 10 ∷ []

-- 00000000
abbrev third_answer : List ℕ
third_answer = 48 ∷ 48 ∷ 48 ∷ 48 ∷ 48 ∷ 48 ∷ 48 ∷ 48 ∷ 10 ∷ []

-- 00ffffff
abbrev fourth_answer : List ℕ
fourth_answer = 48 ∷ 48 ∷ 102 ∷ 102 ∷ 102 ∷ 102 ∷ 102 ∷ 102 ∷ 10 ∷ []

-- 03ffff
abbrev fifth_answer : List ℕ
fifth_answer = 48 ∷ 51 ∷ 102 ∷ 102 ∷ 102 ∷ 102 ∷ 10 ∷ []

pub writes : List ℕ
writes = first_answer ++ (second_answer ++ (third_answer ++ (fourth_answer ++ fifth_answer)))

pub example : answers_to new_state (lines given) ≡ writes
unfolding given writes answers_to answer_to state_after said_to line_call line_text lines_from is_hex from_hex to_hex frame_call big_endian_from bytes_of
    answer_bytes paper first_place pushed entry_at taken_at choice rule_p create enqueue block ticked tick
example = refl
