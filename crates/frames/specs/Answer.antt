-- Document 01, "Call frames": the bytes of an answer. `paper` lists its numbers; here each has its width.
use Rattle.std.specs.Prelude.{List, [], ◌∷◌, ℕ, get_or, Option, None, Some}
use Rattle.rules.specs.declared.answer.ContextSwitchPlan.{ContextSwitchPlan}
use Rattle.records.specs.declared.task.TaskControlBlock.{TaskControlBlock}
use Rattle.rules.specs.declared.answer.Answer.{Answer}
use Rattle.rules.specs.declared.answer.Value.{Value}
use Rattle.rules.specs.declared.answer.Value.TheVariants as value
use Rattle.rules.specs.Paper.{paper, record_numbers}
use Rattle.frames.specs.Bytes.{written}

-- "A record is 47 bytes [..] tid 4, band 1, state 1, context 8, cr3 8, rsp0 8, mask 8, budget 4, consumed 4, in use 1"
abbrev pub record_widths : List ℕ
record_widths = 4 ∷ 1 ∷ 1 ∷ 8 ∷ 8 ∷ 8 ∷ 8 ∷ 4 ∷ 4 ∷ 1 ∷ []

unfoldable pub record_bytes : TaskControlBlock → List ℕ
record_bytes t = written record_widths (record_numbers t)

-- "for plans 00, or 01, previous byte (ff none), target byte (ff idle), cr3 8 (0 if idle)"
abbrev pub plan_widths : Option ContextSwitchPlan → List ℕ
plan_widths None = 1 ∷ []
plan_widths (Some p) = 1 ∷ 1 ∷ 1 ∷ 8 ∷ []

-- "00, or 01 and the record, for 0d, 0e"
abbrev pub task_widths : Option TaskControlBlock → List ℕ
task_widths None = 1 ∷ []
task_widths (Some t) = 1 ∷ record_widths

-- "nothing for 01 to 05; a slot or core byte [..] for 00, 06, 07, 0c, 10; for plans [..]; 00 or 01 for 0b; [..] for 0d, 0e; 8 bytes for 0f"
abbrev pub value_widths : Value → List ℕ
value_widths value.Nothing = []
value_widths (value.Slot s) = 1 ∷ []
value_widths (value.Core c) = 1 ∷ []
value_widths (value.Plan p) = plan_widths p
value_widths (value.Flag b) = 1 ∷ []
value_widths (value.Task t) = task_widths t
value_widths (value.Micros n) = 8 ∷ []

-- "An answer is status (0 or the refusal), pick slot and pick band (ff ff for none), then the value"
unfoldable pub answer_bytes : Answer → List ℕ
answer_bytes a = written (1 ∷ 1 ∷ 1 ∷ value_widths a.value) (paper a)

-- "pick slot and pick band (ff ff for none)", as they stand behind the status
abbrev pub pick_in : List ℕ → List ℕ
pick_in bytes = get_or bytes 1 0 ∷ get_or bytes 2 0 ∷ []
