-- `is_waiting` meets its contract: a law for each way out. Assumes nothing.
use Rattle.std.proofs.Common.{ap, ◌∙◌, rules}
use Rattle.records.specs.declared.task.TaskControlBlock.{TaskControlBlock}
use Rattle.rules.specs.State.{task}
use Rattle.frames.specs.Image.{state_at}
use Rattle.frames.proofs.Accepting.{record_read, ready_read, waiting-past, waiting_not, waiting_of}
use Rattle.frames.proofs.accept.is_waiting.Goals as goal

pub returns-then-slot-ge-MAX_TASKS : goal.returns-then-slot-ge-MAX_TASKS
returns-then-slot-ge-MAX_TASKS c =
    let a = c.args in
    waiting-past a.image.now a.band a.slot c.if-slot-ge-MAX_TASKS.true

pub returns-then-is_in : goal.returns-then-is_in
returns-then-is_in c =
    let a = c.args in
    let low = c.if-slot-ge-MAX_TASKS.false in
    let own = c.band_in.ensures ∙ ap (λ (t : TaskControlBlock). t.qos) (record_read a.image.now a.slot low c.record_at-record.ensures) in
    waiting_of (task (state_at a.image.now) a.slot) (ready_read a.image.now a.slot low c.record_at-record.ensures c.is_in.ensures)
    a.band c.if-is_in.true own (search rules)

pub returns-else-is_in : goal.returns-else-is_in
returns-else-is_in c =
    let a = c.args in
    waiting_not (task (state_at a.image.now) a.slot)
    (ready_read a.image.now a.slot c.if-slot-ge-MAX_TASKS.false c.record_at-record.ensures c.is_in.ensures) a.band c.if-is_in.false
