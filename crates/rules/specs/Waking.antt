-- Document 01, "Waiting and waking": create, affinity, terminate, block, wake, enqueue, with their refusals in the table's order.
use Rattle.std.specs.Prelude.{Bool, cond, not, ◌||◌, map, ℕ, ltb, leb, eqb, Some}
use Rattle.records.specs.declared.band.QoSClass.{QoSClass}
use Rattle.records.specs.declared.error.SchedError.TheVariants.{TableFull, QueueFull, NoSuchTask, AlreadyReady, AlreadyBlocked, NotBlocked}
use Rattle.records.specs.declared.ids.Tid.{Tid}
use Rattle.records.specs.declared.state.ThreadState.TheVariants.{Ready, Running, Blocked}
use Rattle.records.specs.declared.task.TaskControlBlock.{TaskControlBlock}
use Rattle.records.specs.Mask.{stored_mask}
use Rattle.records.specs.ThreadState.{is_state}
use Rattle.records.specs.Task.{created, with_state, with_mask, terminated, blocked}
use Rattle.queue.specs.Entries.{full, pushed, without}
use Rattle.rules.specs.declared.answer.Value.TheVariants as value
use Rattle.records.specs.Lists.{first_place}
use Rattle.rules.specs.State.{State, none_byte, task, queue, with_task, with_queue, with_queues, each_queue, with_holders}
use Rattle.rules.specs.Outcome.{Outcome, done, refused}

-- "the lowest slot not in use"; the number of slots where every one is in use
abbrev pub free_slot : State → ℕ
free_slot s = first_place (λ (t : TaskControlBlock). not t.in_use) s.tasks

-- 00 create: "takes the lowest slot not in use"; 1 where there is "no free slot"
abbrev pub create_at : ℕ → TaskControlBlock → State → Outcome
create_at free t s = cond (leb 64 free) (refused TableFull s) (done (value.Slot (Some (record { 0 = free }))) (with_task s free t))

unfoldable pub create : Tid → QoSClass → ℕ → ℕ → ℕ → State → Outcome
create tid band context cr3 rsp0 s = create_at (free_slot s) (created tid band context cr3 rsp0) s

-- 01 affinity: "any slot below 64, free ones too; mask 0 is stored as all ones"; 3 for a slot "64 or above"
unfoldable pub affinity : ℕ → ℕ → State → Outcome
affinity slot mask s = cond (leb 64 slot) (refused NoSuchTask s) (done value.Nothing (with_task s slot (with_mask (task s slot) (stored_mask mask))))

-- "taken out of the queues and holders"
abbrev pub out_of_queues : ℕ → State → State
out_of_queues slot s = with_queues s (each_queue (without slot) s.queues)

abbrev pub released : ℕ → ℕ → ℕ
released slot h = cond (eqb h slot) none_byte h

abbrev pub out_of_holders : ℕ → State → State
out_of_holders slot s = with_holders s (map (released slot) s.holders)

-- 02 terminate: "any slot below 64; Terminated, not in use, taken out of the queues and holders; other fields stay"; 3 as in affinity
abbrev pub after_terminate : ℕ → State → State
after_terminate slot s = with_task (out_of_queues slot (out_of_holders slot s)) slot (terminated (task s slot))

unfoldable pub terminate : ℕ → State → Outcome
terminate slot s = cond (leb 64 slot) (refused NoSuchTask s) (done value.Nothing (after_terminate slot s))

-- "slot 64 or above, or not in use"
abbrev pub missing : State → ℕ → Bool
missing s slot = leb 64 slot || not (task s slot).in_use

-- 03 block: "out of its queue, Blocked, consumed 0; it stays holder"; 3, "then block" 5
unfoldable pub block : ℕ → State → Outcome
block slot s =
    cond (missing s slot) (refused NoSuchTask s) (
    cond (is_state (task s slot).state Blocked) (refused AlreadyBlocked s) (
    done value.Nothing (with_task (out_of_queues slot s) slot (blocked (task s slot)))))

-- 05 enqueue: "Blocked or Running goes to the tail of its band and becomes Ready; holders stay"; 3, "then enqueue" 4, "then the queue" 2
abbrev pub enqueued : ℕ → State → State
enqueued slot s = with_task (with_queue s (task s slot).qos (pushed slot (queue s (task s slot).qos))) slot (with_state (task s slot) Ready)

unfoldable pub enqueue : ℕ → State → Outcome
enqueue slot s =
    cond (missing s slot) (refused NoSuchTask s) (
    cond (is_state (task s slot).state Ready) (refused AlreadyReady s) (
    cond (full (queue s (task s slot).qos)) (refused QueueFull s) (
    done value.Nothing (enqueued slot s))))

-- the lowest core that holds a slot; the number of cores where none does
abbrev pub core_holding : State → ℕ → ℕ
core_holding s slot = first_place (λ (h : ℕ). eqb h slot) s.holders

-- "some core holds it"
abbrev pub is_held : State → ℕ → Bool
is_held s slot = ltb (core_holding s slot) 64

-- 04 wake: "if some core holds it, Running with no queue entry; else as enqueue"; 3, "then wake" 6
unfoldable pub wake : ℕ → State → Outcome
wake slot s =
    cond (missing s slot) (refused NoSuchTask s) (
    cond (not (is_state (task s slot).state Blocked)) (refused NotBlocked s) (
    cond (is_held s slot) (done value.Nothing (with_task s slot (with_state (task s slot) Running))) (
    enqueue slot s)))
