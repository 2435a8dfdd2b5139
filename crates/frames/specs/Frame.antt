-- Document 01, "Call frames": which call a frame's bytes stand for, or none (refusal 9: "unknown call, wrong length, band above 2").
use Rattle.std.specs.Prelude.{cond, List, [], ◌∷◌, ℕ, eqb, length, get_or, Option, None, Some}
use Rattle.rules.specs.declared.call.Call.{Call}
use Rattle.records.specs.declared.band.QoSClass.{QoSClass}
use Rattle.records.specs.declared.ids.Slot.{Slot}
use Rattle.records.specs.declared.ids.Tid.{Tid}
use Rattle.records.specs.Band.{coded_band}
use Rattle.rules.specs.declared.call.Call.TheVariants.{Create, Affinity, Terminate, Block, Wake, Enqueue, Schedule, Tick, Yield, Handoff, Plan, CanRunOnCore, TaskIndexForTid, Task, CurrentTaskOnCpu, SystemTicksUs, Holder}
use Rattle.frames.specs.Bytes.{number_at, total}

-- "The first byte is the call; slots and cores take 8 bytes, elapsed 4." The widths of what follows it, from 00 to 10.
abbrev pub argument_widths : List (List ℕ)
argument_widths =
    -- 00 create: tid 4, band 1, context 8, cr3 8, rsp0 8
    (4 ∷ 1 ∷ 8 ∷ 8 ∷ 8 ∷ []) ∷
    -- 01 affinity: slot, mask 8
    (8 ∷ 8 ∷ []) ∷
    -- 02 terminate, 03 block, 04 wake, 05 enqueue: slot
    (8 ∷ []) ∷
    (8 ∷ []) ∷
    (8 ∷ []) ∷
    (8 ∷ []) ∷
    -- 06 schedule: core
    (8 ∷ []) ∷
    -- 07 tick: core, elapsed
    (8 ∷ 4 ∷ []) ∷
    -- 08 yield, 09 handoff: core
    (8 ∷ []) ∷
    (8 ∷ []) ∷
    -- 0a plan: core, elapsed
    (8 ∷ 4 ∷ []) ∷
    -- 0b can_run_on_core: slot, core
    (8 ∷ 8 ∷ []) ∷
    -- 0c task_index_for_tid: tid 4
    (4 ∷ []) ∷
    -- 0d task: slot
    (8 ∷ []) ∷
    -- 0e current_task_on_cpu: core
    (8 ∷ []) ∷
    -- 0f system microseconds
    [] ∷
    -- 10 holder: slot
    (8 ∷ []) ∷
    []

abbrev pub arguments_length : ℕ → ℕ
arguments_length call = total (get_or argument_widths call [])

-- a slot and a tid at a place
abbrev pub slot_at : ℕ → List ℕ → Slot
slot_at at frame = record { 0 = number_at at 8 frame }

abbrev pub tid_at : ℕ → List ℕ → Tid
tid_at at frame = record { 0 = number_at at 4 frame }

-- "00 create: tid 4, band 1, context 8, cr3 8, rsp0 8"
abbrev pub create_in : Option QoSClass → List ℕ → Option Call
create_in None frame = None
create_in (Some qos) frame = Some (Create (tid_at 1 frame) qos (number_at 6 8 frame) (number_at 14 8 frame) (number_at 22 8 frame))

-- the calls that a frame could be, from 00 to 10, each argument behind the one before
abbrev pub calls_in : List ℕ → List (Option Call)
calls_in frame =
    create_in (coded_band (number_at 5 1 frame)) frame ∷
    Some (Affinity (slot_at 1 frame) (number_at 9 8 frame)) ∷
    Some (Terminate (slot_at 1 frame)) ∷
    Some (Block (slot_at 1 frame)) ∷
    Some (Wake (slot_at 1 frame)) ∷
    Some (Enqueue (slot_at 1 frame)) ∷
    Some (Schedule (number_at 1 8 frame)) ∷
    Some (Tick (number_at 1 8 frame) (number_at 9 4 frame)) ∷
    Some (Yield (number_at 1 8 frame)) ∷
    Some (Handoff (number_at 1 8 frame)) ∷
    Some (Plan (number_at 1 8 frame) (number_at 9 4 frame)) ∷
    Some (CanRunOnCore (slot_at 1 frame) (number_at 9 8 frame)) ∷
    Some (TaskIndexForTid (tid_at 1 frame)) ∷
    Some (Task (slot_at 1 frame)) ∷
    Some (CurrentTaskOnCpu (number_at 1 8 frame)) ∷
    Some SystemTicksUs ∷
    Some (Holder (slot_at 1 frame)) ∷
    []

-- no bytes are no frame ("A blank line is refusal 9"); else the call's arguments have their length exactly, and the call is known
unfoldable pub frame_call : List ℕ → Option Call
frame_call [] = None
frame_call (call ∷ arguments) =
    cond (eqb (length arguments) (arguments_length call))
    (get_or (calls_in (call ∷ arguments)) call None)
    None
