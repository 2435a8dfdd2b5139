-- Document 01, "Call frames": the queries 0b to 10. They change nothing and pick nobody.
use Rattle.std.specs.Prelude.{Bool, false, cond, ◌&&◌, ℕ, leb, eqb, Option, None, Some}
use Rattle.records.specs.declared.ids.Slot.{Slot}
use Rattle.records.specs.declared.task.TaskControlBlock.{TaskControlBlock}
use Rattle.records.specs.Mask.{permits}
use Rattle.rules.specs.State as state
use Rattle.records.specs.Lists.{first_place}
use Rattle.rules.specs.State.{State, holder_of}
use Rattle.rules.specs.Waking.{core_holding}

-- 0b `can_run_on_core`: "slot, core (taken modulo 64)"; "Slots of 64 and above give 00"
unfoldable pub can_run_on_core : ℕ → ℕ → State → Bool
can_run_on_core slot core s = cond (leb 64 slot) false (permits (state.task s slot).cpu_affinity core)

-- 0c `task_index_for_tid`: "the lowest slot in use with that tid"
abbrev pub slot_below : ℕ → Option Slot
slot_below n = cond (leb 64 n) None (Some (record { 0 = n }))

abbrev pub has_tid : ℕ → TaskControlBlock → Bool
has_tid tid t = t.in_use && eqb t.tid.0 tid

unfoldable pub task_index_for_tid : ℕ → State → Option Slot
task_index_for_tid tid s = slot_below (first_place (has_tid tid) s.tasks)

-- 0d `task`: the record; "Slots of 64 and above give 00"
unfoldable pub task_at : ℕ → State → Option TaskControlBlock
task_at slot s = cond (leb 64 slot) None (Some (state.task s slot))

-- 0e `current_task_on_cpu`: the holder's record; "such a core gives 00"
abbrev pub holder_record : Option Slot → State → Option TaskControlBlock
holder_record None s = None
holder_record (Some h) s = task_at h.0 s

unfoldable pub current_task_on_cpu : ℕ → State → Option TaskControlBlock
current_task_on_cpu core s = cond (leb 64 core) None (holder_record (holder_of s core) s)

-- 10 holder: "answered by the lowest core whose holder it is"; "Slots of 64 and above give [..] ff", slot 255 too: in a holder 255 means none
abbrev pub core_below : ℕ → Option ℕ
core_below n = cond (leb 64 n) None (Some n)

unfoldable pub core_of : ℕ → State → Option ℕ
core_of slot s = cond (leb 64 slot) None (core_below (core_holding s slot))
