-- Document 01's records: the empty one ("Task record, queues, holders"), those that create, terminate and block leave ("Waiting and
-- waking"), and the one that a pick leaves ("Picking").
use Rattle.std.specs.Prelude.{ℕ, Bool, true, false}
use Rattle.records.specs.declared.ids.Tid.{Tid}
use Rattle.records.specs.declared.band.QoSClass.{QoSClass}
use Rattle.records.specs.declared.band.QoSClass.TheVariants.{Background}
use Rattle.records.specs.declared.state.ThreadState.{ThreadState}
use Rattle.records.specs.declared.state.ThreadState.TheVariants.{Running, Blocked, Terminated}
use Rattle.records.specs.declared.task.TaskControlBlock.{TaskControlBlock}
use Rattle.records.specs.Band.{slice}
use Rattle.records.specs.Mask.{all_cores}

-- "band 2, state 3, mask all ones, all else 0"
abbrev pub empty_record : TaskControlBlock
empty_record = record {
  tid = record { 0 = 0 };
  qos = Background;
  state = Terminated;
  context_handle = 0;
  cr3 = 0;
  rsp0 = 0;
  cpu_affinity = all_cores;
  slice_budget_us = 0;
  consumed_slice_us = 0;
  in_use = false;
}

-- create: "state Blocked, mask all ones, budget and consumed 0"
abbrev pub created : Tid → QoSClass → ℕ → ℕ → ℕ → TaskControlBlock
created tid band context cr3 rsp0 = record {
  tid = tid;
  qos = band;
  state = Blocked;
  context_handle = context;
  cr3 = cr3;
  rsp0 = rsp0;
  cpu_affinity = all_cores;
  slice_budget_us = 0;
  consumed_slice_us = 0;
  in_use = true;
}

-- the record with the fields that calls change as given, all else as it was; then one field of those changed
abbrev pub changed : TaskControlBlock → ThreadState → ℕ → ℕ → ℕ → Bool → TaskControlBlock
changed t state mask budget consumed inUse = record {
  tid = t.tid;
  qos = t.qos;
  state = state;
  context_handle = t.context_handle;
  cr3 = t.cr3;
  rsp0 = t.rsp0;
  cpu_affinity = mask;
  slice_budget_us = budget;
  consumed_slice_us = consumed;
  in_use = inUse;
}

abbrev pub with_state : TaskControlBlock → ThreadState → TaskControlBlock
with_state t state = changed t state t.cpu_affinity t.slice_budget_us t.consumed_slice_us t.in_use

abbrev pub with_mask : TaskControlBlock → ℕ → TaskControlBlock
with_mask t mask = changed t t.state mask t.slice_budget_us t.consumed_slice_us t.in_use

abbrev pub with_consumed : TaskControlBlock → ℕ → TaskControlBlock
with_consumed t consumed = changed t t.state t.cpu_affinity t.slice_budget_us consumed t.in_use

-- terminate: "Terminated, not in use [..]; other fields stay"
abbrev pub terminated : TaskControlBlock → TaskControlBlock
terminated t = changed t Terminated t.cpu_affinity t.slice_budget_us t.consumed_slice_us false

-- block: "Blocked, consumed 0"
abbrev pub blocked : TaskControlBlock → TaskControlBlock
blocked t = with_consumed (with_state t Blocked) 0

-- rule P: "It becomes Running, budget its slice, consumed 0"
abbrev pub picked : TaskControlBlock → TaskControlBlock
picked t = changed t Running t.cpu_affinity (slice t.qos) 0 t.in_use
