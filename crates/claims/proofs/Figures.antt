-- Document 01's numbers, under its headings and in its order, each as a literal beside the definition that has it. The code is proved equal to the
-- definitions, so a number that is wrong in both alike would be proved too; here it is refused. Where a number stands inside a definition, an
-- example on either side of it is computed. K1 to K11 are in KCases, of rules, document 01's five lines in Example, and an image for each condition
-- of acceptance in the script of script_run; 4,294,967,295 is in no definition, since a sum that passes it is above every slice.
-- Assumes nothing.
use mathlib.Core.Path.{◌≡◌, refl}
use mathlib.Core.Bool.{Bool, true, false}
use mathlib.Core.List.{List, [], ◌∷◌, ◌++◌, map}
use Prim.Native.Nat.{ℕ, ◌+◌, ◌-◌, ◌^◌}
use lib.ListN.{length, replicate}
use Rattle.std.specs.Prelude.{None, Some, Ok, Err}
use Rattle.records.specs.declared.band.QoSClass.TheVariants.{UserInteractive, RealTimeIO, Background}
use Rattle.records.specs.declared.error.SchedError.TheVariants.{TableFull, QueueFull, NoSuchTask, AlreadyReady, AlreadyBlocked, NotBlocked}
use Rattle.records.specs.declared.ids.Tid.{Tid}
use Rattle.records.specs.declared.state.ThreadState.TheVariants.{Ready, Running, Blocked, Terminated}
use Rattle.records.specs.declared.task.TaskControlBlock.{TaskControlBlock}
use Rattle.records.specs.Band.{band_code, coded_band, slice}
use Rattle.records.specs.Error.{error_code}
use Rattle.records.specs.Lists.{every_below, first_place}
use Rattle.records.specs.Mask.{permits, stored_mask}
use Rattle.records.specs.ThreadState.{state_code, coded_state}
use Rattle.records.specs.Task.{empty_record, created, terminated, blocked, picked}
use Rattle.queue.specs.Entries.{full, takes, push_result, pushed, without, entry_at, taken_at}
use Rattle.rules.specs.declared.answer.ContextSwitchTarget.TheVariants as target
use Rattle.rules.specs.declared.answer.Value.{Value}
use Rattle.rules.specs.declared.answer.Value.TheVariants as value
use Rattle.rules.specs.declared.call.Call.{Call}
use Rattle.rules.specs.declared.call.Call.TheVariants.{Create, Affinity, Terminate, Block, Wake, Enqueue, Schedule, Tick, Yield, Handoff, Plan}
use Rattle.rules.specs.declared.call.Call.TheVariants.{CanRunOnCore, TaskIndexForTid, Task, CurrentTaskOnCpu, SystemTicksUs, Holder}
use Rattle.rules.specs.Accepted.{record_fits}
use Rattle.rules.specs.Outcome.{answered, refusal}
use Rattle.rules.specs.Paper.{record_numbers, flag_number, paper}
use Rattle.rules.specs.Picking.{choice, rule_p, schedule}
use Rattle.rules.specs.Queries.{can_run_on_core, task_index_for_tid, task_at, current_task_on_cpu, core_of}
use Rattle.rules.specs.State.{State, band_order, none_byte, new_state, with_micros}
use Rattle.rules.specs.Step.{step, run}
use Rattle.rules.specs.Ticking.{ticked, tick, yield, handoff, planned}
use Rattle.rules.specs.Waking.{create, affinity, terminate, block, enqueue, wake}
use Rattle.rules.proofs.KCases.{slot as slot_of, make}
use Rattle.frames.specs.declared.refusal.HostError.TheVariants.{WrongLength, NotAccepted, NoFrame}
use Rattle.frames.specs.AcceptedImage.{codes_fit, place_fits, band_fits}
use Rattle.frames.specs.Answer.{record_widths, answer_bytes}
use Rattle.frames.specs.Bytes.{big_endian_from, big_endian, bytes_of, written, total}
use Rattle.frames.specs.Frame.{argument_widths, frame_call}
use Rattle.frames.specs.Hex.{is_digit, is_hex, from_hex, to_hex}
use Rattle.frames.specs.Host.{host_number, refusal_returned, answer_room, wrong_length}
use Rattle.frames.specs.Lines.{newline, line_call, no_frame, lines_from, lines}
use Rattle.frames.specs.Image.{record_length, queue_length, queues_place, queue_place, holders_place, micros_place, image_length, record_in, records_in, state_at}

-- ---- examples

abbrev tid_of : ℕ → Tid
tid_of n = record { 0 = n }

-- numbers that need all of 4 and of 8 bytes
abbrev in4 : ℕ → ℕ
in4 n = 2 ^ 31 + n

abbrev in8 : ℕ → ℕ
in8 n = 2 ^ 63 + n

-- a record that has no number twice but its codes
abbrev sample : TaskControlBlock
sample = record {
  tid = tid_of 10;
  qos = RealTimeIO;
  state = Ready;
  context_handle = 11;
  cr3 = 12;
  rsp0 = 13;
  cpu_affinity = 14;
  slice_budget_us = 15;
  consumed_slice_us = 16;
  in_use = true;
}

-- whether a record's bytes with these codes of band, state and in use are as they should be
abbrev codes : ℕ → ℕ → ℕ → Bool
codes b s u = codes_fit (written record_widths (0 ∷ b ∷ s ∷ 0 ∷ 0 ∷ 0 ∷ 0 ∷ 0 ∷ 0 ∷ u ∷ []))

-- whether a record of band 1 with this mask, budget and consumed time is as it should be
abbrev fits : ℕ → ℕ → ℕ → Bool
fits mask budget consumed = record_fits (record {
  tid = tid_of 10;
  qos = RealTimeIO;
  state = Ready;
  context_handle = 11;
  cr3 = 12;
  rsp0 = 13;
  cpu_affinity = mask;
  slice_budget_us = budget;
  consumed_slice_us = consumed;
  in_use = true;
})

-- whether queue 0 may have this length, in an image of zeros, where slot 0 is Ready
abbrev queue_of : ℕ → Bool
queue_of n = band_fits (replicate 3008 0 ++ n ∷ replicate 266 0) UserInteractive

-- n tasks of tid 7, all Blocked
abbrev tasks : ℕ → State
tasks n = run (replicate n (make UserInteractive)) new_state

-- 64 tasks: slot 63, of tid 9, is Running and held by core 63, and slot 0 waits
abbrev last : State
last = run (Create (tid_of 9) UserInteractive 0 0 0 ∷ Enqueue (slot_of 63) ∷ Schedule 63 ∷ Enqueue (slot_of 0) ∷ []) (tasks 63)

-- the numbers of the answer to a call
abbrev numbers_of : State → Call → List ℕ
numbers_of s call = paper (step call s).answer

-- the microseconds after a call on the new state, and those 1 after n
abbrev micros_after : Call → ℕ
micros_after call = (step call new_state).state.micros

abbrev one_more_than : ℕ → ℕ
one_more_than n = (step (Tick 0 1) (with_micros new_state n)).state.micros

-- the bytes of an answer with a value and no pick
abbrev bytes_for : Value → List ℕ
bytes_for v = answer_bytes (answered None v)

-- ---- the table

pub record Figures : Type 0 where
  -- ---- "Task record, queues, holders"
  -- "A record is 47 bytes, multi-byte fields big-endian"
  pub record_length_lem : record_length ≡ 47
  pub big_endian_lem : bytes_of 2 (256 + 3) ≡ 1 ∷ 3 ∷ []
  pub big_endian_read : big_endian (1 ∷ 3 ∷ []) ≡ 256 + 3
  -- "tid 4, band 1 [..], state 1 [..], context 8, cr3 8, rsp0 8, mask 8 [..], budget 4, consumed 4, in use 1 (0 or 1)"
  pub record_widths_lem : record_widths ≡ 4 ∷ 1 ∷ 1 ∷ 8 ∷ 8 ∷ 8 ∷ 8 ∷ 4 ∷ 4 ∷ 1 ∷ []
  pub record_fields : record_numbers sample ≡ 10 ∷ 1 ∷ 0 ∷ 11 ∷ 12 ∷ 13 ∷ 14 ∷ 15 ∷ 16 ∷ 1 ∷ []
  pub in_use_lem : map flag_number (false ∷ true ∷ []) ≡ 0 ∷ 1 ∷ []
  -- "band 1 (0 UserInteractive, 1 RealTimeIO, 2 Background)", written and read
  pub bands : map band_code (UserInteractive ∷ RealTimeIO ∷ Background ∷ []) ≡ 0 ∷ 1 ∷ 2 ∷ []
  pub bands_read : map coded_band (0 ∷ 1 ∷ 2 ∷ 3 ∷ []) ≡ Some UserInteractive ∷ Some RealTimeIO ∷ Some Background ∷ None ∷ []
  -- "state 1 (0 Ready, 1 Running, 2 Blocked, 3 Terminated)", written and read
  pub states : map state_code (Ready ∷ Running ∷ Blocked ∷ Terminated ∷ []) ≡ 0 ∷ 1 ∷ 2 ∷ 3 ∷ []
  pub states_read : map coded_state (0 ∷ 1 ∷ 2 ∷ 3 ∷ 4 ∷ []) ≡
      Some Ready ∷ Some Running ∷ Some Blocked ∷ Some Terminated ∷ None ∷ []
  -- "mask 8 (bit N permits core N)"
  pub mask_bits : map (permits (in8 4)) (1 ∷ 2 ∷ 3 ∷ 62 ∷ 63 ∷ []) ≡ false ∷ true ∷ false ∷ false ∷ true ∷ []
  -- "The empty record [..]: band 2, state 3, mask all ones, all else 0."
  pub empty_record_lem : record_numbers empty_record ≡ 0 ∷ 2 ∷ 3 ∷ 0 ∷ 0 ∷ 0 ∷ 18446744073709551615 ∷ 0 ∷ 0 ∷ 0 ∷ []
  -- "64 records [..], three queues [..], a holder for each of 64 cores (a slot, or 255 for none), and 8 bytes of system microseconds.
  -- [..] New: all records empty, queues empty, no holders, 0."
  pub none : none_byte ≡ 255
  pub new : new_state ≡ record {
    tasks = replicate 64 empty_record;
    queues = record { interactive = []; real_time = []; background = [] };
    holders = replicate 64 255;
    micros = 0;
  }
  -- "Slices by band: 2,000, 5,000, 20,000."
  pub slices : map slice (UserInteractive ∷ RealTimeIO ∷ Background ∷ []) ≡ 2000 ∷ 5000 ∷ 20000 ∷ []
  -- "The image (added) is 3,275 bytes: 64 records (3,008), three queues of a length byte and 64 slot bytes [..] (195), holders (64), system
  -- microseconds (8)."
  pub image_length_lem : image_length ≡ 3275
  pub image_parts_lem : queues_place ∷ (holders_place - queues_place) ∷ (micros_place - holders_place) ∷ (image_length - micros_place) ∷ [] ≡
      3008 ∷ 195 ∷ 64 ∷ 8 ∷ []
  pub queue_length_lem : queue_length ≡ 1 + 64
  pub queue_places : map queue_place (UserInteractive ∷ RealTimeIO ∷ Background ∷ []) ≡ 3008 ∷ (3008 + 65) ∷ (3008 + 65 + 65) ∷ []
  -- "band, state and in-use codes are as above": the highest of each, and one more
  pub codes_accepted : codes 2 3 1 ∷ codes 3 3 1 ∷ codes 2 4 1 ∷ codes 2 3 2 ∷ [] ≡ true ∷ false ∷ false ∷ false ∷ []
  -- "no mask is 0"; "every budget is 0 or its slice; every consumed is below its slice"
  pub records_accepted : fits 1 5000 4999 ∷ fits 1 0 4999 ∷ fits 0 5000 4999 ∷ fits 1 2000 4999 ∷ fits 1 5000 5000 ∷ [] ≡
      true ∷ true ∷ false ∷ false ∷ false ∷ []
  -- "lengths are at most 64"
  pub lengths_accepted : map queue_of (64 ∷ 65 ∷ []) ≡ true ∷ false ∷ []
  -- ---- "Picking"
  -- "go through bands 0, 1, 2"
  pub band_order_lem : map band_code band_order ≡ 0 ∷ 1 ∷ 2 ∷ []
  -- "It becomes Running, budget its slice, consumed 0"
  pub picked_record : record_numbers (picked sample) ≡ 10 ∷ 1 ∷ 1 ∷ 11 ∷ 12 ∷ 13 ∷ 14 ∷ 5000 ∷ 0 ∷ 1 ∷ []
  -- ---- "Waiting and waking"
  -- create: "state Blocked, mask all ones, budget and consumed 0"
  pub created_record : record_numbers (created (tid_of 10) RealTimeIO 11 12 13) ≡ 10 ∷ 1 ∷ 2 ∷ 11 ∷ 12 ∷ 13 ∷ 18446744073709551615 ∷ 0 ∷ 0 ∷ 1 ∷ []
  -- affinity: "mask 0 is stored as all ones"
  pub mask_stored : map stored_mask (0 ∷ 1 ∷ []) ≡ 18446744073709551615 ∷ 1 ∷ []
  -- terminate: "Terminated, not in use"
  pub terminated_record : record_numbers (terminated sample) ≡ 10 ∷ 1 ∷ 3 ∷ 11 ∷ 12 ∷ 13 ∷ 14 ∷ 15 ∷ 16 ∷ 0 ∷ []
  -- block: "Blocked, consumed 0"
  pub blocked_record : record_numbers (blocked sample) ≡ 10 ∷ 1 ∷ 2 ∷ 11 ∷ 12 ∷ 13 ∷ 14 ∷ 15 ∷ 0 ∷ 1 ∷ []
  -- ---- "Tick, yield, handoff, plan"
  -- "c of 64 or more answers none, nothing changed. System microseconds gain elapsed"; so too for the plan
  pub tick_cores : map micros_after (Tick 63 5 ∷ Tick 64 5 ∷ Plan 63 5 ∷ Plan 64 5 ∷ []) ≡ 5 ∷ 0 ∷ 5 ∷ 0 ∷ []
  -- "past 2^64 − 1 going on from 0", and nothing of the kind at 2^63
  pub micros : map one_more_than (9223372036854775807 ∷ 18446744073709551614 ∷ 18446744073709551615 ∷ []) ≡
      9223372036854775808 ∷ 18446744073709551615 ∷ 0 ∷ []
  -- ---- "Call frames"
  -- "lower-case hexadecimal, two digits a byte": of the bytes 01, 23, 45, 67, 89, ab, cd and ef
  pub digits : to_hex (1 ∷ 35 ∷ 69 ∷ 103 ∷ 137 ∷ 171 ∷ 205 ∷ 239 ∷ []) ≡
      48 ∷ 49 ∷ 50 ∷ 51 ∷ 52 ∷ 53 ∷ 54 ∷ 55 ∷ 56 ∷ 57 ∷ 97 ∷ 98 ∷ 99 ∷ 100 ∷ 101 ∷ 102 ∷ []
  -- "bad digit": the bytes beside 0 to 9 and a to f, and A and F
  pub bad_digits : map is_digit (47 ∷ 48 ∷ 57 ∷ 58 ∷ 65 ∷ 70 ∷ 96 ∷ 97 ∷ 102 ∷ 103 ∷ []) ≡
      false ∷ true ∷ true ∷ false ∷ false ∷ false ∷ false ∷ true ∷ true ∷ false ∷ []
  -- "closed by a newline or the end of input; nothing after the last newline is no line": the lines of nothing, of a newline, of a digit, of a digit and
  -- a newline, and of a digit and two
  pub line_end : newline ≡ 10
  pub line_numbers : map (λ (text : List ℕ). length (lines text)) ([] ∷ (10 ∷ []) ∷ (48 ∷ []) ∷ (48 ∷ 10 ∷ []) ∷ (48 ∷ 10 ∷ 10 ∷ []) ∷ []) ≡
      0 ∷ 1 ∷ 1 ∷ 1 ∷ 2 ∷ []
  -- "A blank line is refusal 9"
  pub blank_line : line_call [] ≡ None
  pub line_refused : no_frame ≡ 9 ∷ 255 ∷ 255 ∷ []
  -- "The first byte is the call; slots and cores take 8 bytes, elapsed 4." The lengths of whole frames from 00 to 10; then each frame, with arguments
  -- that need all of their bytes.
  pub frame_lengths : map (λ (widths : List ℕ). 1 + total widths) argument_widths ≡
      30 ∷ 17 ∷ 9 ∷ 9 ∷ 9 ∷ 9 ∷ 9 ∷ 13 ∷ 9 ∷ 9 ∷ 13 ∷ 17 ∷ 5 ∷ 9 ∷ 9 ∷ 1 ∷ 9 ∷ []
  -- "00 create: tid 4, band 1, context 8, cr3 8, rsp0 8."
  pub frame_00 : frame_call (0 ∷ written (4 ∷ 1 ∷ 8 ∷ 8 ∷ 8 ∷ []) (in4 7 ∷ 1 ∷ in8 2 ∷ in8 3 ∷ in8 4 ∷ [])) ≡
      Some (Create (tid_of (in4 7)) RealTimeIO (in8 2) (in8 3) (in8 4))
  -- "01 affinity: slot, mask 8."
  pub frame_01 : frame_call (1 ∷ written (8 ∷ 8 ∷ []) (in8 1 ∷ in8 2 ∷ [])) ≡ Some (Affinity (slot_of (in8 1)) (in8 2))
  -- "02 terminate, 03 block, 04 wake, 05 enqueue: slot."
  pub frame_02 : frame_call (2 ∷ written (8 ∷ []) (in8 1 ∷ [])) ≡ Some (Terminate (slot_of (in8 1)))
  pub frame_03 : frame_call (3 ∷ written (8 ∷ []) (in8 1 ∷ [])) ≡ Some (Block (slot_of (in8 1)))
  pub frame_04 : frame_call (4 ∷ written (8 ∷ []) (in8 1 ∷ [])) ≡ Some (Wake (slot_of (in8 1)))
  pub frame_05 : frame_call (5 ∷ written (8 ∷ []) (in8 1 ∷ [])) ≡ Some (Enqueue (slot_of (in8 1)))
  -- "06 schedule: core."
  pub frame_06 : frame_call (6 ∷ written (8 ∷ []) (in8 1 ∷ [])) ≡ Some (Schedule (in8 1))
  -- "07 tick: core, elapsed."
  pub frame_07 : frame_call (7 ∷ written (8 ∷ 4 ∷ []) (in8 1 ∷ in4 2 ∷ [])) ≡ Some (Tick (in8 1) (in4 2))
  -- "08 yield, 09 handoff: core."
  pub frame_08 : frame_call (8 ∷ written (8 ∷ []) (in8 1 ∷ [])) ≡ Some (Yield (in8 1))
  pub frame_09 : frame_call (9 ∷ written (8 ∷ []) (in8 1 ∷ [])) ≡ Some (Handoff (in8 1))
  -- "0a plan: core, elapsed."
  pub frame_0a : frame_call (10 ∷ written (8 ∷ 4 ∷ []) (in8 1 ∷ in4 2 ∷ [])) ≡ Some (Plan (in8 1) (in4 2))
  -- "0b `can_run_on_core`: slot, core (taken modulo 64)."
  pub frame_0b : frame_call (11 ∷ written (8 ∷ 8 ∷ []) (in8 1 ∷ in8 2 ∷ [])) ≡ Some (CanRunOnCore (slot_of (in8 1)) (in8 2))
  pub modulo : map (permits 2) (1 ∷ 63 ∷ 64 ∷ 65 ∷ []) ≡ true ∷ false ∷ false ∷ true ∷ []
  -- "0c `task_index_for_tid`: tid 4"
  pub frame_0c : frame_call (12 ∷ written (4 ∷ []) (in4 7 ∷ [])) ≡ Some (TaskIndexForTid (tid_of (in4 7)))
  -- "0d `task`: slot. 0e `current_task_on_cpu`: core. 0f system microseconds. 10 holder (added): slot"
  pub frame_0d : frame_call (13 ∷ written (8 ∷ []) (in8 1 ∷ [])) ≡ Some (Task (slot_of (in8 1)))
  pub frame_0e : frame_call (14 ∷ written (8 ∷ []) (in8 1 ∷ [])) ≡ Some (CurrentTaskOnCpu (in8 1))
  pub frame_0f : frame_call (15 ∷ []) ≡ Some SystemTicksUs
  pub frame_10 : frame_call (16 ∷ written (8 ∷ []) (in8 1 ∷ [])) ≡ Some (Holder (slot_of (in8 1)))
  -- "unknown call", "band above 2"
  pub frame_11 : frame_call (17 ∷ []) ≡ None
  pub frame_band : frame_call (0 ∷ written (4 ∷ 1 ∷ 8 ∷ 8 ∷ 8 ∷ []) (7 ∷ 3 ∷ 0 ∷ 0 ∷ 0 ∷ [])) ≡ None
  -- "An answer is status (0 or the refusal), pick slot and pick band (ff ff for none), then the value: nothing for 01 to 05"
  pub answer_nothing : bytes_for value.Nothing ≡ 0 ∷ 255 ∷ 255 ∷ []
  pub answer_refused : answer_bytes (refusal NoSuchTask) ≡ 3 ∷ 255 ∷ 255 ∷ []
  pub answer_picked : answer_bytes (answered (Some (record { slot = slot_of 5; band = Background })) value.Nothing) ≡ 0 ∷ 5 ∷ 2 ∷ []
  -- "a slot or core byte, ff for none"
  pub answer_slot_lem : map bytes_for (value.Slot None ∷ value.Slot (Some (slot_of 5)) ∷ []) ≡ (0 ∷ 255 ∷ 255 ∷ 255 ∷ []) ∷ (0 ∷ 255 ∷ 255 ∷ 5 ∷ []) ∷ []
  pub answer_core : map bytes_for (value.Core None ∷ value.Core (Some 5) ∷ []) ≡ (0 ∷ 255 ∷ 255 ∷ 255 ∷ []) ∷ (0 ∷ 255 ∷ 255 ∷ 5 ∷ []) ∷ []
  -- "for plans 00, or 01, previous byte (ff none), target byte (ff idle), cr3 8 (0 if idle)"
  pub answer_stay : bytes_for (value.Plan None) ≡ 0 ∷ 255 ∷ 255 ∷ 0 ∷ []
  pub answer_idle : bytes_for (value.Plan (Some (record { prev_task_idx = Some (slot_of 5); target = target.Idle }))) ≡
      0 ∷ 255 ∷ 255 ∷ 1 ∷ 5 ∷ 255 ∷ 0 ∷ 0 ∷ 0 ∷ 0 ∷ 0 ∷ 0 ∷ 0 ∷ 0 ∷ []
  pub answer_switch : bytes_for (value.Plan (Some (record { prev_task_idx = None; target = target.Task (slot_of 6) (2 ^ 56 + 8) }))) ≡
      0 ∷ 255 ∷ 255 ∷ 1 ∷ 255 ∷ 6 ∷ 1 ∷ 0 ∷ 0 ∷ 0 ∷ 0 ∷ 0 ∷ 0 ∷ 8 ∷ []
  -- "00 or 01 for 0b"
  pub answer_flag : map bytes_for (value.Flag false ∷ value.Flag true ∷ []) ≡ (0 ∷ 255 ∷ 255 ∷ 0 ∷ []) ∷ (0 ∷ 255 ∷ 255 ∷ 1 ∷ []) ∷ []
  -- "00, or 01 and the record, for 0d, 0e"
  pub answer_no_task : bytes_for (value.Task None) ≡ 0 ∷ 255 ∷ 255 ∷ 0 ∷ []
  pub answer_task : paper (answered None (value.Task (Some sample))) ≡ 0 ∷ 255 ∷ 255 ∷ 1 ∷ 10 ∷ 1 ∷ 0 ∷ 11 ∷ 12 ∷ 13 ∷ 14 ∷ 15 ∷ 16 ∷ 1 ∷ []
  pub answer_task_length : length (bytes_for (value.Task (Some sample))) ≡ 3 + 1 + 47
  -- "8 bytes for 0f"
  pub answer_micros : bytes_for (value.Micros (2 ^ 56 + 8)) ≡ 0 ∷ 255 ∷ 255 ∷ 1 ∷ 0 ∷ 0 ∷ 0 ∷ 0 ∷ 0 ∷ 0 ∷ 8 ∷ []
  -- which of these each call has: 00 on 63 tasks and on 64; then 01 to 10 for slots and cores that there are
  pub create_slots : map (λ (n : ℕ). numbers_of (tasks n) (make UserInteractive)) (63 ∷ 64 ∷ []) ≡ (0 ∷ 255 ∷ 255 ∷ 63 ∷ []) ∷ (1 ∷ 255 ∷ 255 ∷ []) ∷ []
  pub answers_63 : map (numbers_of last) (
      Affinity (slot_of 63) 1 ∷ Terminate (slot_of 63) ∷ Block (slot_of 63) ∷ Wake (slot_of 62) ∷ Enqueue (slot_of 63) ∷ Schedule 63 ∷ Tick 63 5 ∷ Yield 63 ∷
      Handoff 63 ∷ Plan 63 5 ∷ CanRunOnCore (slot_of 63) 63 ∷ TaskIndexForTid (tid_of 9) ∷ Task (slot_of 63) ∷ CurrentTaskOnCpu 63 ∷ SystemTicksUs ∷
      Holder (slot_of 63) ∷ []) ≡
      (0 ∷ 255 ∷ 255 ∷ []) ∷ (0 ∷ 255 ∷ 255 ∷ []) ∷ (0 ∷ 255 ∷ 255 ∷ []) ∷ (0 ∷ 255 ∷ 255 ∷ []) ∷ (0 ∷ 255 ∷ 255 ∷ []) ∷
      (0 ∷ 0 ∷ 0 ∷ 0 ∷ []) ∷ (0 ∷ 255 ∷ 255 ∷ 63 ∷ []) ∷ (0 ∷ 0 ∷ 0 ∷ 1 ∷ 63 ∷ 0 ∷ 0 ∷ []) ∷ (0 ∷ 255 ∷ 255 ∷ 0 ∷ []) ∷ (0 ∷ 255 ∷ 255 ∷ 0 ∷ []) ∷
      (0 ∷ 255 ∷ 255 ∷ 1 ∷ []) ∷ (0 ∷ 255 ∷ 255 ∷ 63 ∷ []) ∷
      (0 ∷ 255 ∷ 255 ∷ 1 ∷ 9 ∷ 0 ∷ 1 ∷ 0 ∷ 0 ∷ 0 ∷ 18446744073709551615 ∷ 2000 ∷ 0 ∷ 1 ∷ []) ∷
      (0 ∷ 255 ∷ 255 ∷ 1 ∷ 9 ∷ 0 ∷ 1 ∷ 0 ∷ 0 ∷ 0 ∷ 18446744073709551615 ∷ 2000 ∷ 0 ∷ 1 ∷ []) ∷
      (0 ∷ 255 ∷ 255 ∷ 0 ∷ []) ∷ (0 ∷ 255 ∷ 255 ∷ 63 ∷ []) ∷ []
  -- "Wake: if some core holds it, Running", so that a handoff gives no plan
  pub woken_63 : numbers_of (run (Block (slot_of 63) ∷ Wake (slot_of 63) ∷ []) last) (Handoff 63) ≡ 0 ∷ 255 ∷ 255 ∷ 0 ∷ []
  -- 3 for a slot or a core "64 or above"; none, or no plan, "for c of 64 and above" in 06, 07 and 0a; "Slots of 64 and above give 00 in 0b and 0d, ff
  -- in 10; such a core gives 00 in 0e"; a tid that no slot has
  pub answers_64 : map (numbers_of last) (
      Affinity (slot_of 64) 1 ∷ Terminate (slot_of 64) ∷ Block (slot_of 64) ∷ Wake (slot_of 64) ∷ Enqueue (slot_of 64) ∷ Schedule 64 ∷ Tick 64 5 ∷ Yield 64 ∷
      Handoff 64 ∷ Plan 64 5 ∷ CanRunOnCore (slot_of 64) 63 ∷ TaskIndexForTid (tid_of 8) ∷ Task (slot_of 64) ∷ CurrentTaskOnCpu 64 ∷ Holder (slot_of 64) ∷ []) ≡
      (3 ∷ 255 ∷ 255 ∷ []) ∷ (3 ∷ 255 ∷ 255 ∷ []) ∷ (3 ∷ 255 ∷ 255 ∷ []) ∷ (3 ∷ 255 ∷ 255 ∷ []) ∷ (3 ∷ 255 ∷ 255 ∷ []) ∷
      (0 ∷ 255 ∷ 255 ∷ 255 ∷ []) ∷ (0 ∷ 255 ∷ 255 ∷ 255 ∷ []) ∷ (3 ∷ 255 ∷ 255 ∷ []) ∷ (3 ∷ 255 ∷ 255 ∷ []) ∷ (0 ∷ 255 ∷ 255 ∷ 0 ∷ []) ∷
      (0 ∷ 255 ∷ 255 ∷ 0 ∷ []) ∷ (0 ∷ 255 ∷ 255 ∷ 255 ∷ []) ∷ (0 ∷ 255 ∷ 255 ∷ 0 ∷ []) ∷ (0 ∷ 255 ∷ 255 ∷ 0 ∷ []) ∷ (0 ∷ 255 ∷ 255 ∷ 255 ∷ []) ∷ []
  -- the table: 3 where it is "not in use"; 5 "Blocked", 6 "not Blocked", 4 "Ready", 3 "no holder"
  pub refused_free : map (numbers_of (tasks 63)) (Block (slot_of 63) ∷ Wake (slot_of 63) ∷ Enqueue (slot_of 63) ∷ []) ≡
      (3 ∷ 255 ∷ 255 ∷ []) ∷ (3 ∷ 255 ∷ 255 ∷ []) ∷ (3 ∷ 255 ∷ 255 ∷ []) ∷ []
  pub refused_states : map (numbers_of last) (Block (slot_of 62) ∷ Wake (slot_of 63) ∷ Enqueue (slot_of 0) ∷ Handoff 0 ∷ []) ≡
      (5 ∷ 255 ∷ 255 ∷ []) ∷ (6 ∷ 255 ∷ 255 ∷ []) ∷ (4 ∷ 255 ∷ 255 ∷ []) ∷ (3 ∷ 255 ∷ 255 ∷ []) ∷ []
  -- and of a holder that is Ready: yield 3, "its holder not Running"; handoff 6, "holder Ready"
  pub refused_holder : map (numbers_of (run (Enqueue (slot_of 63) ∷ []) last)) (Yield 63 ∷ Handoff 63 ∷ []) ≡ (3 ∷ 255 ∷ 255 ∷ []) ∷ (6 ∷ 255 ∷ 255 ∷ []) ∷ []
  -- "It gets the answer's length, or 256 plus refusal 7, 8 or 9"; 7: "image not 3,275 bytes, or answer buffer under 51"
  pub host_numbers : map host_number (WrongLength ∷ NotAccepted ∷ NoFrame ∷ []) ≡ 7 ∷ 8 ∷ 9 ∷ []
  pub host_returned : map refusal_returned (WrongLength ∷ NotAccepted ∷ NoFrame ∷ []) ≡ (256 + 7) ∷ (256 + 8) ∷ (256 + 9) ∷ []
  pub answer_room_lem : answer_room ≡ 51
  pub lengths_refused : wrong_length (replicate 3275 0) (replicate 51 0) ∷ wrong_length (replicate 3274 0) (replicate 51 0) ∷
      wrong_length (replicate 3275 0) (replicate 50 0) ∷ [] ≡ false ∷ true ∷ true ∷ []
  -- the queue: 2 where "64 entries stand in it"
  pub queue_full : map full (replicate 63 0 ∷ replicate 64 0 ∷ []) ≡ false ∷ true ∷ []
  pub queue_slots : map (λ (n : ℕ). takes n []) (63 ∷ 64 ∷ []) ≡ true ∷ false ∷ []
  pub queue_answers : push_result 63 [] ∷ push_result 63 (replicate 64 0) ∷ push_result 64 [] ∷ [] ≡ Ok tt ∷ Err QueueFull ∷ Err NoSuchTask ∷ []
  -- "Numbers 1 to 6 are the Rust's `TableFull`, `QueueFull`, `NoSuchTask`, `AlreadyReady`, `AlreadyBlocked` and `NotBlocked`."
  pub refusals : map error_code (TableFull ∷ QueueFull ∷ NoSuchTask ∷ AlreadyReady ∷ AlreadyBlocked ∷ NotBlocked ∷ []) ≡ 1 ∷ 2 ∷ 3 ∷ 4 ∷ 5 ∷ 6 ∷ []

pub figures : Figures
unfolding big_endian_from bytes_of frame_call is_hex from_hex to_hex line_call lines_from answer_bytes paper record_in records_in state_at place_fits band_fits every_below
    first_place pushed without entry_at taken_at choice rule_p run create affinity terminate block wake enqueue schedule
    ticked tick yield handoff planned can_run_on_core task_index_for_tid task_at current_task_on_cpu core_of
figures = record {
  record_length_lem = refl;
  big_endian_lem = refl;
  big_endian_read = refl;
  record_widths_lem = refl;
  record_fields = refl;
  in_use_lem = refl;
  bands = refl;
  bands_read = refl;
  states = refl;
  states_read = refl;
  mask_bits = refl;
  empty_record_lem = refl;
  none = refl;
  new = refl;
  slices = refl;
  image_length_lem = refl;
  image_parts_lem = refl;
  queue_length_lem = refl;
  queue_places = refl;
  codes_accepted = refl;
  records_accepted = refl;
  lengths_accepted = refl;
  band_order_lem = refl;
  picked_record = refl;
  created_record = refl;
  mask_stored = refl;
  terminated_record = refl;
  blocked_record = refl;
  tick_cores = refl;
  micros = refl;
  digits = refl;
  bad_digits = refl;
  line_end = refl;
  line_numbers = refl;
  blank_line = refl;
  line_refused = refl;
  frame_lengths = refl;
  frame_00 = refl;
  frame_01 = refl;
  frame_02 = refl;
  frame_03 = refl;
  frame_04 = refl;
  frame_05 = refl;
  frame_06 = refl;
  frame_07 = refl;
  frame_08 = refl;
  frame_09 = refl;
  frame_0a = refl;
  frame_0b = refl;
  modulo = refl;
  frame_0c = refl;
  frame_0d = refl;
  frame_0e = refl;
  frame_0f = refl;
  frame_10 = refl;
  frame_11 = refl;
  frame_band = refl;
  answer_nothing = refl;
  answer_refused = refl;
  answer_picked = refl;
  answer_slot_lem = refl;
  answer_core = refl;
  answer_stay = refl;
  answer_idle = refl;
  answer_switch = refl;
  answer_flag = refl;
  answer_no_task = refl;
  answer_task = refl;
  answer_task_length = refl;
  answer_micros = refl;
  create_slots = refl;
  answers_63 = refl;
  woken_63 = refl;
  answers_64 = refl;
  refused_free = refl;
  refused_states = refl;
  refused_holder = refl;
  host_numbers = refl;
  host_returned = refl;
  answer_room_lem = refl;
  lengths_refused = refl;
  queue_full = refl;
  queue_slots = refl;
  queue_answers = refl;
  refusals = refl;
}
