-- Document 01, "Call frames": "Slots of 64 and above give 00 in 0b and 0d, ff in 10; such a core gives 00 in 0e." Slot 255 is one of them,
-- although 255 stands in a holder for none. Assumes nothing.
use mathlib.Core.Path.{◌≡◌}
use mathlib.Core.Bool.{false}
use Prim.Native.Nat.{ℕ, ◌≤◌}
use borrow.Author.Tests.{le-leb}
use Rattle.std.specs.Prelude.{None}
use Rattle.rules.specs.State.{State}
use Rattle.rules.specs.Queries.{can_run_on_core, task_at, current_task_on_cpu, core_of}

module _ (n : ℕ) (past : 64 ≤ n) (s : State) where
  pub no_slot_runs : (c : ℕ) → can_run_on_core n c s ≡ false
  unfolding can_run_on_core
  no_slot_runs c = rw (le-leb 64 n past)

  pub no_slot_record : task_at n s ≡ None
  unfolding task_at
  no_slot_record = rw (le-leb 64 n past)

  pub no_slot_held : core_of n s ≡ None
  unfolding core_of
  no_slot_held = rw (le-leb 64 n past)

  pub no_core_record : current_task_on_cpu n s ≡ None
  unfolding current_task_on_cpu
  no_core_record = rw (le-leb 64 n past)
