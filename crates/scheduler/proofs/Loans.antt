-- Block and tick on a lent state, as a caller meets them that lends a state from a local. Assumes nothing.
use Rattle.std.proofs.Common.{ℕ, zero, ◌^◌, ◌<◌, [], ◌∷◌, refl, w32, w64}
use seplogic.Ra.Ura.{Ura}
use base.Fraction.{full_share}
use mir.Val.{vint, vptr}
use base.Logic.{SProp, emp, id⊢}
use base.Fml.{ftrue, fsep}
use prog.Memory.{Memory}
use prog.Routine.{Routine}
use types.Logic.{Logic}
use contract.Monad.{Fun}
use denote.Laws.{Is}
use denote.Triple.Spec.{triple_of}
use denote.Triple.Statement.{Contract}
use denote.Triple.Clauses.{ensured}
use Rattle.records.specs.declared.ids.Slot.{Slot}
use Rattle.records.specs.contracts.ids.Slot as L
use Rattle.rules.specs.declared.call.Call.TheVariants as call
use Rattle.scheduler.specs.declared.scheduler.QoSScheduler.{QoSScheduler}
use Rattle.scheduler.specs.Scheduler.{MeetsLent}
use Rattle.scheduler.proofs.MachineValues.{slot_vals, slot_owns, slot_owned, tick_vals, tick_owns, tick_owned}
use Rattle.scheduler.proofs.Lending.{Loan, reference_to, closed, loan_asks_for, loan_ends}
use Rattle.scheduler.specs.contracts.scheduler.QoSScheduler.block_task_lent as block
use Rattle.scheduler.specs.contracts.scheduler.QoSScheduler.on_timer_tick_on_cpu_lent as tick

module _ {M : Type 1} {𝓤 : Ura M} (𝓛 : Logic 𝓤) (mem : Memory → SProp 𝓤) (run : Routine → Fun 𝓤) where
  abbrev pub BlockLent : Contract 𝓤
  BlockLent = triple_of 𝓛 block.signature (block.spec 𝓛 mem run)

  abbrev pub TickLent : Contract 𝓤
  TickLent = triple_of 𝓛 tick.signature (tick.spec 𝓛 mem run)

module _ {M : Type 1} {𝓤 : Ura M} (𝓛 : Logic 𝓤) (mem : Memory → SProp 𝓤) (run : Routine → Fun 𝓤) (b : ℕ) (s : QoSScheduler) where
  pub block_loan : (slot : Slot) → Is L.the_row slot (slot_vals slot) → Loan 𝓛 s (call.Block slot) (BlockLent 𝓛 mem run) b (slot_vals slot)
  block_loan slot is = record {
    ghost = λ ν γ. (((ν ∷ [], tt), (full_share, tt), tt, (reference_to b s γ, (slot, tt)), (vptr b zero ∷ [], (slot_vals slot, tt))), tt);
    args_are = λ ν γ. refl;
    needs = loan_asks_for 𝓛 (slot_owns slot) (slot_owned 𝓛 slot is) (id⊢ 𝓤 (emp 𝓤)) b s;
    Says = λ ν γ. ensured 𝓛 block.ended (block.clauses 𝓛 mem run) (ν ∷ [], tt) (reference_to b s γ, (slot, tt)) tt;
    gives = λ ν γ v. id⊢ 𝓤 _;
    keeps = λ ν γ r. loan_ends 𝓛 (closed b ν γ) (λ _. fsep ftrue ftrue) γ (MeetsLent (call.Block slot) s r);
  }

  pub tick_loan : (core elapsed : ℕ) → core < 2 ^ 64 → elapsed < 2 ^ 32 → Loan 𝓛 s (call.Tick core elapsed) (TickLent 𝓛 mem run) b (tick_vals core elapsed)
  tick_loan core elapsed core_fits_lem elapsed-fits = record {
    ghost = λ ν γ. (((ν ∷ [], tt), (full_share, tt), tt, (reference_to b s γ, (core, (elapsed, tt))), (vptr b zero ∷ [], (vint w64 core ∷ [], (vint w32 elapsed ∷ [], tt)))), tt);
    args_are = λ ν γ. refl;
    needs = loan_asks_for 𝓛 (tick_owns core elapsed) (tick_owned 𝓛 core elapsed core_fits_lem elapsed-fits) (id⊢ 𝓤 (emp 𝓤)) b s;
    Says = λ ν γ. ensured 𝓛 tick.ended (tick.clauses 𝓛 mem run) (ν ∷ [], tt) (reference_to b s γ, (core, (elapsed, tt))) tt;
    gives = λ ν γ v. id⊢ 𝓤 _;
    keeps = λ ν γ r. loan_ends 𝓛 (closed b ν γ) (λ _. fsep ftrue (fsep ftrue ftrue)) γ (MeetsLent (call.Tick core elapsed) s r);
  }
