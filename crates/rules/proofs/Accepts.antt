-- Acceptance: the test that computes passes exactly the states that meet document 01's list of conditions. Assumes nothing.
use mathlib.Core.Path.{◌≡◌}
use mathlib.Core.Bool.{true}
use mathlib.Core.Logic.Iff
use Rattle.rules.specs.State.{State, task, queue}
use Rattle.rules.specs.Accepted.{Accepted, accepts}
use Rattle.rules.proofs.Says.{Says, equal, less, at_most, same_flag, same-state, both, either, never, implies, below, each, bands, ready_of_lem, may-hold}

accepted : (s : State) → Says (accepts s) (Accepted s)
unfolding accepts
accepted s =
    Iff.trans (both (both (both (both (both equal equal)
    (below (λ _. both (both (both same_flag (never equal)) (either equal equal)) less)))
    (bands (λ q. both at_most (each (λ slot. ready_of_lem q (task s slot)) 0 (queue s q)))))
    (below (λ _. implies same-state equal)))
    (below (λ _. either equal may-hold))) (
      λ (((((slots, cores), records), queues), once), holders). record {
        slots = slots;
        cores = cores;
        in_use = λ slot h. (records slot h).0.0.0;
        masks = λ slot h. (records slot h).0.0.1;
        lengths = λ q. (queues q).0;
        entries = λ q. (queues q).1;
        once = once;
        holders = holders;
        budgets = λ slot h. (records slot h).0.1;
        consumed = λ slot h. (records slot h).1;
      },
      λ a. search (a.in_use, a.masks, a.lengths, a.entries, a.once, a.holders, a.budgets, a.consumed) depth 9,
    )

pub accepts_sound : (s : State) → accepts s ≡ true → Accepted s
accepts_sound s = (accepted s).0

pub accepts_complete : (s : State) → Accepted s → accepts s ≡ true
accepts_complete s = (accepted s).1
