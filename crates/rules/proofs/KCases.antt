-- Document 01, "Cases K1 to K11, and mistakes they catch": one table, each case computed by the rules from calls on the new state. `got` is
-- what the rules make, `want` is what the paper says, in numbers as answers have them (status, pick slot, pick band, value).
-- Assumes nothing.
use mathlib.Core.Path.{◌≡◌, refl}
use mathlib.Core.List.{List, [], ◌∷◌, ◌++◌, map}
use Prim.Native.Nat.{ℕ, zero, suc}
use lib.ListN.{replicate}
use Rattle.records.specs.declared.band.QoSClass.{QoSClass}
use Rattle.records.specs.declared.band.QoSClass.TheVariants.{UserInteractive, RealTimeIO, Background}
use Rattle.records.specs.declared.ids.Slot.{Slot}
use Rattle.records.specs.ThreadState.{state_code}
use Rattle.queue.specs.Entries.{pushed, without, entry_at, taken_at}
use Rattle.rules.specs.declared.call.Call.{Call}
use Rattle.rules.specs.declared.call.Call.TheVariants.{Create, Affinity, Block, Wake, Enqueue, Schedule, Tick, Yield, Handoff}
use Rattle.records.specs.Lists.{first_place}
use Rattle.rules.specs.State.{State, new_state, task, queue, holder}
use Rattle.rules.specs.Picking.{choice, rule_p, schedule}
use Rattle.rules.specs.Waking.{create, affinity, block, wake, enqueue}
use Rattle.rules.specs.Ticking.{ticked, tick, yield, handoff}
use Rattle.rules.specs.Step.{step, run}
use Rattle.rules.specs.Paper.{paper}

pub record Case : Type 0 where
  pub got : List (List ℕ)
  pub want : List (List ℕ)

-- ---- the calls

abbrev pub slot : ℕ → Slot
slot n = record { 0 = n }

abbrev pub make : QoSClass → Call
make band = Create (record { 0 = 7 }) band 0 0 0

-- n tasks of a band, in slots 0 to n - 1, enqueued in that order
unfoldable pub enqueue_first : ℕ → List Call
enqueue_first zero = []
enqueue_first (suc n) = enqueue_first n ++ Enqueue (slot n) ∷ []

abbrev queued : ℕ → QoSClass → List Call
queued n band = replicate n (make band) ++ enqueue_first n

abbrev only_core0 : ℕ → Call
only_core0 n = Affinity (slot n) 1

-- what the cases start from
abbrev k4 : List Call
k4 = queued 4 UserInteractive ++ only_core0 0 ∷ only_core0 1 ∷ []

-- core 1 holds slot 0, and slots 1 and 2 wait
abbrev k5 : List Call
k5 = queued 3 UserInteractive ++ Schedule 1 ∷ only_core0 1 ∷ only_core0 2 ∷ []

abbrev k6 : List Call
k6 = queued 2 UserInteractive ++ Schedule 0 ∷ []

abbrev k7 : List Call
k7 = queued 1 Background ++ Schedule 0 ∷ make RealTimeIO ∷ Enqueue (slot 1) ∷ []

abbrev k8 : List Call
k8 = queued 1 UserInteractive ++ Schedule 5 ∷ Block (slot 0) ∷ []

abbrev k10 : List Call
k10 = queued 1 UserInteractive ++ Schedule 0 ∷ Tick 0 100 ∷ []

abbrev k11 : List Call
k11 = queued 1 UserInteractive ++ Schedule 0 ∷ Enqueue (slot 0) ∷ []

-- ---- what is looked at: the next call's answer; a queue; a slot's state, mask and consumed time; a core's holder

abbrev after : List Call → State
after calls = run calls new_state

abbrev answer : List Call → Call → List ℕ
answer calls call = paper (step call (after calls)).answer

abbrev waiting : List Call → QoSClass → List ℕ
waiting calls band = queue (after calls) band

abbrev state_of : List Call → ℕ → List ℕ
state_of calls n = state_code (task (after calls) n).state ∷ []

abbrev mask_of : List Call → ℕ → List ℕ
mask_of calls n = (task (after calls) n).cpu_affinity ∷ []

abbrev consumed_of : List Call → ℕ → List ℕ
consumed_of calls n = (task (after calls) n).consumed_slice_us ∷ []

abbrev held_by_calls : List Call → ℕ → List ℕ
held_by_calls calls core = holder (after calls) core ∷ []

-- ---- the table

abbrev pub cases : List Case
cases =
    -- K1 "new, schedule: none." Mistake: a fixed slot.
    record { got = answer [] (Schedule 0) ∷ []; want = (0 ∷ 255 ∷ 255 ∷ 255 ∷ []) ∷ [] } ∷
    -- K2 "the 65th create: 1"; the 64th gets slot 63. Mistake: a slot in use handed out again.
    record {
      got = answer (replicate 63 (make Background)) (make Background) ∷ answer (replicate 64 (make Background)) (make Background) ∷ [];
      want = (0 ∷ 255 ∷ 255 ∷ 63 ∷ []) ∷ (1 ∷ 255 ∷ 255 ∷ []) ∷ [];
    } ∷
    -- K3 "mask 0 on a free slot: all ones"; the slot was given mask 6 before. Mistake: a task that no core may run.
    record {
      got = mask_of (Affinity (slot 9) 6 ∷ []) 9 ∷ answer (Affinity (slot 9) 6 ∷ []) (Affinity (slot 9) 0) ∷
          mask_of (Affinity (slot 9) 6 ∷ Affinity (slot 9) 0 ∷ []) 9 ∷ [];
      want = (6 ∷ []) ∷ (0 ∷ 255 ∷ 255 ∷ []) ∷ (18446744073709551615 ∷ []) ∷ [];
    } ∷
    -- K4 "queue 0, 1, 2, 3, slots 0 and 1 for core 0 only: core 1 picks 2, leaving 3, 0, 1 (mistake: 0, 1, 3)"
    record {
      got = waiting k4 UserInteractive ∷ answer k4 (Schedule 1) ∷ waiting (k4 ++ Schedule 1 ∷ []) UserInteractive ∷ [];
      want = (0 ∷ 1 ∷ 2 ∷ 3 ∷ []) ∷ (0 ∷ 2 ∷ 0 ∷ 2 ∷ []) ∷ (3 ∷ 0 ∷ 1 ∷ []) ∷ [];
    } ∷
    -- K5 "nobody permitted: order kept"; the core's holder is gone. Mistakes: a queue turned round, the holder kept.
    record {
      got = held_by_calls k5 1 ∷ answer k5 (Schedule 1) ∷ waiting (k5 ++ Schedule 1 ∷ []) UserInteractive ∷ held_by_calls (k5 ++ Schedule 1 ∷ []) 1 ∷ [];
      want = (0 ∷ []) ∷ (0 ∷ 255 ∷ 255 ∷ 255 ∷ []) ∷ (1 ∷ 2 ∷ []) ∷ (255 ∷ []) ∷ [];
    } ∷
    -- K6 "band 0, consumed 1,999 stays; 1 more ends the slice"; who used it up waits again. Mistakes: one too early or late, a task lost.
    record {
      got = answer k6 (Tick 0 1999) ∷ answer (k6 ++ Tick 0 1999 ∷ []) (Tick 0 1) ∷ waiting (k6 ++ Tick 0 1999 ∷ Tick 0 1 ∷ []) UserInteractive ∷ [];
      want = (0 ∷ 255 ∷ 255 ∷ 0 ∷ []) ∷ (0 ∷ 1 ∷ 0 ∷ 1 ∷ []) ∷ (0 ∷ []) ∷ [];
    } ∷
    -- K7 "band 2 held, band 1 waiting and permitted, tick 0: switch"; not permitted: no switch. Mistakes: waiting for the slice's end, the mask
    -- not looked at.
    record {
      got = held_by_calls k7 0 ∷ answer k7 (Tick 0 0) ∷ waiting (k7 ++ Tick 0 0 ∷ []) Background ∷ answer (k7 ++ Affinity (slot 1) 2 ∷ []) (Tick 0 0) ∷ [];
      want = (0 ∷ []) ∷ (0 ∷ 1 ∷ 1 ∷ 1 ∷ []) ∷ (0 ∷ []) ∷ (0 ∷ 255 ∷ 255 ∷ 0 ∷ []) ∷ [];
    } ∷
    -- K8 "block then wake of a holder: Running, no queue entry (mistake: queued)"; Blocked in between, and all three queues looked at.
    record {
      got =
          state_of k8 0 ∷ answer k8 (Wake (slot 0)) ∷ held_by_calls (k8 ++ Wake (slot 0) ∷ []) 5 ∷ state_of (k8 ++ Wake (slot 0) ∷ []) 0 ∷
          waiting (k8 ++ Wake (slot 0) ∷ []) UserInteractive ∷ waiting (k8 ++ Wake (slot 0) ∷ []) RealTimeIO ∷
          waiting (k8 ++ Wake (slot 0) ∷ []) Background ∷ [];
      want = (2 ∷ []) ∷ (0 ∷ 255 ∷ 255 ∷ []) ∷ (0 ∷ []) ∷ (1 ∷ []) ∷ [] ∷ [] ∷ [] ∷ [];
    } ∷
    -- K9 "tick on core 64: microseconds unmoved (mistake: counted)"
    record {
      got = answer (Tick 3 500 ∷ []) (Tick 64 100) ∷ ((after (Tick 3 500 ∷ Tick 64 100 ∷ [])).micros ∷ []) ∷ [];
      want = (0 ∷ 255 ∷ 255 ∷ 255 ∷ []) ∷ (500 ∷ []) ∷ [];
    } ∷
    -- K10 "yield of the only task: no plan, yet a pick"; its slice starts afresh. Mistakes: a pick hidden, or invented where the holder stayed.
    record {
      got = consumed_of k10 0 ∷ answer k10 (Yield 0) ∷ consumed_of (k10 ++ Yield 0 ∷ []) 0 ∷ held_by_calls (k10 ++ Yield 0 ∷ []) 0 ∷ [];
      want = (100 ∷ []) ∷ (0 ∷ 0 ∷ 0 ∷ 0 ∷ []) ∷ (0 ∷ []) ∷ (0 ∷ []) ∷ [];
    } ∷
    -- K11 "enqueue of a holder: Ready and still holder; yield 3, handoff 6 (mistake: holder means Running)"
    record {
      got = state_of k11 0 ∷ waiting k11 UserInteractive ∷ held_by_calls k11 0 ∷ answer k11 (Yield 0) ∷ answer k11 (Handoff 0) ∷ [];
      want = (0 ∷ []) ∷ (0 ∷ []) ∷ (0 ∷ []) ∷ (3 ∷ 255 ∷ 255 ∷ []) ∷ (6 ∷ 255 ∷ 255 ∷ []) ∷ [];
    } ∷ []

pub k1_to_k11 : map (λ (c : Case). c.got) cases ≡ map (λ (c : Case). c.want) cases
unfolding enqueue_first first_place pushed without entry_at taken_at choice rule_p schedule create affinity block wake enqueue ticked tick yield handoff run paper
k1_to_k11 = refl
