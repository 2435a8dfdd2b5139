-- Document 01, "Picking": rule P, and schedule, which is P alone.
use Rattle.std.specs.Prelude.{Bool, cond, List, [], ◌∷◌, ℕ, ltb, leb, length, Option, None, Some}
use Rattle.rules.specs.declared.answer.Pick.{Pick}
use Rattle.records.specs.declared.ids.Slot.{Slot}
use Rattle.records.specs.declared.band.QoSClass.{QoSClass}
use Rattle.records.specs.Mask.{permits}
use Rattle.records.specs.Task.{picked}
use Rattle.queue.specs.Entries.{entry_at, taken_at}
use Rattle.rules.specs.declared.answer.Value.TheVariants as value
use Rattle.records.specs.Lists.{first_place}
use Rattle.rules.specs.State.{State, none_byte, band_order, task, queue, with_task, with_queue, with_holder}
use Rattle.rules.specs.Outcome.{Outcome, Chosen, chosen_as}

-- "whose mask has bit c"
abbrev pub permitted : State → ℕ → ℕ → Bool
permitted s core slot = permits (task s slot).cpu_affinity core

-- "in each, from the front, find the first entry whose mask has bit c": its place in the band's queue, and the entry
abbrev pub place_for : State → ℕ → QoSClass → ℕ
place_for s core band = first_place (permitted s core) (queue s band)

abbrev pub first_permitted : State → ℕ → QoSClass → Option Slot
first_permitted s core band = entry_at (place_for s core band) (queue s band)

-- a permitted entry waits in the band
abbrev pub waits_in : State → ℕ → QoSClass → Bool
waits_in s core band = ltb (place_for s core band) (length (queue s band))

-- "go through bands 0, 1, 2": the entry found in this band, or else what the bands behind it give
abbrev pub found_in : QoSClass → Option Slot → Option Pick → Option Pick
found_in band (Some e) later = Some (record { slot = e; band = band })
found_in band None later = later

unfoldable pub choice : State → ℕ → List QoSClass → Option Pick
choice s core [] = None
choice s core (band ∷ bands) = found_in band (first_permitted s core band) (choice s core bands)

-- "Entries before it move to that queue's tail in their order and it leaves."
abbrev pub leaves : State → ℕ → QoSClass → State
leaves s core band = with_queue s band (taken_at (place_for s core band) (queue s band))

-- "It becomes Running, budget its slice, consumed 0, holder of c."
abbrev pub runs_on : State → ℕ → ℕ → State
runs_on s core slot = with_holder (with_task s slot (picked (task s slot))) core slot

-- "If no queue has one, holder c becomes none and all queues keep their order. [..] The former holder is not requeued: unless it is the pick its
-- state stays, so a Running one may be held nowhere."
abbrev pub after_pick : State → ℕ → Option Pick → Chosen
after_pick s core (Some p) = record { next = Some p.slot; pick = Some p; state = runs_on (leaves s core p.band) core p.slot.0 }
after_pick s core None = record { next = None; pick = None; state = with_holder s core none_byte }

-- nobody is chosen, nothing changed
abbrev pub no_choice : State → Chosen
no_choice s = record { next = None; pick = None; state = s }

-- "None is answered only then, or for c of 64 and above (no change)."
unfoldable pub rule_p : ℕ → State → Chosen
rule_p core s = cond (leb 64 core) (no_choice s) (after_pick s core (choice s core band_order))

-- who is to run is the answer
abbrev pub answer_slot : Chosen → Outcome
answer_slot c = chosen_as (value.Slot c.next) c

-- 06 schedule
unfoldable pub schedule : ℕ → State → Outcome
schedule core s = answer_slot (rule_p core s)
