-- X's stretch is what demand 3 says: a call breaks X's conditions exactly in the customer's four ways, the stretch is as long as can be, and
-- a query breaks nothing, picks nobody and changes nothing. Assumes nothing.
use mathlib.Core.Path.{◌≡◌, refl, sym, ap, ◌∙◌, subst}
use mathlib.Core.Bool.{Bool, true, false, cond, not, ◌&&◌, false≢true, and-eq-true_iff}
use mathlib.Core.List.{List, [], ◌∷◌, ◌++◌, map}
use Prim.Native.Nat.{ℕ}
use borrow.Author.Tests.{eqb-true, eq-eqb, ltb-true, lt-ltb, not-true}
use lib.Dec.{ltb, eqb}
use Rattle.std.specs.Prelude.{Option, None, Some}
use Rattle.records.specs.declared.ids.Slot.{Slot}
use Rattle.records.specs.Mask.{permits}
use Rattle.records.proofs.Cases.{split}
use Rattle.rules.specs.declared.call.Call.{Call}
use Rattle.rules.specs.declared.call.Call.TheVariants.{Create, Affinity, Terminate, Block, Wake, Enqueue, Schedule, Tick, Yield, Handoff, Plan, CanRunOnCore, TaskIndexForTid, Task, CurrentTaskOnCpu, SystemTicksUs, Holder}
use Rattle.rules.specs.declared.answer.Pick.{Pick}
use Rattle.records.specs.Lists.{Each, but_last}
use Rattle.rules.specs.State.{State, task}
use Rattle.rules.specs.Step.{step, run}
use Rattle.rules.specs.Stretch.{Event, event_of, events, Concern, changes, names, concern, breaks_for, breaks, is_pick, picks, stretch, stretch_of}
use Rattle.rules.specs.Longest.{Breaking, blocks, terminates, sets_mask, names_forbidden, Ended, with_pick, before_break, with_list, Longest, Names, by_schedule, by_tick, by_yield, by_handoff, by_plan, Query, can_run, index_for, record_of, current, microseconds, held_by}

-- ---- which calls break X's conditions

module _ (x : ℕ) (e : Event) where
  abbrev mask : ℕ
  mask = (task e.found x).cpu_affinity

  same_slot : (slot : Slot) → eqb slot.0 x ≡ true → slot ≡ record { 0 = x }
  same_slot slot h = λ i. record { 0 = eqb-true slot.0 x h i }

  forbidden : (c : ℕ) → Names c e.call → ltb c 64 && not (permits mask c) ≡ true → Breaking x e
  forbidden c by h =
      let both : (ltb c 64 ≡ true) × (not (permits mask c) ≡ true) = (and-eq-true_iff (ltb c 64) (not (permits mask c))).0 h in
      names_forbidden c by (ltb-true c 64 both.0) (not-true (permits mask c) both.1)

  never : false ≡ true → Breaking x e
  never h = absurd (false≢true h)

  breaks_by : (call : Call) → e.call ≡ call → breaks_for x mask (concern call) ≡ true → Breaking x e
  breaks_by (Block slot) q h = blocks (q ∙ ap Block (same_slot slot h))
  breaks_by (Terminate slot) q h = terminates (q ∙ ap Terminate (same_slot slot h))
  breaks_by (Affinity slot m) q h = sets_mask m (q ∙ ap (λ (s : Slot). Affinity s m) (same_slot slot h))
  breaks_by (Schedule c) q h = forbidden c (subst (Names c) (sym q) by_schedule) h
  breaks_by (Tick c elapsed) q h = forbidden c (subst (Names c) (sym q) (by_tick elapsed)) h
  breaks_by (Yield c) q h = forbidden c (subst (Names c) (sym q) by_yield) h
  breaks_by (Handoff c) q h = forbidden c (subst (Names c) (sym q) by_handoff) h
  breaks_by (Plan c elapsed) q h = forbidden c (subst (Names c) (sym q) (by_plan elapsed)) h
  breaks_by (Create tid band context cr3 rsp0) q h = never h
  breaks_by (Wake slot) q h = never h
  breaks_by (Enqueue slot) q h = never h
  breaks_by (CanRunOnCore slot c) q h = never h
  breaks_by (TaskIndexForTid tid) q h = never h
  breaks_by (Task slot) q h = never h
  breaks_by (CurrentTaskOnCpu c) q h = never h
  breaks_by SystemTicksUs q h = never h
  breaks_by (Holder slot) q h = never h

  pub breaks_when : breaks x e ≡ true → Breaking x e
  breaks_when = breaks_by e.call refl

  names_is : (c : ℕ) (call : Call) → Names c call → concern call ≡ names c
  names_is c call by_schedule = refl
  names_is c call (by_tick elapsed) = refl
  names_is c call by_yield = refl
  names_is c call by_handoff = refl
  names_is c call (by_plan elapsed) = refl

  breaks_as : (c : Concern) → concern e.call ≡ c → breaks_for x mask c ≡ true → breaks x e ≡ true
  breaks_as c is h = ap (breaks_for x mask) is ∙ h

  pub breaking_breaks : Breaking x e → breaks x e ≡ true
  breaking_breaks (blocks q) = breaks_as (changes x) (ap concern q) (eq-eqb x x refl)
  breaking_breaks (terminates q) = breaks_as (changes x) (ap concern q) (eq-eqb x x refl)
  breaking_breaks (sets_mask m q) = breaks_as (changes x) (ap concern q) (eq-eqb x x refl)
  breaking_breaks (names_forbidden c by low out) = breaks_as (names c) (names_is c e.call by) (λ i. lt-ltb c 64 low i && not (out i))

-- ---- the stretch is as long as can be

each_after : (P : Event → Type 0) (e : Event) (part : List Event) → P e → Each P (but_last part) → Each P (but_last (e ∷ part))
unfolding Each but_last
each_after P e [] h all = tt
each_after P e (next ∷ rest) h all = (h, all)

module _ (breaking picking : Event → Bool) where
  ended_after : (e : Event) {part rest : List Event} → Ended breaking picking part rest → Ended breaking picking (e ∷ part) rest
  ended_after e (with_pick front f q t) = with_pick (e ∷ front) f (ap (λ (l : List Event). e ∷ l) q) t
  ended_after e (before_break f more q t) = before_break f more q t
  ended_after e (with_list q) = with_list q

  longer : (e : Event) {es part : List Event} → breaking e ≡ false → picking e ≡ false → Longest breaking picking es part →
      Longest breaking picking (e ∷ es) (e ∷ part)
  unfolding Each
  longer e {part = part} kept passed l = record {
    rest = l.rest;
    whole = ap (λ (t : List Event). e ∷ t) l.whole;
    ended = ended_after e l.ended;
    unbroken = (kept, l.unbroken);
    unpicked = each_after (λ (f : Event). picking f ≡ false) e part passed l.unpicked;
  }

  pub longest : (es : List Event) → Longest breaking picking es (stretch breaking picking es)
  unfolding stretch Each but_last
  longest [] = record { rest = []; whole = refl; ended = with_list refl; unbroken = tt; unpicked = tt }
  longest (e ∷ es) =
      let Part : List Event → Type 0 = Longest breaking picking (e ∷ es) in
      let s : List Event = stretch breaking picking es in
      split (λ (b : Bool). Part (cond b [] (e ∷ cond (picking e) [] s))) (breaking e)
      (λ broken. record { rest = e ∷ es; whole = refl; ended = before_break e es refl broken; unbroken = tt; unpicked = tt })
      (λ kept. split (λ (b : Bool). Part (e ∷ cond b [] s)) (picking e)
      (λ picked. record { rest = es; whole = refl; ended = with_pick [] e refl picked; unbroken = (kept, tt); unpicked = tt })
      (λ passed. longer e kept passed (longest es)))

-- X's own stretch is such a part of the calls from the point on
pub stretch_of-longest : (x : ℕ) (s : State) (next : List Call) → Longest (breaks x) (picks x) (events next s) (stretch_of x s next)
stretch_of-longest x s next = longest (breaks x) (picks x) (events next s)

pub events-calls : (calls : List Call) (s : State) → map (λ (e : Event). e.call) (events calls s) ≡ calls
unfolding events
events-calls [] s = refl
events-calls (call ∷ calls) s = ap (λ (l : List Call). call ∷ l) (events-calls calls (step call s).state)

-- lists of calls append, and so do their events
pub run_append : (past next : List Call) (s : State) → run (past ++ next) s ≡ run next (run past s)
unfolding run
run_append [] next s = refl
run_append (call ∷ past) next s = run_append past next (step call s).state

-- each event has the state that the calls before it left
pub events_append : (past next : List Call) (s : State) → events (past ++ next) s ≡ events past s ++ events next (run past s)
unfolding events run
events_append [] next s = refl
events_append (call ∷ past) next s =
    ap (λ (l : List Event). event_of call s ∷ l) (events_append past next (step call s).state)

-- ---- which calls pick X

picked : (x : ℕ) (o : Option Pick) → is_pick x o ≡ true → (p : Pick) × (o ≡ Some p) × (p.slot.0 ≡ x)
picked x None h = absurd (false≢true h)
picked x (Some p) h = (p, refl, eqb-true p.slot.0 x h)

pub picks_when : (x : ℕ) (e : Event) → picks x e ≡ true → (p : Pick) × (e.answer.pick ≡ Some p) × (p.slot.0 ≡ x)
picks_when x e = picked x e.answer.pick

-- ---- queries

pub query_does_nothing : (x : ℕ) (s : State) (call : Call) → Query call →
    (breaks x (event_of call s) ≡ false) × ((step call s).answer.pick ≡ None) × ((step call s).state ≡ s)
query_does_nothing x s call (can_run slot c) = (refl, refl, refl)
query_does_nothing x s call (index_for tid) = (refl, refl, refl)
query_does_nothing x s call (record_of slot) = (refl, refl, refl)
query_does_nothing x s call (current c) = (refl, refl, refl)
query_does_nothing x s call microseconds = (refl, refl, refl)
query_does_nothing x s call (held_by slot) = (refl, refl, refl)
