-- Requests as the calls of a history: where each is told what the rules say in the state that the one before left, there is a history of just those
-- calls whose answers they are told. Assumes nothing.
use mathlib.Core.Path.{◌≡◌, refl, sym, ap, ◌∙◌}
use mathlib.Core.List.{List, [], ◌∷◌, ◌++◌, append_assoc, map-append, map-eq-nil_iff, flat_map}
use native.Mathlib.Omega.{arith}
use lib.ListN.{length}
use Rattle.std.specs.Prelude.{Option, None, Some}
use Rattle.rules.specs.declared.call.Call.{Call}
use Rattle.rules.specs.State.{State}
use Rattle.rules.specs.Step.{run}
use Rattle.scheduler.specs.declared.scheduler.QoSScheduler.{QoSScheduler}
use Rattle.scheduler.specs.Scheduler.{abs}
use Rattle.frames.specs.Lines.{said}
use Rattle.claims.specs.History.{Made, History, left, calls_of}
use Rattle.claims.proofs.Histories.{left_append, history_append, left_is, answers_from, answers_are, every_list_happens}
use Rattle.claims.specs.Requests.{Protocol, call_in, calls_among, NextCalls, Follows, Asks}
use Rattle.claims.specs.Demand3.{Start, start_state}
use Rattle.claims.proofs.Demand3.{start_is, demand3}

-- a frame's call, if there is one
pub run-said : (c : Option Call) (s : State) → run (call_in c) s ≡ (said c s).state
unfolding run
run-said None s = refl
run-said (Some call) s = refl

-- where one call is asked for, one is made
one_made : (made : List Made) {call : Call} → calls_of made ≡ call ∷ [] → (m : Made) × ((made ≡ m ∷ []) × (m.call ≡ call))
one_made [] is = absurd (omega (arith, ap length is))
one_made (m ∷ []) is = (m, (refl, cc))
one_made (m ∷ next ∷ more) is = absurd (omega (arith, ap length is))

module _ {A : Type 0} (p : Protocol A) where
  -- each request is told what the rules answer to its calls, in the state that the one before left
  unfoldable pub Chain : State → List A → Type 0
  Chain s [] = Unit
  Chain s (a ∷ rest) = p.Told a s (answers_from (p.asked a) s) × Chain (run (p.asked a) s) rest

  -- a history of these requests
  record Following (s : QoSScheduler) (requests : List A) : Type 0 where
    made : List Made
    history : History s made
    follows : Follows p s requests made

  follow : (s : QoSScheduler) (requests : List A) → Chain (abs s) requests → Following s requests
  unfolding Chain History Follows
  follow s [] chain = record { made = []; history = tt; follows = refl }
  follow s (a ∷ rest) (told, chain) =
      let (now, (h, calls_are)) = every_list_happens s (p.asked a) in
      let here : abs (left s now) ≡ run (p.asked a) (abs s) = left_is s now h ∙ ap (λ (l : List Call). run l (abs s)) calls_are in
      let later : Following (left s now) rest = follow (left s now) rest (rw here chain) in
      record {
        made = now ++ later.made;
        history = history_append s now later.made h later.history;
        follows = (
          record { now = now; later = later.made; cut = refl; calls_are = calls_are; told = rw (answers_are s now h, calls_are) told },
          later.follows,
        );
      }

  -- the calls that are made are those that are asked for
  follows_calls : (s : QoSScheduler) (requests : List A) (made : List Made) → Follows p s requests made → calls_of made ≡ calls_among p requests
  unfolding Follows flat_map
  follows_calls s [] made f = ap calls_of f
  follows_calls s (a ∷ rest) made (first, f) =
      ap calls_of (sym first.cut)
      ∙ map-append (λ (m : Made). m.call) first.now first.later
      ∙ (λ i. first.calls_are i ++ follows_calls (left s first.now) rest first.later f i)

  -- a request that asks for no call is none of the history's, and one that asks for one call is the next and is told its answer
  pub asks_none : {s : QoSScheduler} {a : A} {made : List Made} (t : NextCalls p s a made) → p.asked a ≡ [] → (t.later ≡ made) × p.Told a (abs s) []
  asks_none t none =
      let is : t.now ≡ [] = (map-eq-nil_iff (λ (m : Made). m.call)).0 (t.calls_are ∙ none) in
      (ap (λ (l : List Made). l ++ t.later) (sym is) ∙ t.cut, rw is at t.told)

  pub asks_one : {s : QoSScheduler} {a : A} {made : List Made} (t : NextCalls p s a made) {call : Call} → p.asked a ≡ call ∷ [] →
      (m : Made) × ((m ∷ t.later ≡ made) × ((m.call ≡ call) × p.Told a (abs s) (m.reply.answer ∷ [])))
  asks_one t one =
      let (m, (is, call-is)) = one_made t.now (t.calls_are ∙ one) in
      (m, (ap (λ (l : List Made). l ++ t.later) (sym is) ∙ t.cut, (call-is, rw is at t.told)))

  -- where requests are cut, the history is cut
  record Cut (s : QoSScheduler) (past next : List A) (whole : List Made) : Type 0 where
    made : List Made
    later : List Made
    cut : made ++ later ≡ whole
    so_far : Follows p s past made
    to_come : Follows p (left s made) next later

  follows_cut : (s : QoSScheduler) (past next : List A) (whole : List Made) → Follows p s (past ++ next) whole → Cut s past next whole
  unfolding Follows left
  follows_cut s [] next whole f = record { made = []; later = whole; cut = refl; so_far = refl; to_come = f }
  follows_cut s (a ∷ past) next whole (first, f) =
      let c : Cut (left s first.now) past next first.later = follows_cut (left s first.now) past next first.later f in
      record {
        made = first.now ++ c.made;
        later = c.later;
        cut = append_assoc first.now c.made c.later ∙ ap (λ (l : List Made). first.now ++ l) c.cut ∙ first.cut;
        so_far = (record { now = first.now; later = c.made; cut = refl; calls_are = first.calls_are; told = first.told }, c.so_far);
        to_come = rw (left_append s first.now c.made) c.to_come;
      }

  -- from a start, with all that demand 3 claims
  pub asks : {s : QoSScheduler} (start : Start s) (requests : List A) → Chain (start_state start) requests → Asks p (start_state start) s requests
  asks {s} start requests chain =
      let f : Following s requests = follow s requests (rw (start_is start) chain) in
      record {
        made = f.made;
        history = f.history;
        follows = f.follows;
        points = λ past next here.
            let c : Cut s past next f.made = follows_cut s past next f.made (rw here f.follows) in
            record {
              made = c.made;
              later = c.later;
              cut = c.cut;
              so_far = c.so_far;
              to_come = c.to_come;
              calls_are = follows_calls s past c.made c.so_far;
              point = demand3 s start f.made f.history c.made c.later c.cut;
            };
      }
