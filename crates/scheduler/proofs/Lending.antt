-- A caller that holds a state in a local and lends it, in the program logic: the reference is made, the function on a lent state is called, and the
-- local holds what it left. Such a caller is walked by hand; this is the part of its walk about one call, whichever call the function does.
-- Assumes nothing.
use Rattle.std.proofs.Common.{◌≡◌, ℕ, zero, List, [], ◌∷◌, sym, refl, subst, MutBor}
use seplogic.Ra.Ura.{Ura}
use base.Fraction.{full_share}
use mir.Syntax.{Callee, Ty, ty_ref, named, erased, mut, place, Opd as Operand, copy, addr_of, Body as Code, seq, assign, call}
use mir.Val.{Val, vptr}
use base.Logic.{SProp, ent, sep, emp}
use base.Fml.{Fml, GName, ftrue, fsep, fat, froom, flft, fres, fbor, flent}
use prog.Wp.{Calls, Loops, Env, spot_of}
use types.Logic.{Logic, sem}
use contract.Monad.{fact, fact_i}
use types.Kit.{Item, ‵, raw, mean, ◌⊛◌, some, later, Seq, Post, runs, ◌$◌, ◌∵◌, !, qed, move, keep, drop, use0, use1, use2, use3, split, join, pick, rewrite, fsplit, fjoin, fpick, fpack, frame, await, show, done}
use types.Run.{Opds, look, init, stop, load, addr, and_then, assigns, land}
use types.SemTy.{Body}
use types.Tokens.{lft_new, lft_end}
use sound.WpLaws.{FmC}
use denote.Memory.{mem, part_of, cell_at, pointee}
use denote.Laws.{Is, shows}
use denote.Lend.{lends_ref, ref_back}
use denote.Ref.{MutRef}
use denote.Steps.{owned, facts, heard, nothing}
use denote.Struct.Laws as LL
use denote.Triple.Statement.{Contract, Triple}
use denote.Triple.Call.{calls_at}
use Rattle.rules.specs.declared.answer.Answer.{Answer}
use Rattle.rules.specs.declared.call.Call.{Call}
use Rattle.scheduler.specs.declared.scheduler.QoSScheduler.{QoSScheduler}
use Rattle.scheduler.specs.Scheduler.{MeetsLent}
use Rattle.scheduler.proofs.MachineValues.{OneValue, one_value, answer_typed, at_spot}
use Rattle.scheduler.specs.contracts.scheduler.QoSScheduler as S
use Rattle.scheduler.proofs.scheduler.QoSScheduler.TheLaws as S'
use Rattle.rules.specs.contracts.answer.Answer as N
use Rattle.rules.proofs.answer.Answer.TheLaws as N'

-- the type of a reference to a local
abbrev pub loan_ty : Ty
loan_ty = ty_ref erased mut (pointee (S.the_row).written)

-- `state`, `lent` and `answer` are the places of the locals
abbrev pub lend_code : Callee → List Operand → ℕ → ℕ → ℕ → Code → Code
lend_code function arguments state lent answer rest =
    seq (assign (place lent []) (addr_of (place state []))) (seq (call function (copy (place lent []) ∷ arguments) (place answer [])) rest)

-- the borrow at b for a lifetime ν, closed, as the call hands it back
abbrev pub closed : ℕ → ℕ → GName → Fml
closed b ν γ = fbor (ν ∷ []) (Body (mem S.the_row) b zero γ)

-- the reference to the state s at b, under the ghost name γ
abbrev pub reference_to : ℕ → QoSScheduler → GName → MutBor QoSScheduler
reference_to b s γ = record { ref_ptr = (b, zero); ghost_name = γ; now = s }

-- by its contract c a function does the call `asked` on the state s that is lent to it from b, for a lifetime ν of the call; vs are the machine
-- values of its other arguments
pub record Loan {M : Type 1} {𝓤 : Ura M} (𝓛 : Logic 𝓤) (s : QoSScheduler) (asked : Call) (c : Contract 𝓤) (b : ℕ) (vs : List Val) : Type 2 where
  pub ghost : ℕ → GName → c.Ghost
  pub args_are : (ν : ℕ) (γ : GName) → c.args (ghost ν γ) ≡ vptr b zero ∷ vs
  pub needs : (ν : ℕ) (γ : GName) → ent 𝓤 (sep 𝓤 (𝓛.A.lft (ν ∷ []) full_share) (sem 𝓛 ((MutRef (named 0) (ν ∷ []) S.the_row).own_val (reference_to b s γ) (vptr b zero ∷ [])))) (c.pre (ghost ν γ))
  -- what it says of its answer, and of what it leaves
  pub Says : ℕ → GName → Answer → SProp 𝓤
  pub gives : (ν : ℕ) (γ : GName) (v : Val) →
      ent 𝓤 (c.post (ghost ν γ) v) (mean 𝓛 (later (some (λ (a : Answer). ((‵ (flft (ν ∷ []) full_share) ⊛ ‵ ftrue) ⊛ ‵ ((N.the_row).own_val a (v ∷ []))) ⊛ raw (Says ν γ a)))))
  pub keeps : (ν : ℕ) (γ : GName) (a : Answer) →
      ent 𝓤 (Says ν γ a) (mean 𝓛 (some (λ (s' : QoSScheduler). ‵ (fres γ ((S.the_row).coded.code s')) ⊛ raw (fact 𝓤 (MeetsLent asked s a s')))))

-- what such a function is asked for, Rest being what its other arguments own and Asked what it requires, which can be had at any time as well; and
-- what it says of what it leaves, beside what is Said of them
module _ {M : Type 1} {𝓤 : Ura M} (𝓛 : Logic 𝓤) where
  open 𝓛 use {A}

  pub loan_asks_for : (Rest : Fml) → ent 𝓤 (emp 𝓤) (sem 𝓛 Rest) → {Asked : SProp 𝓤} → ent 𝓤 (emp 𝓤) Asked → (b : ℕ) (s : QoSScheduler) (ν : ℕ) (γ : GName) →
      ent 𝓤 (sep 𝓤 (A.lft (ν ∷ []) full_share) (sem 𝓛 ((MutRef (named 0) (ν ∷ []) S.the_row).own_val (reference_to b s γ) (vptr b zero ∷ []))))
      (sep 𝓤 (sep 𝓤 (sep 𝓤 (A.lft (ν ∷ []) full_share) (emp 𝓤)) (sem 𝓛 (fsep ((MutRef (named 0) (ν ∷ []) S.the_row).own_val (reference_to b s γ) (vptr b zero ∷ [])) Rest))) Asked)
  loan_asks_for Rest rest {Asked} had b s ν γ =
      qed 𝓛 (‵ (flft (ν ∷ []) full_share) ∷ ‵ ((MutRef (named 0) (ν ∷ []) S.the_row).own_val (reference_to b s γ) (vptr b zero ∷ [])) ∷ []) ∵
      nothing ! $ move ! (1 ∷ 0 ∷ []) $ join ! $ use0 𝓛 (‵ Rest) rest $ move ! (2 ∷ 0 ∷ []) $ fjoin ! $ move ! (1 ∷ 0 ∷ []) $ join ! $ frame ! $ use0 𝓛 (raw Asked) had $ done !

  -- the same where what it requires is a fact
  pub loan_asks : (Rest : Fml) → ent 𝓤 (emp 𝓤) (sem 𝓛 Rest) → {φ : Type 0} → φ → (b : ℕ) (s : QoSScheduler) (ν : ℕ) (γ : GName) →
      ent 𝓤 (sep 𝓤 (A.lft (ν ∷ []) full_share) (sem 𝓛 ((MutRef (named 0) (ν ∷ []) S.the_row).own_val (reference_to b s γ) (vptr b zero ∷ []))))
      (sep 𝓤 (sep 𝓤 (sep 𝓤 (A.lft (ν ∷ []) full_share) (emp 𝓤)) (sem 𝓛 (fsep ((MutRef (named 0) (ν ∷ []) S.the_row).own_val (reference_to b s γ) (vptr b zero ∷ [])) Rest))) (fact 𝓤 φ))
  loan_asks Rest rest {φ} holds = loan_asks_for Rest rest (fact_i 𝓤 φ (emp 𝓤) holds)

  pub loan_keeps : {Others : Type 0} (Said : Others → Fml) (γ : GName) (φ : QoSScheduler → Type 0) →
      ent 𝓤 (mean 𝓛 (some (λ (ends : QoSScheduler × Others). ‵ (fsep (fres γ ((S.the_row).coded.code ends.0)) (Said ends.1)) ⊛ raw (fact 𝓤 (φ ends.0)))))
      (mean 𝓛 (some (λ (s : QoSScheduler). ‵ (fres γ ((S.the_row).coded.code s)) ⊛ raw (fact 𝓤 (φ s)))))
  loan_keeps {Others} Said γ φ =
      qed 𝓛 (some (λ (ends : QoSScheduler × Others). ‵ (fsep (fres γ ((S.the_row).coded.code ends.0)) (Said ends.1)) ⊛ raw (fact 𝓤 (φ ends.0))) ∷ []) ∵
      pick ! (λ ends. split ! $ fsplit ! $ keep ! (0 ∷ 2 ∷ []) $ show ! (λ (s : QoSScheduler). sep 𝓤 (A.res γ ((S.the_row).coded.code s)) (fact 𝓤 (φ s))) ends.0 $ done !)

  -- the same where the borrow is handed back as well, closed
  pub loan_ends : {Others : Type 0} (Closed : Fml) (Said : Others → Fml) (γ : GName) (φ : QoSScheduler → Type 0) →
      ent 𝓤 (mean 𝓛 (some (λ (ends : QoSScheduler × Others). ‵ (fsep (fsep (fres γ ((S.the_row).coded.code ends.0)) Closed) (Said ends.1)) ⊛ raw (fact 𝓤 (φ ends.0)))))
      (mean 𝓛 (some (λ (s : QoSScheduler). ‵ (fres γ ((S.the_row).coded.code s)) ⊛ raw (fact 𝓤 (φ s)))))
  loan_ends {Others} Closed Said γ φ =
      qed 𝓛 (some (λ (ends : QoSScheduler × Others). ‵ (fsep (fsep (fres γ ((S.the_row).coded.code ends.0)) Closed) (Said ends.1)) ⊛ raw (fact 𝓤 (φ ends.0))) ∷ []) ∵
      pick ! (λ ends. split ! $ fsplit ! $ fsplit ! $ keep ! (0 ∷ 3 ∷ []) $ show ! (λ (s : QoSScheduler). sep 𝓤 (A.res γ ((S.the_row).coded.code s)) (fact 𝓤 (φ s))) ends.0 $ done !)

module _ {M : Type 1} {𝓤 : Ura M} {𝓛 : Logic 𝓤} {K : Type 0} where
  -- b, l and a are where the locals lie, σ and α the types of a state and of an answer as the code spells them, w the state's machine value
  open 𝓛 use {H}

  pub lends : K → {α σ : Ty} → α ≡ N'.mir → σ ≡ S'.mir → (b l a : ℕ) {E : Env 𝓤 H} {C : Calls 𝓤 H} {Λ : Loops 𝓤 H} {q : Post 𝓤 H} {Γ : List (Item 𝓤)}
      {function : Callee} {arguments : List Operand} {state lent answer : ℕ} {rest : Code} {vs : List Val} (s : QoSScheduler) (w : Val) {asked : Call} {c : Contract 𝓤} →
      Is S.the_row s (w ∷ []) → Loan 𝓛 s asked c b vs → FmC 𝓤 H 𝓛.laws C → Triple 𝓤 (C function) c →
      spot_of 𝓤 H E state ≡ (σ, b, zero) → spot_of 𝓤 H E lent ≡ (loan_ty, l, zero) → spot_of 𝓤 H E answer ≡ (α, a, zero) →
      ((i j : Item 𝓤) → Opds K 𝓛 (i ∷ j ∷ ‵ (fat full_share loan_ty l zero (vptr b zero)) ∷ ‵ (froom α a zero) ∷ Γ) E arguments vs) →
      ((r : Answer) (v : Val) (s' : QoSScheduler) (w' : Val) → Is N.the_row r (v ∷ []) → Is S.the_row s' (w' ∷ []) → MeetsLent asked s r s' →
      Seq K 𝓛 (‵ (fat full_share σ b zero w') ∷ ‵ (fat full_share loan_ty l zero (vptr b zero)) ∷ ‵ (fat full_share α a zero v) ∷ Γ) (runs C Λ E rest q)) →
      Seq K 𝓛 (‵ (fat full_share σ b zero w) ∷ ‵ (froom loan_ty l zero) ∷ ‵ (froom α a zero) ∷ Γ) (runs C Λ E (lend_code function arguments state lent answer rest) q)
  unfolding part_of
  lends t {α} {σ} α-is σ-is b l a {E} {C} {Λ} {q} {Γ} {function} {arguments} {state} {lent} {answer} {rest} {vs} s w {asked} {c} is m fm known state-at lent_at_lem answer_at arguments-are goes_on =
      assigns t (addr t (at_spot t state-at (stop t))) (at_spot t lent_at_lem (stop t)) (init t 1 refl (tt, tt)) $
      rewrite t 0 (λ (σ' : Ty). ‵ (fat full_share σ' b zero w)) σ-is refl $
      use1 𝓛 (‵ (cell_at full_share (S.the_row).mir (w ∷ []) b zero)) (𝓛.laws.at_raw full_share S'.mir b zero w) $
      owned t S.the_row (Is S.the_row) (LL.makes S.the_type S'.the_plain 𝓛) s (w ∷ []) is $ move t (1 ∷ 0 ∷ []) $ fjoin t $
      fpack t (List Val) (λ us. fsep (cell_at full_share (S.the_row).mir us b zero) ((S.the_row).own_val s us)) (w ∷ []) $
      -- [the state lies there; the reference; room for the answer; …]
      lft_new t tt (λ ν. move t (1 ∷ []) $
      use1 𝓛 (later (some (λ (γ : GName). ‵ ((MutRef (named 0) (ν ∷ []) S.the_row).own_val (reference_to b s γ) (vptr b zero ∷ [])) ⊛ ‵ (flent (ν ∷ []) (Body (mem S.the_row) b zero γ)))))
      (lends_ref 𝓛 S.the_row (named 0) (ν ∷ []) s b zero) $ await t tt $ pick t (λ γ. split t $ move t (2 ∷ 0 ∷ []) $
      use2 𝓛 (raw (c.pre (m.ghost ν γ))) (m.needs ν γ) $
      calls_at t fm c known (m.ghost ν γ)
      (subst (Opds K 𝓛 (raw (c.pre (m.ghost ν γ)) ∷ ‵ (flent (ν ∷ []) (Body (mem S.the_row) b zero γ)) ∷ ‵ (fat full_share loan_ty l zero (vptr b zero)) ∷ ‵ (froom α a zero) ∷ Γ) E (copy (place lent []) ∷ arguments))
      (sym (m.args_are ν γ)) (and_then t (load t (at_spot t lent_at_lem (stop t)) (look t 2 refl)) (arguments-are _ _))) (λ v.
      use1 𝓛 (later (some (λ (r : Answer). ((‵ (flft (ν ∷ []) full_share) ⊛ ‵ ftrue) ⊛ ‵ ((N.the_row).own_val r (v ∷ []))) ⊛ raw (m.Says ν γ r)))) (m.gives ν γ v) $ await t tt $ pick t (λ r.
      split t $ move t (1 ∷ []) $ use1 𝓛 (some (λ (s' : QoSScheduler). ‵ (fres γ ((S.the_row).coded.code s')) ⊛ raw (fact 𝓤 (MeetsLent asked s r s')))) (m.keeps ν γ r) $ pick t (λ s'.
      split t $ move t (1 ∷ []) $ heard t (MeetsLent asked s r s') (λ meets. move t (1 ∷ []) $ split t $ move t (1 ∷ []) $
      facts t N.the_row (Is N.the_row) (shows 𝓛 N.the_row) r (v ∷ []) (λ answer_is.
      -- [the lifetime's token; res; the lender's part; the reference; room for the answer; …]
      split t $ lft_end t tt $ move t (0 ∷ 3 ∷ 2 ∷ []) $
      use3 𝓛 (later (‵ ((mem S.the_row).own_at s' b zero))) (ref_back 𝓛 S.the_row (ν ∷ []) γ s' b zero) $ await t tt $
      fpick t (λ us. fsplit t $ move t (1 ∷ []) $ facts t S.the_row (Is S.the_row) (shows 𝓛 S.the_row) s' us (λ was.
      let left : OneValue s' us = one_value s' us was in
      rewrite t 0 (λ (us' : List Val). ‵ (cell_at full_share (S.the_row).mir us' b zero)) left.only_it refl $
      use1 𝓛 (‵ (fat full_share S'.mir b zero left.it)) (𝓛.laws.raw_at full_share S'.mir b zero left.it) $
      rewrite t 0 (λ (σ' : Ty). ‵ (fat full_share σ' b zero left.it)) (sym σ-is) refl $ move t (1 ∷ []) $ drop t $
      -- [the state's cell; the reference; room for the answer; …]
      land t (at_spot t answer_at (stop t)) (init t 2 refl (answer_typed 𝓛 α-is r v answer_is)) $
      goes_on r v s' left.it answer_is left.is meets)))))))))
