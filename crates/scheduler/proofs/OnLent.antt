-- Functions on a lent state, in the program logic: they copy the state out, call the method on the copy, store the state of its reply behind the
-- reference, and return its answer. That is walked once, for whatever method is called and whatever other arguments it has; a function's own
-- proof says which, lays out its locals before it and frees them after it. The state's machine value and the types of the locals are names here
-- (MachineValues says why).
-- Assumes nothing.
use Rattle.std.proofs.Common.{◌≡◌, ℕ, zero, List, [], ◌∷◌, sym, refl, ap, subst}
use seplogic.Ra.Ura.{Ura}
use base.Fraction.{full_share}
use mir.Facts.{yes_and}
use mir.Raw.{raw as raw_ty}
use mir.Syntax.{Callee, Ty, ty_ref, ty_struct, named, mut, tnil, tcons, deref, field, place, Opd as Operand, copy, rv_opd, Body as Code, seq, assign, call, return}
use mir.Val.{Val, has_ty, vptr, vstruct, vnil, vcons}
use base.Logic.{SProp, ent, sep, emp}
use base.Fml.{Fml, Lft, Share, GName, ftrue, fsep, fat, froom, flft, fobs, fbor, fobor, fauth}
use prog.Memory.{field_of}
use prog.Wp.{Heap, Calls, Loops, Env, spot_of}
use types.Logic.{Logic, sem}
use contract.Monad.{fact, fact_i}
use types.Kit.{Item, ‵, raw, mean, ⋆, ◌⊛◌, some, later, Seq, runs, frees, prop, at_ret, ◌$◌, ◌∵◌, !, qed, move, drop, use0, use1, split, join, pick, rewrite, fjoin, fjoin3, feq_i, frame, await, done}
use types.Run.{Opds, look, look_raw, init, store_raw, forget, stop, hop, fld, from, load, of_opd, and_then, assigns, land, returns}
use types.Part.{whole, sub, look_in}
use types.SemTy.{Body}
use sound.WpLaws.{FmC}
use denote.Memory.{mem, cell_at, pointee}
use denote.Laws.{Is, shows}
use denote.Ref.{MutRef}
use denote.Steps.{only, opens, closes, owned, peeks, facts, heard, nothing}
use denote.Struct.Laws as LL
use denote.Triple.Statement.{Contract, Triple}
use denote.Triple.Call.{calls_at}
use denote.Triple.Walked.{says}
use Rattle.rules.specs.declared.answer.Answer.{Answer}
use Rattle.rules.specs.declared.call.Call.{Call}
use Rattle.scheduler.specs.declared.scheduler.QoSScheduler.{QoSScheduler}
use Rattle.scheduler.specs.declared.scheduler.Reply.{Reply}
use Rattle.scheduler.specs.Scheduler.{Meets}
use Rattle.scheduler.proofs.MachineValues.{OneValue, one_value, OfTy, state_typed, answer_typed, at_spot}
use Rattle.scheduler.specs.contracts.scheduler.QoSScheduler as S
use Rattle.scheduler.proofs.scheduler.QoSScheduler.TheLaws as S'
use Rattle.scheduler.specs.contracts.scheduler.Reply as R
use Rattle.scheduler.proofs.scheduler.Reply.TheLaws as R'
use Rattle.rules.specs.contracts.answer.Answer as N
use Rattle.rules.proofs.answer.Answer.TheLaws as N'

-- ---- a reply's machine value

-- it is made of its answer's and its state's
abbrev pair : Val → Val → Val
pair answer state = vstruct (vcons answer (vcons state vnil))

record Parts (r : Reply) (v : Val) : Type 0 where
  pub answer : Val
  pub state : Val
  pub whole_is : v ≡ pair answer state
  pub answer_is : Is N.the_row r.answer (answer ∷ [])
  pub state_is : Is S.the_row r.state (state ∷ [])

parts : (r : Reply) (v : Val) → Is R.the_row r (v ∷ []) → Parts r v
parts r v is = record {
  answer = LL.val N.the_type N'.the_laws r.answer;
  state = LL.val S.the_type S'.the_laws r.state;
  whole_is = ap only (LL.tells R.the_type R'.the_laws r (v ∷ []) is);
  answer_is = (LL.owed R.the_type R'.the_laws r (v ∷ []) is).0;
  state_is = (LL.owed R.the_type R'.the_laws r (v ∷ []) is).1.0;
}

-- ---- the types of locals

-- how a function's code spells the types of an answer, a state and a reply, and that they are these types
pub record Types : Type 0 where
  pub answer : Ty
  pub state : Ty
  pub reply : Ty

pub record TypesAre (τ : Types) : Type 0 where
  pub answer_is : τ.answer ≡ N'.mir
  pub state_is : τ.state ≡ S'.mir
  pub reply_is : τ.reply ≡ ty_struct (R.the_type).name (tcons τ.answer (tcons τ.state tnil))

reply_typed : (τ : Types) → TypesAre τ → (answer state : Val) → OfTy τ.answer answer → OfTy τ.state state → OfTy τ.reply (pair answer state)
reply_typed τ right answer state a s =
    subst (λ (σ : Ty). OfTy σ (pair answer state)) (sym right.reply_is)
    (yes_and (has_ty τ.answer answer) _ a.0 (yes_and (has_ty τ.state state) _ s.0 tt), (a.1, (s.1, tt)))

-- the type of the reference
abbrev lent_ty : Ty
lent_ty = ty_ref (named 0) mut (pointee (S.the_row).written)

-- ---- the code, and what is held at three points of it

-- `reply` and `state` are the places of the locals for the reply and for the copy
abbrev lent_code : Types → Callee → List Operand → ℕ → ℕ → Code
lent_code τ called arguments reply state =
    seq (assign (place state []) (rv_opd (copy (place 1 (deref τ.state ∷ [])))))
    (seq (call called (copy (place state []) ∷ arguments) (place reply []))
    (seq (assign (place 1 (deref τ.state ∷ [])) (rv_opd (copy (place reply (field 1 ∷ [])))))
    (seq (assign (place 0 []) (rv_opd (copy (place reply (field 0 ∷ []))))) return)))

-- the borrow: its lifetime, the share of the token, where the state lies, and its ghost name
pub record Borrow : Type 0 where
  pub κ : Lft
  pub q : Share
  pub b : ℕ
  pub o : ℕ
  pub γ : GName

-- where the locals lie
pub record Blocks : Type 0 where
  pub answer : ℕ
  pub lent : ℕ
  pub reply : ℕ
  pub state : ℕ

abbrev locals : {M : Type 1} (𝓤 : Ura M) (H : Heap 𝓤) → Types → Blocks → Env 𝓤 H → Env 𝓤 H
locals 𝓤 H τ L more = (τ.answer, L.answer) ∷ (lent_ty, L.lent) ∷ more

-- the borrow, closed at a state, and open at a state with its machine value
abbrev pub closed_at : {M : Type 1} (𝓤 : Ura M) → Borrow → QoSScheduler → List (Item 𝓤) → List (Item 𝓤)
closed_at 𝓤 B s Γ = ‵ (fobs B.γ ((S.the_row).coded.code s)) ∷ ‵ (fbor B.κ (Body (mem S.the_row) B.b B.o B.γ)) ∷ ‵ (flft B.κ B.q) ∷ Γ

module _ {M : Type 1} (𝓤 : Ura M) (τ : Types) (B : Borrow) (L : Blocks) where
  abbrev open_at : QoSScheduler → Val → List (Item 𝓤) → List (Item 𝓤)
  open_at s w Γ =
      ‵ (cell_at full_share (S.the_row).mir (w ∷ []) B.b B.o) ∷ ‵ (fobor B.κ B.q (Body (mem S.the_row) B.b B.o B.γ)) ∷
      ‵ (fobs B.γ ((S.the_row).coded.code s)) ∷ ‵ (fauth B.γ ((S.the_row).coded.code s)) ∷ Γ

  -- the locals: room for the answer and the reply, and what is given of the reference's and the copy's
  abbrev rooms : Item 𝓤 → Item 𝓤 → List (Item 𝓤) → List (Item 𝓤)
  rooms lent state Γ = lent ∷ ‵ (froom τ.answer L.answer zero) ∷ state ∷ ‵ (froom τ.reply L.reply zero) ∷ Γ

  abbrev reference : Item 𝓤
  reference = ‵ (fat full_share lent_ty L.lent zero (vptr B.b B.o))

  abbrev at_entry : QoSScheduler → List (Item 𝓤) → List (Item 𝓤)
  at_entry s Γ = closed_at 𝓤 B s (rooms reference (‵ (froom τ.state L.state zero)) Γ)

  abbrev at_call : QoSScheduler → Val → List (Item 𝓤) → List (Item 𝓤)
  at_call s w Γ = open_at s w (rooms reference (‵ (fat full_share τ.state L.state zero w)) Γ)

  abbrev at_exit : QoSScheduler → List (Item 𝓤) → List (Item 𝓤)
  at_exit s Γ = closed_at 𝓤 B s (rooms (‵ (froom lent_ty L.lent zero)) (‵ (froom τ.state L.state zero)) Γ)

-- ---- the method that is called

-- by its contract c a method does the call `asked` on the state s; vs are the machine values of its other arguments
pub record Method {M : Type 1} {𝓤 : Ura M} (𝓛 : Logic 𝓤) (s : QoSScheduler) (asked : Call) (c : Contract 𝓤) (vs : List Val) : Type 2 where
  -- how it is asked, at the state's machine value
  pub ghost : Val → c.Ghost
  pub args_are : (w : Val) → c.args (ghost w) ≡ w ∷ vs
  pub needs : (w : Val) → ent 𝓤 (sem 𝓛 ((S.the_row).own_val s (w ∷ []))) (c.pre (ghost w))
  -- what it says of its reply
  pub Says : Reply → SProp 𝓤
  pub gives : (w v : Val) → ent 𝓤 (c.post (ghost w) v) (mean 𝓛 (later (some (λ (r : Reply). (‵ ftrue ⊛ ‵ ((R.the_row).own_val r (v ∷ []))) ⊛ raw (Says r)))))
  pub keeps : (r : Reply) → ent 𝓤 (Says r) (fact 𝓤 (Meets asked s r))

-- ---- what the method is asked for, and what is left at exit; Rest is what the other arguments own, and Asked what it requires, which can be had at
-- any time as well
module _ {M : Type 1} {𝓤 : Ura M} (𝓛 : Logic 𝓤) (Rest : Fml) (rest : ent 𝓤 (emp 𝓤) (sem 𝓛 Rest)) where
  open 𝓛 use {A}

  pub asks_for : {Asked : SProp 𝓤} → ent 𝓤 (emp 𝓤) Asked → (s : QoSScheduler) (w : Val) → ent 𝓤 (sem 𝓛 ((S.the_row).own_val s (w ∷ []))) (sep 𝓤 (sep 𝓤 (emp 𝓤) (sem 𝓛 (fsep ((S.the_row).own_val s (w ∷ [])) Rest))) Asked)
  asks_for {Asked} had s w =
      qed 𝓛 (‵ ((S.the_row).own_val s (w ∷ [])) ∷ []) ∵ use0 𝓛 (‵ Rest) rest $ move ! (1 ∷ 0 ∷ []) $ fjoin ! $ nothing ! $ join ! $ frame ! $ use0 𝓛 (raw Asked) had $ done !

  -- the same where what it requires is a fact
  pub asks : {φ : Type 0} → φ → (s : QoSScheduler) (w : Val) → ent 𝓤 (sem 𝓛 ((S.the_row).own_val s (w ∷ []))) (sep 𝓤 (sep 𝓤 (emp 𝓤) (sem 𝓛 (fsep ((S.the_row).own_val s (w ∷ [])) Rest))) (fact 𝓤 φ))
  asks {φ} holds = asks_for (fact_i 𝓤 φ (emp 𝓤) holds)

  pub leaves : {φ : Type 0} → φ → (B : Borrow) (s : QoSScheduler) (a : Answer) (v : Val) → Is N.the_row a (v ∷ []) → ent 𝓤 (⋆ 𝓛 (closed_at 𝓤 B s []))
      (sep 𝓤 (sep 𝓤 (sep 𝓤 (A.lft B.κ B.q) (emp 𝓤)) (sep 𝓤 (sem 𝓛 (fsep ((MutRef (named 0) B.κ S.the_row).own_val (record { ref_ptr = (B.b, B.o); ghost_name = B.γ; now = s }) (vptr B.b B.o ∷ [])) Rest)) (sem 𝓛 ((N.the_row).own_val a (v ∷ []))))) (fact 𝓤 φ))
  leaves holds B s a v is =
      qed 𝓛 (closed_at 𝓤 B s []) ∵ says ! holds $ nothing ! $ move ! (3 ∷ 0 ∷ []) $ join ! $ frame ! $ feq_i ! (List Val) (vptr B.b B.o ∷ []) (vptr B.b B.o ∷ []) refl $ fjoin3 ! $
      use0 𝓛 (‵ Rest) rest $ move ! (1 ∷ 0 ∷ []) $ fjoin ! $ owned ! N.the_row (Is N.the_row) (LL.makes N.the_type N'.the_plain 𝓛) a _ is $ move ! (1 ∷ 0 ∷ []) $ done !

-- ---- the walk

module _ {M : Type 1} {𝓤 : Ura M} {𝓛 : Logic 𝓤} {K : Type 0} where
  open 𝓛 use {H}

  pub lent_call : K → (τ : Types) → TypesAre τ → (B : Borrow) (L : Blocks) {more : Env 𝓤 H} {C : Calls 𝓤 H} {Λ : Loops 𝓤 H} {Kf : Val → SProp 𝓤} {Γ : List (Item 𝓤)}
      {called : Callee} {arguments : List Operand} {reply state : ℕ} {vs : List Val} (s : QoSScheduler) {asked : Call} {c : Contract 𝓤} →
      Method 𝓛 s asked c vs → FmC 𝓤 H 𝓛.laws C → Triple 𝓤 (C called) c →
      -- the locals for the reply and for the copy lie there; and so do the other arguments
      spot_of 𝓤 H (locals 𝓤 H τ L more) reply ≡ (τ.reply, L.reply, zero) → spot_of 𝓤 H (locals 𝓤 H τ L more) state ≡ (τ.state, L.state, zero) →
      ((i : Item 𝓤) (w : Val) → Opds K 𝓛 (i ∷ at_call 𝓤 τ B L s w Γ) (locals 𝓤 H τ L more) arguments vs) →
      -- whatever reply keeps the contract, the function may return its answer and leave its state
      ((r : Reply) (a : Val) → Is N.the_row r.answer (a ∷ []) → Meets asked s r → Seq K 𝓛 (at_exit 𝓤 τ B L r.state Γ) (frees (locals 𝓤 H τ L more) (prop (Kf a)))) →
      Seq K 𝓛 (at_entry 𝓤 τ B L s Γ) (runs C Λ (locals 𝓤 H τ L more) (lent_code τ called arguments reply state) (at_ret (locals 𝓤 H τ L more) Kf))
  lent_call t τ right B L {more} {C} {Λ} {Kf} {Γ} {called} {arguments} {reply} {state} {vs} s {asked} {c} m fm known reply-at state-at arguments-are ends =
      opens t tt S.the_row {h = s} B.b B.o (λ us. move t (1 ∷ []) $ peeks t S.the_row (Is S.the_row) (shows 𝓛 S.the_row) s us (λ was.
      let before : OneValue s us = one_value s us was in
      let w : Val = before.it in
      rewrite t 0 (λ (us' : List Val). ‵ ((S.the_row).own_val s us')) before.only_it refl $
      rewrite t 1 (λ (us' : List Val). ‵ (cell_at full_share (S.the_row).mir us' B.b B.o)) before.only_it refl $
      -- [what the state owns; its cell; the open borrow; obs; auth; the reference; room for the answer, the copy and the reply; …]
      -- the state is copied
      assigns t (of_opd t (load t (from t (hop t (look t 5 refl) (stop t))) (look_raw t 1 {τ = τ.state} (cell_is w)))) (at_spot t state-at (stop t))
      (init t 7 refl (state_typed 𝓛 right.state_is s w before.is)) $
      -- the method is called on the copy
      use1 𝓛 (raw (c.pre (m.ghost w))) (m.needs w) $
      calls_at t fm c known (m.ghost w)
      (subst (Opds K 𝓛 (raw (c.pre (m.ghost w)) ∷ at_call 𝓤 τ B L s w Γ) (locals 𝓤 H τ L more) (copy (place state []) ∷ arguments)) (sym (m.args_are w))
      (and_then t (load t (at_spot t state-at (stop t)) (look t 7 refl)) (arguments-are (raw (c.pre (m.ghost w))) w))) (λ v.
      use1 𝓛 (later (some (λ (r : Reply). (‵ ftrue ⊛ ‵ ((R.the_row).own_val r (v ∷ []))) ⊛ raw (m.Says r)))) (m.gives w v) $ await t tt $ pick t (λ r.
      split t $ move t (1 ∷ []) $ use1 𝓛 (raw (fact 𝓤 (Meets asked s r))) (m.keeps r) $ heard t (Meets asked s r) (λ meets.
      split t $ drop t $ facts t R.the_row (Is R.the_row) (shows 𝓛 R.the_row) r (v ∷ []) (λ is.
      let after : Parts r v = parts r v is in
      let state-fits : OfTy τ.state after.state = state_typed 𝓛 right.state_is r.state after.state after.state_is in
      let answer-fits : OfTy τ.answer after.answer = answer_typed 𝓛 right.answer_is r.answer after.answer after.answer_is in
      -- [its cell; the open borrow; obs; auth; the reference; room for the answer; the copy; room for the reply; …]
      land t (at_spot t reply-at (stop t)) (init t 7 refl (subst (OfTy τ.reply) (sym after.whole_is) (reply_typed τ right after.answer after.state answer-fits state-fits))) $
      rewrite t 7 (λ (u : Val). ‵ (fat full_share τ.reply L.reply zero u)) after.whole_is refl $
      rewrite t 7 (λ (σ : Ty). ‵ (fat full_share σ L.reply zero (pair after.answer after.state))) right.reply_is refl $
      -- the reply's state goes behind the reference, and its answer into the result
      assigns t (of_opd t (load t (at_spot t reply-at (fld t (ap (λ (σ : Ty). field_of σ 1) right.reply_is) (stop t))) (look_in t 7 (sub t 1 refl (whole t)))))
      (from t (hop t (look t 4 refl) (stop t))) (store_raw t 0 {τ = τ.state} (cell_is w) state-fits) $
      assigns t (of_opd t (load t (at_spot t reply-at (fld t (ap (λ (σ : Ty). field_of σ 0) right.reply_is) (stop t))) (look_in t 7 (sub t 0 refl (whole t)))))
      (from t (stop t)) (init t 5 refl answer-fits) $
      rewrite t 0 (λ (σ : Ty). ‵ (fat full_share (raw_ty σ) B.b B.o after.state)) right.state_is refl $
      rewrite t 7 (λ (σ : Ty). ‵ (fat full_share σ L.reply zero (pair after.answer after.state))) (sym right.reply_is) refl $
      owned t S.the_row (Is S.the_row) (LL.makes S.the_type S'.the_plain 𝓛) r.state _ after.state_is $ move t (1 ∷ 0 ∷ []) $
      closes t tt S.the_row r.state (after.state ∷ []) B.b B.o $
      returns t (look t 4 refl) $ forget t 3 refl $ forget t 4 refl $ forget t 5 refl $ forget t 6 refl $
      ends r after.answer after.answer_is meets))))))
    where
      -- what lies behind the reference, at the type by which the code reads it
      cell_is : (u : Val) → ◌≡◌ {A = Item 𝓤} (‵ (cell_at full_share (S.the_row).mir (u ∷ []) B.b B.o)) (‵ (fat full_share (raw_ty τ.state) B.b B.o u))
      cell_is u = ap (λ (σ : Ty). ‵ (fat full_share (raw_ty σ) B.b B.o u)) (sym right.state_is)
