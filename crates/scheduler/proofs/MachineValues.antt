-- The machine values of a state, of an answer and of a call's other arguments, as a proof that walks code needs them. A state has one, which may
-- stay a name there, and it may be stored where the code spells the type in its own way. Spelled out, a whole state, or the type of one, takes
-- long to compare. At the end, the place of a local by where it lies.
-- Assumes nothing.
use Rattle.std.proofs.Common.{◌≡◌, ℕ, ◌^◌, ◌<◌, T, List, [], ◌∷◌, sym, refl, subst, w32, w64}
use seplogic.Ra.Ura.{Ura}
use mir.Syntax.{Ty, Step as PStep, place}
use mir.Val.{Val, vint, WT, has_ty}
use base.Logic.{ent, emp}
use base.Fml.{Fml, ftrue}
use prog.Wp.{Env, Spot, spot_of}
use types.Logic.{Logic, sem}
use types.Kit.{Item, ‵, ◌$◌, ◌∵◌, !, qed, fjoin, done}
use types.Run.{Walks, Finds, from}
use denote.RattleType.{owns}
use denote.Laws.{Is}
use denote.Plain.{uint_Makes}
use denote.Builtin.{usize, u32}
use denote.Steps.{owned}
use denote.Struct.Laws as LL
use Rattle.records.specs.declared.ids.Slot.{Slot}
use Rattle.records.specs.contracts.ids.Slot as L
use Rattle.records.proofs.ids.Slot.TheLaws as L'
use Rattle.rules.specs.declared.answer.Answer.{Answer}
use Rattle.scheduler.specs.declared.scheduler.QoSScheduler.{QoSScheduler}
use Rattle.scheduler.specs.contracts.scheduler.QoSScheduler as S
use Rattle.scheduler.proofs.scheduler.QoSScheduler.TheLaws as S'
use Rattle.rules.specs.contracts.answer.Answer as N
use Rattle.rules.proofs.answer.Answer.TheLaws as N'

-- a state is one machine value
pub record OneValue (s : QoSScheduler) (vs : List Val) : Type 0 where
  pub it : Val
  pub only_it : vs ≡ it ∷ []
  pub is : Is S.the_row s (it ∷ [])

pub one_value : (s : QoSScheduler) (vs : List Val) → Is S.the_row s vs → OneValue s vs
one_value s vs is =
    let told : vs ≡ LL.vals S.the_type S'.the_laws s = LL.tells S.the_type S'.the_laws s vs is in
    record { it = LL.val S.the_type S'.the_laws s; only_it = told; is = subst (Is S.the_row s) told is }

-- a machine value may be stored at a type
abbrev pub OfTy : Ty → Val → Type 0
OfTy σ v = T (has_ty σ v) × WT v

module _ {M : Type 1} {𝓤 : Ura M} (𝓛 : Logic 𝓤) {σ : Ty} where
  pub state_typed : σ ≡ S'.mir → (s : QoSScheduler) (v : Val) → Is S.the_row s (v ∷ []) → OfTy σ v
  state_typed e s v is = subst (λ (σ' : Ty). OfTy σ' v) (sym e) ((LL.lawful S.the_type S'.the_laws 𝓛).typed s _ is).0

  pub answer_typed : σ ≡ N'.mir → (a : Answer) (v : Val) → Is N.the_row a (v ∷ []) → OfTy σ v
  answer_typed e a v is = subst (λ (σ' : Ty). OfTy σ' v) (sym e) ((LL.lawful N.the_type N'.the_laws 𝓛).typed a _ is).0

-- the other arguments of block and of tick: they own facts alone, which can be had at any time
abbrev pub slot_vals : Slot → List Val
slot_vals = LL.vals L.the_type L'.the_laws

abbrev pub slot_owns : Slot → Fml
slot_owns slot = owns (L.the_row ∷ []) (slot, tt) (slot_vals slot, tt)

abbrev pub tick_vals : ℕ → ℕ → List Val
tick_vals core elapsed = vint w64 core ∷ vint w32 elapsed ∷ []

abbrev pub tick_owns : ℕ → ℕ → Fml
tick_owns core elapsed = owns (usize ∷ u32 ∷ []) (core, (elapsed, tt)) (vint w64 core ∷ [], (vint w32 elapsed ∷ [], tt))

module _ {M : Type 1} {𝓤 : Ura M} (𝓛 : Logic 𝓤) where
  pub slot_owned : (slot : Slot) → Is L.the_row slot (slot_vals slot) → ent 𝓤 (emp 𝓤) (sem 𝓛 (slot_owns slot))
  slot_owned slot is = qed 𝓛 (‵ ftrue ∷ []) ∵ owned ! L.the_row (Is L.the_row) (LL.makes L.the_type L'.the_plain 𝓛) slot _ is $ fjoin ! $ done !

  pub tick_owned : (core elapsed : ℕ) → core < 2 ^ 64 → elapsed < 2 ^ 32 → ent 𝓤 (emp 𝓤) (sem 𝓛 (tick_owns core elapsed))
  tick_owned core elapsed core_fits_lem elapsed-fits =
      qed 𝓛 (‵ ftrue ∷ []) ∵ owned ! u32 (Is u32) (uint_Makes 𝓛 w32) elapsed _ (refl, elapsed-fits) $ fjoin ! $
      owned ! usize (Is usize) (uint_Makes 𝓛 w64) core _ (refl, core_fits_lem) $ fjoin ! $ done !

-- a place in a local that is known to lie at a spot
pub at_spot : {M : Type 1} {𝓤 : Ura M} {𝓛 : Logic 𝓤} {K : Type 0} {Γ : List (Item 𝓤)} {E : Env 𝓤 𝓛.H} → K →
    {i : ℕ} {sp : Spot 𝓤 𝓛.H} {st : List PStep} {sp' : Spot 𝓤 𝓛.H} → spot_of 𝓤 𝓛.H E i ≡ sp → Walks K 𝓛 Γ E sp st sp' → Finds K 𝓛 Γ E (place i st) sp'
at_spot {M} {𝓤} {𝓛} {K} {Γ} {E} t {i} {sp} {st} {sp'} e w = from t (subst (λ (z : Spot 𝓤 𝓛.H). Walks K 𝓛 Γ E z st sp') (sym e) w)
