-- Laws about lists of entries: the first place that passes a test, distinct numbers, the entries before one, and parts of a list in its
-- order. The heart of the waiting bound is `passed`: where an entry is taken that stands before x, what is then left before x stood behind that
-- entry, and the order is kept. Assumes nothing.
use mathlib.Core.Path.{◌≡◌, refl, sym, ap, ◌∙◌}
use mathlib.Core.Bool.{Bool, true, false, cond, true≢false, ◌||◌}
use mathlib.Core.List.Sublistᴰ
use mathlib.Core.List.{List, [], ◌∷◌, ◌++◌, Sublistᴰ}
use Prim.Native.Nat.{ℕ, zero, suc, ◌+◌, ◌≤◌, ◌<◌}
use native.Mathlib.Omega.{arith}
use borrow.Author.Tests.{eqb-true, eqb-false, ne_eqb, lt-ltb}
use lib.Dec.{ltb, eqb, leb-suc-suc}
use lib.ListN.{length, get_or}
use Rattle.records.proofs.Cases.{split}
use Rattle.records.specs.Lists.{any_of, first_place, count}
use Rattle.queue.specs.Entries.{without}
use Rattle.queue.proofs.Counts.{count_append, count_one, count_other, count-entry, count-without-same, count-without_le, length_without}
use Rattle.rules.specs.Stretch.{before}

-- ---- the first place that passes

pub first_place-passes : {A : Type 0} (test : A → Bool) (l : List A) (d : A) → first_place test l < length l →
    test (get_or l (first_place test l) d) ≡ true
unfolding first_place
first_place-passes test [] d = λ h. absurd (omega arith)
first_place-passes test (a ∷ l) d =
    split (λ (b : Bool). cond b 0 (suc (first_place test l)) < suc (length l) → test (get_or (a ∷ l) (cond b 0 (suc (first_place test l))) d) ≡ true) (test a)
    (λ passes _. passes)
    (λ _ h. first_place-passes test l d (omega arith))

-- the list, cut around that place
pub record Cut (test : ℕ → Bool) (l : List ℕ) (place : ℕ) : Type 0 where
  pub front : List ℕ
  pub entry : ℕ
  pub behind : List ℕ
  pub whole : l ≡ front ++ entry ∷ behind
  pub place_is : place ≡ length front
  pub passes : test entry ≡ true
  pub skipped : (x : ℕ) → test x ≡ true → count x front ≡ 0

pub cut : (test : ℕ → Bool) (l : List ℕ) → first_place test l < length l → Cut test l (first_place test l)
unfolding first_place count
cut test [] = λ h. absurd (omega arith)
cut test (e ∷ l) =
    split (λ (b : Bool). cond b 0 (suc (first_place test l)) < suc (length l) → Cut test (e ∷ l) (cond b 0 (suc (first_place test l)))) (test e)
    (λ passes _. record { front = []; entry = e; behind = l; whole = refl; place_is = refl; passes = passes; skipped = λ x _. refl })
    (λ fails h.
    let c : Cut test l (first_place test l) = cut test l (omega arith) in
    record {
      front = e ∷ c.front;
      entry = c.entry;
      behind = c.behind;
      whole = ap (λ (r : List ℕ). e ∷ r) c.whole;
      place_is = ap suc c.place_is;
      passes = c.passes;
      skipped = λ x px.
          let apart : e ≡ x → ⊥ = λ same. true≢false (sym px ∙ ap test (sym same) ∙ fails) in
          rw (ne_eqb e x apart) (omega (arith, c.skipped x px));
    })

-- an entry that passes is not overlooked
pub first_place-found : (test : ℕ → Bool) (l : List ℕ) (x : ℕ) → test x ≡ true → 1 ≤ count x l → first_place test l < length l
unfolding first_place count
first_place-found test [] x px h = absurd (omega arith)
first_place-found test (e ∷ l) x px h =
    split (λ (b : Bool). cond b 0 (suc (first_place test l)) < suc (length l)) (test e)
    (λ _. omega arith)
    (λ fails.
    let apart : e ≡ x → ⊥ = λ same. true≢false (sym px ∙ ap test (sym same) ∙ fails) in
    let behind : 1 ≤ count x l = let h2 : 1 ≤ cond false 1 0 + count x l = rw (ne_eqb e x apart) at h in omega arith in
    omega (arith, first_place-found test l x px behind))

-- some element passes where the first that does has a place
pub any-first : {A : Type 0} (test : A → Bool) (l : List A) → any_of test l ≡ ltb (first_place test l) (length l)
unfolding any_of first_place
any-first test [] = refl
any-first test (a ∷ l) =
    split (λ (b : Bool). b || any_of test l ≡ ltb (cond b 0 (suc (first_place test l))) (suc (length l))) (test a)
    (λ _. sym (lt-ltb 0 (suc (length l)) (omega arith)))
    (λ _. any-first test l ∙ sym (leb-suc-suc (suc (first_place test l)) (length l)))

-- ---- an entry that is counted has a place

pub count-place : (x : ℕ) (l : List ℕ) → 1 ≤ count x l → (place : ℕ) × (place < length l) × (get_or l place 0 ≡ x)
unfolding count
count-place x [] = λ h. absurd (omega arith)
count-place x (e ∷ l) =
    split (λ (b : Bool). 1 ≤ cond b 1 0 + count x l → (place : ℕ) × (place < suc (length l)) × (get_or (e ∷ l) place 0 ≡ x)) (eqb e x)
    (λ is _. (zero, omega arith, eqb-true e x is))
    (λ _ h. let p : (place : ℕ) × (place < length l) × (get_or l place 0 ≡ x) = count-place x l (omega arith) in (suc p.0, omega (arith, p.1), p.2))

-- ---- distinct numbers below n are at most n, and fewer where one is missing

pub bounded : (n : ℕ) (es : List ℕ) → ((i : ℕ) → 1 ≤ count i es → i < n) → ((i : ℕ) → count i es ≤ 1) → length es ≤ n
bounded zero [] below once = omega arith
bounded zero (e ∷ es) below once = absurd (omega (arith, below e (count-entry 0 (e ∷ es) (omega arith))))
bounded (suc n) es below once =
    let gone : (i : ℕ) → i ≡ n → count i (without n es) ≡ 0 = λ i same. ap (λ (j : ℕ). count j (without n es)) same ∙ count-without-same n es in
    let not-n : (i : ℕ) → 1 ≤ count i (without n es) → i ≡ n → ⊥ = λ i h same. omega (arith, gone i same) in
    let lower : (i : ℕ) → 1 ≤ count i (without n es) → i < n = λ i h. omega (arith, below i (omega (arith, count-without_le n i es)), not-n i h) in
    let once-still : (i : ℕ) → count i (without n es) ≤ 1 = λ i. omega (arith, count-without_le n i es, once i) in
    omega (arith, length_without n es, once n, bounded n (without n es) lower once-still)

pub room : (n : ℕ) (es : List ℕ) (j : ℕ) → ((i : ℕ) → 1 ≤ count i es → i < n) → ((i : ℕ) → count i es ≤ 1) → j < n → count j es ≡ 0 → length es < n
room n es j below once low missing =
    let joined : (i : ℕ) → count i (j ∷ es) ≡ count i (j ∷ []) + count i es = λ i. count_append i (j ∷ []) es in
    let below_all : (i : ℕ) → 1 ≤ count i (j ∷ es) → i < n = λ i h.
    split (λ _. i < n) (eqb i j)
    (λ is. omega (arith, eqb-true i j is))
    (λ other. below i (omega (arith, joined i, count_other i j (eqb-false i j other)))) in
    let once-all : (i : ℕ) → count i (j ∷ es) ≤ 1 = λ i.
    split (λ _. count i (j ∷ es) ≤ 1) (eqb i j)
    (λ is. rw (eqb-true i j is) (omega (arith, joined j, count_one j)))
    (λ other. omega (arith, joined i, count_other i j (eqb-false i j other), once i)) in
    let all : length (j ∷ es) ≤ n = bounded n (j ∷ es) below_all once-all in
    omega arith

-- ---- parts of a list in its order

pub sub_length : {a b : List ℕ} → Sublistᴰ a b → length a ≤ length b
sub_length Sublistᴰ.slnil = omega arith
sub_length (Sublistᴰ.cons h) = omega (arith, sub_length h)
sub_length (Sublistᴰ.cons-cons e h) = omega (arith, sub_length h)

pub sub_count : (x : ℕ) {a b : List ℕ} → Sublistᴰ a b → count x a ≤ count x b
unfolding count
sub_count x Sublistᴰ.slnil = omega arith
sub_count x (Sublistᴰ.cons h) = omega (arith, sub_count x h)
sub_count x (Sublistᴰ.cons-cons e h) = rw e (omega (arith, sub_count x h))

pub sub_skip : (f : List ℕ) {a b : List ℕ} → Sublistᴰ a b → Sublistᴰ a (f ++ b)
sub_skip [] h = h
sub_skip (e ∷ f) h = Sublistᴰ.cons (sub_skip f h)

-- ---- the entries before x

pub before_other : (x e : ℕ) (l : List ℕ) → (e ≡ x → ⊥) → before x (e ∷ l) ≡ e ∷ before x l
unfolding before
before_other x e l apart = rw (ne_eqb e x apart)

-- what stands behind x does not matter
pub before_append : (x : ℕ) (a b : List ℕ) → 1 ≤ count x a → before x (a ++ b) ≡ before x a
unfolding before count
before_append x [] b = λ h. absurd (omega arith)
before_append x (e ∷ a) b =
    split (λ (t : Bool). 1 ≤ cond t 1 0 + count x a → cond t [] (e ∷ before x (a ++ b)) ≡ cond t [] (e ∷ before x a)) (eqb e x)
    (λ _ _. refl)
    (λ _ h. ap (λ (r : List ℕ). e ∷ r) (before_append x a b (omega arith)))

-- what is not x and stands in front stays in front
pub before-past : (x : ℕ) (f g : List ℕ) → count x f ≡ 0 → before x (f ++ g) ≡ f ++ before x g
unfolding before count
before-past x [] g = λ h. refl
before-past x (e ∷ f) g =
    split (λ (t : Bool). cond t 1 0 + count x f ≡ 0 → cond t [] (e ∷ before x (f ++ g)) ≡ e ∷ (f ++ before x g)) (eqb e x)
    (λ _ h. absurd (omega arith))
    (λ _ h. ap (λ (r : List ℕ). e ∷ r) (before-past x f g (omega arith)))

pub before-cut : (x : ℕ) (l : List ℕ) → 1 ≤ count x l → (rest : List ℕ) × (l ≡ before x l ++ x ∷ rest)
unfolding before count
before-cut x [] = λ h. absurd (omega arith)
before-cut x (e ∷ l) =
    split (λ (t : Bool). 1 ≤ cond t 1 0 + count x l → (rest : List ℕ) × (e ∷ l ≡ cond t [] (e ∷ before x l) ++ x ∷ rest)) (eqb e x)
    (λ is _. (l, ap (λ (n : ℕ). n ∷ l) (eqb-true e x is)))
    (λ _ h. let c : (rest : List ℕ) × (l ≡ before x l ++ x ∷ rest) = before-cut x l (omega arith) in (c.0, ap (λ (r : List ℕ). e ∷ r) c.1))

-- a removal of another takes nobody ahead of x, and keeps the order
pub before-without : (x y : ℕ) (l : List ℕ) → (x ≡ y → ⊥) → Sublistᴰ (before x (without y l)) (before x l)
unfolding before without
before-without x y [] apart = Sublistᴰ.slnil
before-without x y (e ∷ l) apart =
    split (λ (t : Bool). Sublistᴰ (before x (cond t (without y l) (e ∷ without y l))) (cond (eqb e x) [] (e ∷ before x l))) (eqb e y)
    (λ is. rw (ne_eqb e x (λ same. apart (sym same ∙ eqb-true e y is))) (Sublistᴰ.cons (before-without x y l apart)))
    (λ _.
    split (λ (t : Bool). Sublistᴰ (cond t [] (e ∷ before x (without y l))) (cond t [] (e ∷ before x l))) (eqb e x)
    (λ _. Sublistᴰ.slnil)
    (λ _. Sublistᴰ.cons-cons refl (before-without x y l apart)))

-- e is taken, x stands behind it: those then before x are those who stood between the two, and e was before them
pub passed : (x : ℕ) (f : List ℕ) (e : ℕ) (t : List ℕ) → count x f ≡ 0 → (e ≡ x → ⊥) → 1 ≤ count x (f ++ e ∷ t) →
    Sublistᴰ (e ∷ before x (t ++ f)) (before x (f ++ e ∷ t))
passed x f e t skipped apart h =
    let in-t : 1 ≤ count x t = omega (arith, count_append x f (e ∷ t), count_append x (e ∷ []) t, count_other x e (λ same. apart (sym same))) in
    let was : before x (f ++ e ∷ t) ≡ f ++ e ∷ before x t = before-past x f (e ∷ t) skipped ∙ ap (λ (r : List ℕ). f ++ r) (before_other x e t apart) in
    rw was (rw (before_append x t f in-t) (sub_skip f (Sublistᴰ.refl (e ∷ before x t))))
