-- What holds of each element of a list (`Each`): of its parts, of lists together, wherever the list is read, and after a store. Assumes nothing.
use mathlib.Core.List.{List, [], ◌∷◌, ◌++◌, flatten}
use Prim.Native.Nat.{ℕ, zero, suc, ◌<◌}
use native.Mathlib.Omega.{arith}
use lib.ListN.{length, get_or, take, drop, set}
use Rattle.records.specs.Lists.{Each}

module _ {A : Type 0} (P : A → Type 0) where
  -- of a part
  pub each_take : (n : ℕ) (l : List A) → Each P l → Each P (take n l)
  unfolding Each
  each_take zero l h = tt
  each_take (suc n) [] h = tt
  each_take (suc n) (a ∷ l) h = (h.0, each_take n l h.1)

  pub each_drop : (n : ℕ) (l : List A) → Each P l → Each P (drop n l)
  unfolding Each
  each_drop zero l h = h
  each_drop (suc n) [] h = tt
  each_drop (suc n) (a ∷ l) h = each_drop n l h.1

  -- of two lists together
  pub each_append : (l m : List A) → Each P l → Each P m → Each P (l ++ m)
  unfolding Each
  each_append [] m hl hm = hm
  each_append (a ∷ l) m hl hm = (hl.0, each_append l m hl.1 hm)

  -- of many
  pub each_flatten : (ls : List (List A)) → Each (Each P) ls → Each P (flatten ls)
  unfolding Each flatten
  each_flatten [] h = tt
  each_flatten (l ∷ ls) h = each_append l (flatten ls) h.0 (each_flatten ls h.1)

  -- wherever the list is read: of every place, and with the default of every number; and the other way
  pub each_at : (l : List A) (i : ℕ) (d : A) → Each P l → i < length l → P (get_or l i d)
  unfolding Each
  each_at [] i d all h = absurd (omega arith)
  each_at (a ∷ l) zero d all h = all.0
  each_at (a ∷ l) (suc i) d all h = each_at l i d all.1 (omega arith)

  pub each_read : (l : List A) (d : A) → P d → Each P l → (i : ℕ) → P (get_or l i d)
  unfolding Each
  each_read [] d out all i = out
  each_read (a ∷ l) d out all zero = all.0
  each_read (a ∷ l) d out all (suc i) = each_read l d out all.1 i

  pub read_each : (l : List A) (d : A) → ((i : ℕ) → P (get_or l i d)) → Each P l
  unfolding Each
  read_each [] d all = tt
  read_each (a ∷ l) d all = (all zero, read_each l d (λ i. all (suc i)))

  -- after a store; one past the end changes nothing
  pub stored_read : (l : List A) (i : ℕ) (a d : A) → P a → ((j : ℕ) → P (get_or l j d)) → (j : ℕ) → P (get_or (set l i a) j d)
  stored_read [] i a d new old j = old j
  stored_read (b ∷ l) zero a d new old zero = new
  stored_read (b ∷ l) zero a d new old (suc j) = old (suc j)
  stored_read (b ∷ l) (suc i) a d new old zero = old zero
  stored_read (b ∷ l) (suc i) a d new old (suc j) = stored_read l i a d new (λ k. old (suc k)) j
