-- Laws of the parts of a list: its first elements, those behind them, and one of them.
--   in_take, in_drop, in_get_or    what stands in a part stands in the list; in_place: what stands in it, at some place
use mathlib.Core.Path.{◌≡◌, sym, subst}
use mathlib.Core.List.Memᴰ
use mathlib.Core.List.{List, [], ◌∷◌}
use mathlib.Core.Logic.{◌⊎◌, inl, inr}
use Prim.Native.Nat.{ℕ, zero, suc, ◌<◌}
use native.Mathlib.Omega.{arith}
use lib.ListN.{length, get_or, take, drop, take-append-drop}
use Rattle.lists.specs.Lists.{In}
use Rattle.lists.proofs.Members.{in_head}

module _ {A : Type 0} where
  pub in_take : (j : ℕ) (xs : List A) (x : A) → In x (take j xs) → In x xs
  in_take j xs x m = subst (λ (l : List A). In x l) (take-append-drop j xs) (Memᴰ.append_left (drop j xs) m)

  pub in_drop : (j : ℕ) (xs : List A) (x : A) → In x (drop j xs) → In x xs
  in_drop j xs x m = subst (λ (l : List A). In x l) (take-append-drop j xs) (Memᴰ.append_right (take j xs) m)

  -- and what stands in a list stands at some place
  pub in_place : (xs : List A) (a d : A) → In a xs → (i : ℕ) × (i < length xs) × (get_or xs i d ≡ a)
  in_place [] a d m = absurd (Memᴰ.not-nil m)
  in_place (x ∷ xs) a d m = go (Memᴰ.cases_cons m) (λ k. in_place xs a d k)
    where
      go :
          (a ≡ x) ⊎ In a xs → (In a xs → (i : ℕ) × (i < length xs) × (get_or xs i d ≡ a))
          → (i : ℕ) × (i < suc (length xs)) × (get_or (x ∷ xs) i d ≡ a)
      go (inl e) again = (0, omega arith, sym e)
      go (inr k) again = let (i, h, e) = again k in (suc i, omega arith, e)

  pub in_get_or : (xs : List A) (i : ℕ) (d : A) → i < length xs → In (get_or xs i d) xs
  in_get_or [] i d h = absurd (omega arith)
  in_get_or (x ∷ xs) zero d h = in_head
  in_get_or (x ∷ xs) (suc i) d h = Memᴰ.tail (in_get_or xs i d (omega arith))
