-- Laws of the selection by rank (`pick`): the chosen node stands in the list and has the least rank, the others are the rest in
-- their order, and nothing is chosen only of nothing.
use mathlib.Core.Path.{◌≡◌, refl, ap, sym, ◌∙◌, subst}
use mathlib.Core.Bool.{Bool, true, false, not}
use mathlib.Core.List.Memᴰ
use mathlib.Core.List.{List, [], ◌∷◌, ◌++◌}
use mathlib.Core.Logic.{◌⊎◌, inl, inr}
use Prim.Native.Nat.{ℕ, suc, ◌+◌, ◌≤◌, ◌<◌}
use native.Mathlib.Omega.{arith}
use lib.Dec.{T, ltb, leb→le, ltb→lt, nleb→lt, nltb→le}
use lib.ListN.{length, length-append}
use Rattle.lists.specs.Lists.{In, sum}
use Rattle.lists.proofs.Members.{in_head}
use Rattle.lists.proofs.Numbers.{sum-append}
use Rattle.search.specs.Selection.{Choice, nothing, chosen}
use Rattle.search.proofs.General.{beats, prefer, against, pick}

pub record Picked {N : Type 0} (rank : N → ℕ) (xs : List N) (b : N) (rest : List N) : Type 0 where
  pub front : List N
  pub back : List N
  pub whole : xs ≡ front ++ b ∷ back
  pub others : rest ≡ front ++ back
  pub least : (x : N) → In x xs → rank b ≤ rank x

-- what a choice says of the list that it was made of
abbrev pub ChosenOf : {N : Type 0} → (N → ℕ) → List N → Choice N → Type 0
ChosenOf {N} rank xs nothing = xs ≡ []
ChosenOf rank xs (chosen b rest) = Picked rank xs b rest

module _ {N : Type 0} (rank : N → ℕ) where
  beats_le : (late : Bool) (y x : N) → T (beats late rank y x) → rank y ≤ rank x
  unfolding beats
  beats_le true y x h = leb→le (rank y) (rank x) h
  beats_le false y x h = let k : rank y < rank x = ltb→lt (rank y) (rank x) h in omega arith

  beats_not : (late : Bool) (y x : N) → T (not (beats late rank y x)) → rank x ≤ rank y
  unfolding beats
  beats_not true y x h = let k : rank x < rank y = nleb→lt (rank y) (rank x) h in omega arith
  beats_not false y x h = nltb→le (rank y) (rank x) h

  picked_prefer :
      (x : N) (xs : List N) (y : N) (ys : List N) (b : Bool) → Picked rank xs y ys → (T b → rank y ≤ rank x) → (T (not b) → rank x ≤ rank y)
      → ChosenOf rank (x ∷ xs) (prefer b x xs y ys)
  unfolding prefer
  picked_prefer x xs y ys true p le gt = record {
    front = x ∷ p.front;
    back = p.back;
    whole = ap (λ (l : List N). x ∷ l) p.whole;
    others = ap (λ (l : List N). x ∷ l) p.others;
    least = λ z m. go z (Memᴰ.cases_cons m);
  }
    where
      go : (z : N) → (z ≡ x) ⊎ In z xs → rank y ≤ rank z
      go z (inl e) = rw e (le tt)
      go z (inr m) = p.least z m
  picked_prefer x xs y ys false p le gt = record {
    front = [];
    back = xs;
    whole = refl;
    others = refl;
    least = λ z m. go z (Memᴰ.cases_cons m);
  }
    where
      go : (z : N) → (z ≡ x) ⊎ In z xs → rank x ≤ rank z
      go z (inl e) = rw e (omega arith)
      go z (inr m) = let h : rank y ≤ rank z = p.least z m in let k : rank x ≤ rank y = gt tt in omega arith

  pub picked : (late : Bool) (xs : List N) → ChosenOf rank xs (pick late rank xs)
  unfolding pick against
  picked late [] = refl
  picked late (x ∷ xs) = go (pick late rank xs) (picked late xs)
    where
      go : (ch : Choice N) → ChosenOf rank xs ch → ChosenOf rank (x ∷ xs) (against late rank x xs ch)
      go nothing e = record {
        front = [];
        back = xs;
        whole = refl;
        others = refl;
        least = λ z m. at z (Memᴰ.cases_cons m);
      }
        where
          at : (z : N) → (z ≡ x) ⊎ In z xs → rank x ≤ rank z
          at z (inl q) = rw q (omega arith)
          at z (inr m) = absurd (Memᴰ.not-nil (subst (λ (l : List N). In z l) e m))
      go (chosen y ys) p = picked_prefer x xs y ys (beats late rank y x) p (beats_le late y x) (beats_not late y x)

  -- the same, of a choice that is known
  pub picked_of : (late : Bool) (xs : List N) (b : N) (rest : List N) → pick late rank xs ≡ chosen b rest → Picked rank xs b rest
  picked_of late xs b rest e = subst (ChosenOf rank xs) e (picked late xs)

  pub picked_none : (late : Bool) (xs : List N) → pick late rank xs ≡ nothing → xs ≡ []
  picked_none late xs e = subst (ChosenOf rank xs) e (picked late xs)

module _ {N : Type 0} {rank : N → ℕ} {xs : List N} {b : N} {rest : List N} (p : Picked rank xs b rest) where
  pub picked_in : In b xs
  picked_in = subst (λ (l : List N). In b l) (sym p.whole) (Memᴰ.append_right p.front in_head)

  pub rest_in : (x : N) → In x rest → In x xs
  rest_in x m = subst (λ (l : List N). In x l) (sym p.whole) (go (Memᴰ.append_cases p.front (subst (λ (l : List N). In x l) p.others m)))
    where
      go : In x p.front ⊎ In x p.back → In x (p.front ++ b ∷ p.back)
      go (inl k) = Memᴰ.append_left (b ∷ p.back) k
      go (inr k) = Memᴰ.append_right p.front (Memᴰ.tail k)

  pub in_rest : (x : N) → In x xs → (x ≡ b) ⊎ In x rest
  in_rest x m = go (Memᴰ.append_cases p.front (subst (λ (l : List N). In x l) p.whole m))
    where
      back : In x (p.front ++ p.back) → In x rest
      back k = subst (λ (l : List N). In x l) (sym p.others) k

      at : (x ≡ b) ⊎ In x p.back → (x ≡ b) ⊎ In x rest
      at (inl e) = inl e
      at (inr k) = inr (back (Memᴰ.append_right p.front k))

      go : In x p.front ⊎ In x (b ∷ p.back) → (x ≡ b) ⊎ In x rest
      go (inl k) = inr (back (Memᴰ.append_left p.back k))
      go (inr k) = at (Memᴰ.cases_cons k)

  pub picked_length : length xs ≡ suc (length rest)
  picked_length =
      ap length p.whole ∙ length-append p.front (b ∷ p.back)
      ∙ (let e : length rest ≡ length p.front + length p.back = ap length p.others ∙ length-append p.front p.back in omega arith)

  pub picked_sum : (f : N → ℕ) → sum f xs ≡ f b + sum f rest
  picked_sum f =
      ap (sum f) p.whole ∙ sum-append f p.front (b ∷ p.back)
      ∙ (let e : sum f rest ≡ sum f p.front + sum f p.back = ap (sum f) p.others ∙ sum-append f p.front p.back in omega arith)

-- FIFO: where all ranks are equal, the earliest is chosen
module _ {N : Type 0} (rank : N → ℕ) (level : (x y : N) → rank x ≡ rank y) where
  pub pick-earliest : (x : N) (xs : List N) → pick false rank (x ∷ xs) ≡ chosen x xs
  unfolding pick against beats prefer
  pick-earliest x xs = go (pick false rank xs)
    where
      stays : (y : N) (ys : List N) (k : Bool) → (T k → ⊥) → prefer k x xs y ys ≡ chosen x xs
      stays y ys true h = absurd (h tt)
      stays y ys false h = refl

      go : (ch : Choice N) → against false rank x xs ch ≡ chosen x xs
      go nothing = refl
      go (chosen y ys) =
          stays y ys (ltb (rank y) (rank x)) (λ h. let e : rank y ≡ rank x = level y x in let k : rank y < rank x = ltb→lt (rank y) (rank x) h in omega arith)
