-- Laws of lists in which no element stands twice: when joined, mapped and `each` lists are distinct, and what taking one number out
-- does to a sum and a length; and that a sum lies with the members alone.
use mathlib.Core.Path.{◌≡◌, refl, ap, sym, subst}
use mathlib.Core.List.Memᴰ
use mathlib.Core.List.{List, [], ◌∷◌, ◌++◌, map}
use mathlib.Core.Logic.{◌⊎◌, inl, inr, ◌≢◌}
use Prim.Native.Nat.{ℕ, suc, ◌+◌}
use native.Mathlib.Omega.{arith}
use lib.Dec.{eqb, eqb_refl}
use lib.ListN.{length}
use Rattle.lists.specs.Lists.{In, sum, each, without, Distinct, none, more}
use Rattle.lists.proofs.Tests.{neq, to_true, to_false, ne_neqb}
use Rattle.lists.proofs.Members.{in_head, in_keep, keep_in, in_map, in_each, distinct-keep}
use Rattle.lists.proofs.Numbers.{sum_const}

module _ {A : Type 0} where
  pub distinct_append : {xs ys : List A} → Distinct xs → Distinct ys → ((a : A) → In a xs → In a ys → ⊥) → Distinct (xs ++ ys)
  distinct_append none e apart = e
  distinct_append {ys = ys} (more {x} {xs} new d) e apart =
      more (λ m. go (Memᴰ.append_cases xs m)) (distinct_append d e (λ a i j. apart a (Memᴰ.tail i) j))
    where
      go : In x xs ⊎ In x ys → ⊥
      go (inl m) = new m
      go (inr m) = apart x in_head m

  pub append_apart : (xs ys : List A) → Distinct (xs ++ ys) → (a : A) → In a xs → In a ys → ⊥
  append_apart [] ys d a i j = Memᴰ.not-nil i
  append_apart (x ∷ xs) ys (more new d) a i j = go (Memᴰ.cases_cons i) (λ k. append_apart xs ys d a k j)
    where
      go : (a ≡ x) ⊎ In a xs → (In a xs → ⊥) → ⊥
      go (inl e) again = new (Memᴰ.append_right xs (subst (λ (b : A). In b ys) e j))
      go (inr k) again = again k

  pub distinct-front : (xs ys : List A) → Distinct (xs ++ ys) → Distinct xs
  distinct-front [] ys d = none
  distinct-front (x ∷ xs) ys (more new d) = more (λ m. new (Memᴰ.append_left ys m)) (distinct-front xs ys d)

module _ {A B : Type 0} where
  pub distinct-map : (f : A → B) → ((a b : A) → f a ≡ f b → a ≡ b) → {xs : List A} → Distinct xs → Distinct (map f xs)
  distinct-map f apart none = none
  distinct-map f apart (more {x} {xs} new d) = more go (distinct-map f apart d)
    where
      go : In (f x) (map f xs) → ⊥
      go m = let (a, i, e) = in_map f xs (f x) m in new (subst (λ (b : A). In b xs) (sym (apart x a e)) i)

  -- `each` of distinct elements: what is made of each is distinct, and what is made shows of which it was made
  pub distinct-each :
      (k : A → List B) → ((a : A) → Distinct (k a)) → ((a a' : A) (b : B) → In b (k a) → In b (k a') → a ≡ a')
      → {xs : List A} → Distinct xs → Distinct (each k xs)
  distinct-each k own shows none = none
  distinct-each k own shows (more {x} {xs} new d) = distinct_append (own x) (distinct-each k own shows d) go
    where
      go : (b : B) → In b (k x) → In b (each k xs) → ⊥
      go b i j = let (a, m, h) = in_each k xs b j in new (subst (λ (c : A). In c xs) (sym (shows x a b i h)) m)

-- a number that does not stand in a list leaves nothing out
pub without_absent : (s : ℕ) (xs : List ℕ) → (In s xs → ⊥) → without s xs ≡ xs
without_absent s [] h = refl
without_absent s (x ∷ xs) h =
    rw (to_false (eqb s x) (ne_neqb s x (λ e. h (Memᴰ.head e))))
    (ap (λ (l : List ℕ). x ∷ l) (without_absent s xs (λ m. h (Memᴰ.tail m))))

-- a number that stands in it leaves out just its own share
pub sum-without :
    (f : ℕ → ℕ) (s : ℕ) {xs : List ℕ} → Distinct xs → In s xs → sum f xs ≡ f s + sum f (without s xs)
sum-without f s none m = absurd (Memᴰ.not-nil m)
sum-without f s (more {x} {xs} new d) m = go (Memᴰ.cases_cons m) (λ k. sum-without f s d k)
  where
    go :
        (s ≡ x) ⊎ In s xs → (In s xs → sum f xs ≡ f s + sum f (without s xs))
        → f x + sum f xs ≡ f s + sum f (without s (x ∷ xs))
    go (inl e) again = rw (e, to_true (eqb x x) (eqb_refl x), without_absent s xs (λ m. new (subst (λ (r : ℕ). In r xs) e m))) refl
    go (inr k) again =
        rw (to_false (eqb s x) (ne_neqb s x (λ e. new (subst (λ (r : ℕ). In r xs) e k)))) (omega (arith, again k))

pub length_without : (s : ℕ) {xs : List ℕ} → Distinct xs → In s xs → length xs ≡ suc (length (without s xs))
length_without s {xs} d m = omega (arith, sum-without (λ r. 1) s d m, sum_const 1 xs, sum_const 1 (without s xs))

-- two lists of the same numbers, none twice in either, have one sum
pub sum_members :
    (f : ℕ → ℕ) {xs : List ℕ} → Distinct xs → (ys : List ℕ) → Distinct ys
    → ((s : ℕ) → In s xs → In s ys) → ((s : ℕ) → In s ys → In s xs) → sum f xs ≡ sum f ys
sum_members f none [] e there back = refl
sum_members f none (y ∷ ys) e there back = absurd (Memᴰ.not-nil (back y in_head))
sum_members f (more {x} {xs} new d) ys e there back =
    let again : sum f xs ≡ sum f (without x ys) = sum_members f d (without x ys) (distinct-keep _ e) onward homeward in
    omega (arith, again, sum-without f x e (there x in_head))
  where
    onward : (s : ℕ) → In s xs → In s (without x ys)
    onward s m = keep_in _ ys s (there s (Memᴰ.tail m)) (ne_neqb x s (λ z. new (subst (λ (r : ℕ). In r xs) (sym z) m)))

    behind : (s : ℕ) → (s ≡ x) ⊎ In s xs → s ≢ x → In s xs
    behind s (inl z) h = absurd (h z)
    behind s (inr m) h = m

    homeward : (s : ℕ) → In s (without x ys) → In s xs
    homeward s m =
        let (i, apart) = in_keep _ ys s m in
        behind s (Memᴰ.cases_cons (back s i)) (λ z. neq x s apart (sym z))
