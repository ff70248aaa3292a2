-- Laws of `cheapest`.
--   cheapest-first                   it is one of the elements, none is cheaper, and each in front of it is dearer
--   cheapest_in, cheapest-least      so it is one of them, and none is cheaper
--   cheapest_stays                   where it is no cheaper than the first, it is the first
--   cheapest-append                  of joined lists: of the second, from what the first comes to
--   cheapest-keep                    of the elements that pass a test: of all, where those that do not are dear enough
use mathlib.Core.Path.{◌≡◌, refl, sym, ap, subst}
use mathlib.Core.Bool.{Bool, true, false, cond}
use mathlib.Core.List.Memᴰ
use mathlib.Core.List.{List, [], ◌∷◌, ◌++◌}
use mathlib.Core.Logic.{◌⊎◌, inl, inr}
use Prim.Native.Nat.{ℕ, ◌≤◌, ◌<◌}
use native.Mathlib.Omega.{arith}
use lib.Dec.{T, ltb}
use borrow.Author.Tests.{lt-ltb, le-ltb}
use Rattle.lists.specs.Lists.{In, put, keep}
use Rattle.lists.proofs.Tests.{to_true, ordered}
use Rattle.lists.proofs.Members.{in_head}
use Rattle.first_answer.specs.Nearest.{cheapest}
use Rattle.first_answer.specs.Request.{FirstCheapest}
use Rattle.first_answer.specs.Examples

module _ {A : Type 0} (f : A → ℕ) where
  -- a cheaper element takes the place of the one before it
  replaced : {x y a : A} {ys : List A} → f y < f x → FirstCheapest f (y ∷ ys) a → FirstCheapest f (x ∷ y ∷ ys) a
  replaced {x} {y} {a} {ys} h c = record {
    before = x ∷ c.before;
    after = c.after;
    split = ap (λ (l : List A). x ∷ l) c.split;
    dearer = λ z i. go z (Memᴰ.cases_cons i);
    least = λ z i. all z (Memᴰ.cases_cons i);
  }
    where
      go : (z : A) → (z ≡ x) ⊎ In z c.before → f a < f z
      go z (inl e) = omega (arith, ap f e, c.least y in_head)
      go z (inr i) = c.dearer z i

      all : (z : A) → (z ≡ x) ⊎ In z (y ∷ ys) → f a ≤ f z
      all z (inl e) = omega (arith, ap f e, c.least y in_head)
      all z (inr i) = c.least z i

  -- one that is not cheaper does not
  kept : {x y a : A} {ys : List A} → f x ≤ f y → FirstCheapest f (x ∷ ys) a → FirstCheapest f (x ∷ y ∷ ys) a
  kept {x} {y} {a} {ys} h c = go c.before c.split c.dearer
    where
      all : (z : A) → In z (x ∷ y ∷ ys) → f a ≤ f z
      all z i = first (Memᴰ.cases_cons i)
        where
          second : (z ≡ y) ⊎ In z ys → f a ≤ f z
          second (inl e) = omega (arith, ap f e, c.least x in_head)
          second (inr j) = c.least z (Memᴰ.tail j)

          first : (z ≡ x) ⊎ In z (y ∷ ys) → f a ≤ f z
          first (inl e) = omega (arith, ap f e, c.least x in_head)
          first (inr j) = second (Memᴰ.cases_cons j)

      go :
          (before : List A) → x ∷ ys ≡ before ++ (a ∷ c.after) → ((z : A) → In z before → f a < f z) → FirstCheapest f (x ∷ y ∷ ys) a
      go [] e d = let same : x ≡ a = cc in record {
        before = [];
        after = y ∷ ys;
        split = ap (λ (l : A). l ∷ y ∷ ys) same;
        dearer = λ z i. absurd (Memᴰ.not-nil i);
        least = all;
      }
      go (b ∷ bs) e d =
          let same : x ≡ b = cc in
          let rest : ys ≡ bs ++ (a ∷ c.after) = cc in
          let less : f a < f b = d b in_head in
          record {
            before = x ∷ y ∷ bs;
            after = c.after;
            split = ap (λ (l : List A). x ∷ y ∷ l) rest;
            dearer = λ z i. first z less same (Memᴰ.cases_cons i);
            least = all;
          }
        where
          second : (z : A) → f a < f b → x ≡ b → (z ≡ y) ⊎ In z bs → f a < f z
          second z l s (inl p) = omega (arith, ap f p, ap f s)
          second z l s (inr j) = d z (Memᴰ.tail j)

          first : (z : A) → f a < f b → x ≡ b → (z ≡ x) ⊎ In z (y ∷ bs) → f a < f z
          first z l s (inl p) = omega (arith, ap f p, ap f s)
          first z l s (inr j) = second z l s (Memᴰ.cases_cons j)

  pub cheapest-first : (x : A) (xs : List A) → FirstCheapest f (x ∷ xs) (cheapest f x xs)
  cheapest-first x [] = record {
    before = [];
    after = [];
    split = refl;
    dearer = λ y i. absurd (Memᴰ.not-nil i);
    least = λ y i. go y (Memᴰ.cases_cons i);
  }
    where
      go : (y : A) → (y ≡ x) ⊎ In y [] → f x ≤ f y
      go y (inl e) = omega (arith, ap f e)
      go y (inr i) = absurd (Memᴰ.not-nil i)
  cheapest-first x (y ∷ ys) = go (ordered (f x) (f y)) (cheapest-first x ys) (cheapest-first y ys)
    where
      go :
          (f x ≤ f y) ⊎ (f y < f x) → FirstCheapest f (x ∷ ys) (cheapest f x ys) → FirstCheapest f (y ∷ ys) (cheapest f y ys)
          → FirstCheapest f (x ∷ y ∷ ys) (cheapest f (cond (ltb (f y) (f x)) y x) ys)
      go (inl h) c d = rw (le-ltb (f y) (f x) h) (kept h c)
      go (inr h) c d = rw (lt-ltb (f y) (f x) h) (replaced h d)

  pub cheapest_in : (x : A) (xs : List A) → In (cheapest f x xs) (x ∷ xs)
  cheapest_in x xs =
      let c = cheapest-first x xs in
      rw c.split (Memᴰ.append_right c.before in_head)

  pub cheapest-least : (x : A) (xs : List A) (y : A) → In y (x ∷ xs) → f (cheapest f x xs) ≤ f y
  cheapest-least x xs = (cheapest-first x xs).least

  pub cheapest_stays : (x : A) (xs : List A) → f x ≤ f (cheapest f x xs) → cheapest f x xs ≡ x
  cheapest_stays x xs h = go c.before c.split c.dearer
    where
      c : FirstCheapest f (x ∷ xs) (cheapest f x xs)
      c = cheapest-first x xs

      go :
          (before : List A) → x ∷ xs ≡ before ++ (cheapest f x xs ∷ c.after)
          → ((y : A) → In y before → f (cheapest f x xs) < f y) → cheapest f x xs ≡ x
      go [] e d = cc
      go (b ∷ bs) e d = let same : x ≡ b = cc in absurd (omega (arith, ap f same, d b in_head))

  pub cheapest-append : (x : A) (xs ys : List A) → cheapest f x (xs ++ ys) ≡ cheapest f (cheapest f x xs) ys
  cheapest-append x [] ys = refl
  cheapest-append x (y ∷ xs) ys = cheapest-append (cond (ltb (f y) (f x)) y x) xs ys

  -- an element that does not pass costs `top`, and what is cheapest so far costs no more
  pub cheapest-keep :
      (test : A → Bool) (top : ℕ) (x : A) (xs : List A) → T (test x) → f x ≤ top
      → cheapest f x (keep test xs) ≡ cheapest (λ y. cond (test y) (f y) top) x xs
  cheapest-keep test top x [] a h = refl
  cheapest-keep test top x (y ∷ ys) a h =
      rw (to_true (test x) a) (go (test y) refl (cheapest-keep test top x ys a h) (cheapest-keep test top y ys))
    where
      priced : A → ℕ
      priced z = cond (test z) (f z) top

      Same : A → Type 0
      Same z = cheapest f z (keep test ys) ≡ cheapest priced z ys

      nearer : (f x ≤ f y) ⊎ (f y < f x) → Same x → (f y ≤ top → Same y) → Same (cond (ltb (f y) (f x)) y x)
      nearer (inl k) stays takes = rw (le-ltb (f y) (f x) k) stays
      nearer (inr k) stays takes = rw (lt-ltb (f y) (f x) k) (takes (omega arith))

      go :
          (b : Bool) → test y ≡ b → Same x → (T (test y) → f y ≤ top → Same y)
          → cheapest f x (put b y (keep test ys)) ≡ cheapest priced (cond (ltb (cond b (f y) top) (f x)) y x) ys
      go false e stays takes = rw (le-ltb top (f x) h) stays
      go true e stays takes = nearer (ordered (f x) (f y)) stays (takes (subst T (sym e) tt))
