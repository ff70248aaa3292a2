-- One list without some elements of another: `Thin P xs ys` says that xs is ys without some elements, each of which has P.
-- The comparison of two runs holds the nodes of one run against those of the other in this way.
-- `Trimmed P xs ys` says besides that no element of xs has P. Here are their laws: P made weaker, lists joined, more on the right,
-- lengths, members, tests that eliminate on both sides or on the right alone, and the selection (`pick`) on both sides.
use mathlib.Core.Path.{◌≡◌, refl, sym, subst}
use mathlib.Core.Bool.{Bool, true, false, not}
use mathlib.Core.List.Memᴰ
use mathlib.Core.List.{List, [], ◌∷◌, ◌++◌}
use mathlib.Core.Logic.{◌⊎◌, inl, inr}
use Prim.Native.Nat.{ℕ, ◌≤◌}
use native.Mathlib.Omega.{arith}
use lib.Dec.{T, leb→le, ltb→lt, le→leb, lt→ltb, T_not}
use lib.ListN.{length}
use Rattle.lists.specs.Lists.{In, put}
use Rattle.lists.proofs.Members.{in_head}
use Rattle.search.specs.Step.{survivors}
use Rattle.search.specs.Selection.{Choice, nothing, chosen}
use Rattle.search.proofs.General.{beats, prefer, against, pick}
use Rattle.search.proofs.Pick.{ChosenOf, picked, picked_in}

pub data Thin {N : Type 0} (P : N → Type 0) : List N → List N → Type 0 where
  nil : Thin P [] []
  same : {xs ys : List N} (x : N) → Thin P xs ys → Thin P (x ∷ xs) (x ∷ ys)
  less : {xs ys : List N} (y : N) → P y → Thin P xs ys → Thin P xs (y ∷ ys)

-- the same, and what is left has not P
pub record Trimmed {N : Type 0} (P : N → Type 0) (xs ys : List N) : Type 0 where
  pub thin : Thin P xs ys
  pub clean : (x : N) → In x xs → P x → ⊥

module _ {N : Type 0} {P : N → Type 0} where
  pub thin_self : (xs : List N) → Thin P xs xs
  thin_self [] = nil
  thin_self (x ∷ xs) = same x (thin_self xs)

  pub thin_weaken : {Q : N → Type 0} {xs ys : List N} → ((x : N) → P x → Q x) → Thin P xs ys → Thin Q xs ys
  thin_weaken h nil = nil
  thin_weaken h (same x th) = same x (thin_weaken h th)
  thin_weaken h (less y p th) = less y (h y p) (thin_weaken h th)

  pub thin_append : {xs ys xs' ys' : List N} → Thin P xs ys → Thin P xs' ys' → Thin P (xs ++ xs') (ys ++ ys')
  thin_append nil th' = th'
  thin_append (same x th) th' = same x (thin_append th th')
  thin_append (less y p th) th' = less y p (thin_append th th')

  all_less : (zs : List N) → ((z : N) → In z zs → P z) → Thin P [] zs
  all_less [] h = nil
  all_less (z ∷ zs) h = less z (h z in_head) (all_less zs (λ y m. h y (Memᴰ.tail m)))

  pub thin_more : {xs ys : List N} → Thin P xs ys → (zs : List N) → ((z : N) → In z zs → P z) → Thin P xs (ys ++ zs)
  thin_more nil zs h = all_less zs h
  thin_more (same x th) zs h = same x (thin_more th zs h)
  thin_more (less y p th) zs h = less y p (thin_more th zs h)

  pub thin_length : {xs ys : List N} → Thin P xs ys → length xs ≤ length ys
  thin_length nil = omega arith
  thin_length (same x th) = omega (arith, thin_length th)
  thin_length (less y p th) = omega (arith, thin_length th)

  -- members
  pub thin_in : {xs ys : List N} → Thin P xs ys → (x : N) → In x xs → In x ys
  thin_in nil x m = m
  thin_in (same {xs} {ys} y th) x m = go (Memᴰ.cases_cons m) (λ k. thin_in th x k)
    where
      go : (x ≡ y) ⊎ In x xs → (In x xs → In x ys) → In x (y ∷ ys)
      go (inl e) again = Memᴰ.head e
      go (inr k) again = Memᴰ.tail (again k)
  thin_in (less y p th) x m = Memᴰ.tail (thin_in th x m)

  pub thin_cases : {xs ys : List N} → Thin P xs ys → (y : N) → In y ys → In y xs ⊎ P y
  thin_cases nil y m = inl m
  thin_cases (same {xs} {ys} x th) y m = go (Memᴰ.cases_cons m) (λ k. thin_cases th y k)
    where
      tail : In y xs ⊎ P y → In y (x ∷ xs) ⊎ P y
      tail (inl k) = inl (Memᴰ.tail k)
      tail (inr p) = inr p

      go : (y ≡ x) ⊎ In y ys → (In y ys → In y xs ⊎ P y) → In y (x ∷ xs) ⊎ P y
      go (inl e) again = inl (Memᴰ.head e)
      go (inr k) again = tail (again k)
  thin_cases (less {xs} {ys} x p th) y m = go (Memᴰ.cases_cons m) (λ k. thin_cases th y k)
    where
      go : (y ≡ x) ⊎ In y ys → (In y ys → In y xs ⊎ P y) → In y xs ⊎ P y
      go (inl e) again = inr (subst P (sym e) p)
      go (inr k) again = again k

  -- tests that eliminate
  put_less : {xs ys : List N} (b : Bool) (y : N) → P y → Thin P xs ys → Thin P xs (put b y ys)
  put_less true y p th = less y p th
  put_less false y p th = th

  -- Each side has its own test: what the right loses the left loses too, and what the left alone loses has P.
  pub thin_survivors :
      (f g : N → Bool) {xs ys : List N} → Thin P xs ys → ((x : N) → In x xs → T (g x) → T (f x))
      → ((x : N) → In x xs → T (f x) → P x ⊎ T (g x)) → Thin P (survivors f xs) (survivors g ys)
  thin_survivors f g nil lost out = nil
  thin_survivors f g (same {xs} {ys} x th) lost out =
      go (f x) (g x) (lost x in_head) (out x in_head)
      (thin_survivors f g th (λ y m. lost y (Memᴰ.tail m)) (λ y m. out y (Memᴰ.tail m)))
    where
      dropped : P x ⊎ ⊥ → P x
      dropped (inl p) = p
      dropped (inr h) = absurd h

      go :
          (k l : Bool) → (T l → T k) → (T k → P x ⊎ T l) → Thin P (survivors f xs) (survivors g ys)
          → Thin P (put (not k) x (survivors f xs)) (put (not l) x (survivors g ys))
      go true true lost' out' th' = th'
      go true false lost' out' th' = less x (dropped (out' tt)) th'
      go false true lost' out' th' = absurd (lost' tt)
      go false false lost' out' th' = same x th'
  thin_survivors f g (less y p th) lost out = put_less (not (g y)) y p (thin_survivors f g th lost out)

  -- The right side alone is tested, by a test that eliminates none of the left.
  pub thin_right : (g : N → Bool) {xs ys : List N} → Thin P xs ys → ((x : N) → In x xs → T (g x) → ⊥) → Thin P xs (survivors g ys)
  thin_right g nil stay = nil
  thin_right g (same {xs} {ys} x th) stay = go (g x) (stay x in_head) (thin_right g th (λ y m. stay y (Memᴰ.tail m)))
    where
      go : (k : Bool) → (T k → ⊥) → Thin P xs (survivors g ys) → Thin P (x ∷ xs) (put (not k) x (survivors g ys))
      go true h th' = absurd (h tt)
      go false h th' = same x th'
  thin_right g (less y p th) stay = put_less (not (g y)) y p (thin_right g th stay)

  pub trimmed_append : {xs ys xs' ys' : List N} → Trimmed P xs ys → Trimmed P xs' ys' → Trimmed P (xs ++ xs') (ys ++ ys')
  trimmed_append {xs} {ys} {xs'} h k = record {
    thin = thin_append h.thin k.thin;
    clean = λ x m. go x (Memᴰ.append_cases xs m);
  }
    where
      go : (x : N) → In x xs ⊎ In x xs' → P x → ⊥
      go x (inl m) = h.clean x m
      go x (inr m) = k.clean x m

-- The selection from both sides. Where b is chosen on the right, either b has P and the left has no more than the other nodes, or b
-- is chosen on the left too. `left` is the choice from xs.
pub data Follows {N : Type 0} (P : N → Type 0) (xs : List N) (left : Choice N) : Choice N → Type 0 where
  neither : left ≡ nothing → Follows P xs left nothing
  alone : {b : N} {rest : List N} → P b → Thin P xs rest → Follows P xs left (chosen b rest)
  both : {b : N} {rest rest' : List N} → left ≡ chosen b rest → Thin P rest rest' → Follows P xs left (chosen b rest')

module _ {N : Type 0} (rank : N → ℕ) where
  -- what goes before x, all the more if its rank is less
  beats_more : (late : Bool) (z w x : N) → rank z ≤ rank w → T (beats late rank w x) → T (beats late rank z x)
  unfolding beats
  beats_more true z w x le h = le→leb (rank z) (rank x) (omega (arith, leb→le (rank w) (rank x) h))
  beats_more false z w x le h = lt→ltb (rank z) (rank x) (omega (arith, ltb→lt (rank w) (rank x) h))

  -- x is chosen where a node whose rank is at most that of the others does not go before it
  front_chosen :
      (late : Bool) (x : N) (xs : List N) (z : N) → ((w : N) → In w xs → rank z ≤ rank w) → T (not (beats late rank z x))
      → (c : Choice N) → ChosenOf rank xs c → against late rank x xs c ≡ chosen x xs
  unfolding against prefer
  front_chosen late x xs z low h nothing e = refl
  front_chosen late x xs z low h (chosen w ws) p =
      stays (beats late rank w x) (λ k. T_not (beats late rank z x) h (beats_more late z w x (low w (picked_in p)) k))
    where
      stays : (k : Bool) → (T k → ⊥) → prefer k x xs w ws ≡ chosen x xs
      stays true never = absurd (never tt)
      stays false never = refl

module _ {N : Type 0} {P : N → Type 0} (late : Bool) (rank : N → ℕ) where
  -- a node without its like on the left is put in front on the right
  follow_less :
      {xs ys : List N} {left right : Choice N} (y : N) → P y → Thin P xs ys → Follows P xs left right
      → Follows P xs left (against late rank y ys right)
  unfolding against prefer
  follow_less y p th (neither e) = alone p th
  follow_less {xs} {ys} {left} y p th (alone {b = z} {rest = zs} q r) = go (beats late rank z y)
    where
      go : (k : Bool) → Follows P xs left (prefer k y ys z zs)
      go true = alone q (less y p r)
      go false = alone p th
  follow_less {xs} {ys} {left} y p th (both {b = z} {rest' = zs} e r) = go (beats late rank z y)
    where
      go : (k : Bool) → Follows P xs left (prefer k y ys z zs)
      go true = both e (less y p r)
      go false = alone p th

  -- The same node x is put in front on both sides. Where the right had chosen z alone and z does not go before x, neither does any
  -- node of the left: they stand on the right too, so that their ranks are no less than z's.
  follow-same :
      {xs ys : List N} {left right : Choice N} (x : N) → Thin P xs ys → ChosenOf rank xs left → ChosenOf rank ys right
      → Follows P xs left right → Follows P (x ∷ xs) (against late rank x xs left) (against late rank x ys right)
  unfolding against prefer
  follow-same x th p q (neither e) = rw e (both refl th)
  follow-same {xs} {ys} {left} x th p q (alone {b = z} {rest = zs} pz r) = go (beats late rank z x) (λ h. h)
    where
      go :
          (k : Bool) → (T (not k) → T (not (beats late rank z x)))
          → Follows P (x ∷ xs) (against late rank x xs left) (prefer k x ys z zs)
      go true h = alone pz (same x r)
      go false h = both (front_chosen rank late x xs z (λ w m. q.least w (thin_in th w m)) (h tt) left p) th
  follow-same {xs} {ys} x th p q (both {b = z} {rest = ws} {rest' = zs} e r) = rw e (go (beats late rank z x))
    where
      go : (k : Bool) → Follows P (x ∷ xs) (prefer k x xs z ws) (prefer k x ys z zs)
      go true = both refl (same x r)
      go false = both refl th

  follows : {xs ys : List N} → Thin P xs ys → Follows P xs (pick late rank xs) (pick late rank ys)
  unfolding pick
  follows nil = neither refl
  follows (same {xs} {ys} x th) = follow-same x th (picked rank late xs) (picked rank late ys) (follows th)
  follows (less y p th) = follow_less y p th (follows th)

  -- the same, of a choice that is known
  pub thin_pick : {xs ys : List N} {right : Choice N} → Thin P xs ys → pick late rank ys ≡ right → Follows P xs (pick late rank xs) right
  thin_pick {xs} th e = subst (Follows P xs (pick late rank xs)) e (follows th)
