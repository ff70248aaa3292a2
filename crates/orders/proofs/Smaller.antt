-- The comparison of orders stop by stop (`smaller`, request A.8): a total order of all lists.
--   one_way, irreflexive    never both ways round, hence no node is smaller than itself
--   total, not_larger       two nodes are the same, or one of them is the smaller; so is the first, where the second is not
--   between, through        what is smaller than x is smaller than y, unless y is smaller than x; so "not smaller" is transitive
--   smaller-behind          of nodes of one length: the same stops behind both change nothing
--   tied_le, le_tied        a number less or, where it is the same, the order smaller: as a test says it, and as two laws
use mathlib.Core.Path.{◌≡◌, refl, ap, ap₂, sym, ◌∙◌}
use mathlib.Core.Bool.{Bool, ◌&&◌, ◌||◌}
use mathlib.Core.List.{[], ◌∷◌, ◌++◌}
use mathlib.Core.Logic.{◌⊎◌, inl, inr, ◌≢◌}
use Prim.Native.Nat.{ℕ, ◌≤◌, ◌<◌}
use native.Mathlib.Omega.{arith}
use lib.Dec.{T, not_T, ltb, eqb}
use lib.ListN.{length}
use Rattle.lists.proofs.Tests.{to_false, compared, ordered, Tied, tied_cases, cases_tied}
use Rattle.orders.specs.Orders.{Node, smaller, NoLarger}
use Rattle.orders.specs.Examples

-- one of two numbers is the lesser, or they are the same
sides : (s t : ℕ) → (s < t) ⊎ ((s ≡ t) ⊎ (t < s))
sides s t = go (ordered s t) (ordered t s)
  where
    go : (s ≤ t) ⊎ (t < s) → (t ≤ s) ⊎ (s < t) → (s < t) ⊎ ((s ≡ t) ⊎ (t < s))
    go (inl a) (inl b) = inr (inl (omega arith))
    go (inl a) (inr b) = inl b
    go (inr a) b = inr (inr a)

pub one_way : (x y : Node) → T (smaller x y) → T (smaller y x) → ⊥
one_way [] [] h k = h
one_way [] (t ∷ y) h k = k
one_way (s ∷ x) [] h k = h
one_way (s ∷ x) (t ∷ y) h k = go (tied_cases s t (smaller x y) h) (tied_cases t s (smaller y x) k) (one_way x y)
  where
    go : Tied s t (smaller x y) → Tied t s (smaller y x) → (T (smaller x y) → T (smaller y x) → ⊥) → ⊥
    go (inl a) (inl b) again = omega arith
    go (inl a) (inr (e, b)) again = omega arith
    go (inr (e, a)) (inl b) again = omega arith
    go (inr (e, a)) (inr (f, b)) again = again a b

pub irreflexive : (x : Node) → T (smaller x x) → ⊥
irreflexive x h = one_way x x h h

pub total : (x y : Node) → (x ≡ y) ⊎ (T (smaller x y) ⊎ T (smaller y x))
total [] [] = inl refl
total [] (t ∷ y) = inr (inl tt)
total (s ∷ x) [] = inr (inr tt)
total (s ∷ x) (t ∷ y) = go (sides s t) (total x y)
  where
    go :
        (s < t) ⊎ ((s ≡ t) ⊎ (t < s)) → (x ≡ y) ⊎ (T (smaller x y) ⊎ T (smaller y x))
        → (s ∷ x ≡ t ∷ y) ⊎ (T (smaller (s ∷ x) (t ∷ y)) ⊎ T (smaller (t ∷ y) (s ∷ x)))
    go (inl l) rest = inr (inl (cases_tied s t (smaller x y) (inl l)))
    go (inr (inl e)) (inl r) = inl (ap₂ ◌∷◌ e r)
    go (inr (inl e)) (inr (inl r)) = inr (inl (cases_tied s t (smaller x y) (inr (e, r))))
    go (inr (inl e)) (inr (inr r)) = inr (inr (cases_tied t s (smaller y x) (inr (sym e, r))))
    go (inr (inr l)) rest = inr (inr (cases_tied t s (smaller y x) (inl l)))

pub not_larger : (x y : Node) → (T (smaller y x) → ⊥) → NoLarger x y
not_larger x y h = go (total x y)
  where
    go : (x ≡ y) ⊎ (T (smaller x y) ⊎ T (smaller y x)) → NoLarger x y
    go (inl e) = inl e
    go (inr (inl k)) = inr k
    go (inr (inr k)) = absurd (h k)

between : (x y z : Node) → T (smaller z x) → T (smaller z y) ⊎ T (smaller y x)
between [] y [] h = absurd h
between [] y (u ∷ z) h = absurd h
between (s ∷ x) [] z h = inr tt
between (s ∷ x) (t ∷ y) [] h = inl tt
between (s ∷ x) (t ∷ y) (u ∷ z) h = go (sides u t) (tied_cases u s (smaller z x) h) (between x y z)
  where
    go :
        (u < t) ⊎ ((u ≡ t) ⊎ (t < u)) → Tied u s (smaller z x) → (T (smaller z x) → T (smaller z y) ⊎ T (smaller y x))
        → T (smaller (u ∷ z) (t ∷ y)) ⊎ T (smaller (t ∷ y) (s ∷ x))
    go (inl l) k again = inl (cases_tied u t (smaller z y) (inl l))
    go (inr (inl e)) (inl k) again = inr (cases_tied t s (smaller y x) (inl (omega arith)))
    go (inr (inl e)) (inr (f, k)) again = rest (again k)
      where
        rest : T (smaller z y) ⊎ T (smaller y x) → T (smaller (u ∷ z) (t ∷ y)) ⊎ T (smaller (t ∷ y) (s ∷ x))
        rest (inl r) = inl (cases_tied u t (smaller z y) (inr (e, r)))
        rest (inr r) = inr (cases_tied t s (smaller y x) (inr (sym e ∙ f, r)))
    go (inr (inr l)) (inl k) again = inr (cases_tied t s (smaller y x) (inl (omega arith)))
    go (inr (inr l)) (inr (f, k)) again = inr (cases_tied t s (smaller y x) (inl (omega arith)))

pub through : (x y z : Node) → (T (smaller y x) → ⊥) → (T (smaller z y) → ⊥) → T (smaller z x) → ⊥
through x y z not-yx not-zy h = go (between x y z h)
  where
    go : T (smaller z y) ⊎ T (smaller y x) → ⊥
    go (inl k) = not-zy k
    go (inr k) = not-yx k

pub smaller-behind : (w x z : Node) → length w ≡ length x → smaller (w ++ z) (x ++ z) ≡ smaller w x
smaller-behind [] [] z e = to_false (smaller z z) (not_T (smaller z z) (irreflexive z))
smaller-behind [] (t ∷ x) z e = absurd (omega arith)
smaller-behind (s ∷ w) [] z e = absurd (omega arith)
smaller-behind (s ∷ w) (t ∷ x) z e = ap (λ (b : Bool). ltb s t || eqb s t && b) (smaller-behind w x z (omega arith))

pub tied_le : (a b : ℕ) (x y : Node) → Tied a b (smaller x y) → (a ≤ b) × (a ≡ b → T (smaller y x) → ⊥)
tied_le a b x y (inl l) = (omega arith, λ e h. omega arith)
tied_le a b x y (inr (e, k)) = (omega arith, λ f h. one_way x y k h)

pub le_tied : (a b : ℕ) (x y : Node) → a ≤ b → (a ≡ b → T (smaller y x) → ⊥) → (x ≡ y) ⊎ Tied a b (smaller x y)
le_tied a b x y low tie = go (compared a b)
  where
    same : a ≡ b → NoLarger x y → (x ≡ y) ⊎ Tied a b (smaller x y)
    same e (inl k) = inl k
    same e (inr k) = inr (inr (e, k))

    go : (a ≡ b) ⊎ (a ≢ b) → (x ≡ y) ⊎ Tied a b (smaller x y)
    go (inl e) = same e (not_larger x y (tie e))
    go (inr apart) = inr (inl (omega arith))
