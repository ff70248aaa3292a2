-- One stop before another in a node (`before`, request A.6).
--   before_met, met_before    by its words: what stands in front of the second stop has the first
--   before-extend             kept with one more stop, unless that is the second and the first is not flown
--   before-front              kept by the first part of a node
use mathlib.Core.Path.{◌≡◌, ap, sym, subst}
use mathlib.Core.Bool.{true, not, ◌&&◌}
use mathlib.Core.List.Memᴰ
use mathlib.Core.List.{[], ◌∷◌, ◌++◌}
use mathlib.Core.Logic.{◌⊎◌, inl, inr, ◌≢◌}
use Prim.Native.Nat.{ℕ}
use lib.Dec.{T, T_not, eqb, eqb→eq, eqb_refl}
use Rattle.lists.specs.Lists.{In}
use Rattle.lists.proofs.Tests.{and_left, and_right, and_both, or_cases, or_left, or_right, compared, ne_neqb, equal_eqb}
use Rattle.lists.proofs.Members.{in_head, in_behind}
use Rattle.orders.specs.Orders.{Node, extend}
use Rattle.orders.specs.Pairs.{before}
use Rattle.orders.specs.Examples

pub before_met : (a b : ℕ) (y z : Node) → a ≢ b → (In b y → ⊥) → T (before a b (y ++ (b ∷ z))) → In a y
before_met a b [] z apart new h = absurd (go (or_cases (eqb b a) (not (eqb b b) && before a b z) h))
  where
    go : T (eqb b a) ⊎ T (not (eqb b b) && before a b z) → ⊥
    go (inl k) = apart (sym (eqb→eq b a k))
    go (inr k) = T_not (eqb b b) (and_left (not (eqb b b)) (before a b z) k) (eqb_refl b)
before_met a b (s ∷ y) z apart new h =
    go (or_cases (eqb s a) (not (eqb s b) && before a b (y ++ (b ∷ z))) h) (before_met a b y z apart (λ m. new (Memᴰ.tail m)))
  where
    go : T (eqb s a) ⊎ T (not (eqb s b) && before a b (y ++ (b ∷ z))) → (T (before a b (y ++ (b ∷ z))) → In a y) → In a (s ∷ y)
    go (inl k) again = subst (λ (r : ℕ). In r (s ∷ y)) (eqb→eq s a k) in_head
    go (inr k) again = Memᴰ.tail (again (and_right (not (eqb s b)) (before a b (y ++ (b ∷ z))) k))

pub met_before : (a b : ℕ) (x : Node) → ((y z : Node) → x ≡ y ++ (b ∷ z) → In a y) → T (before a b x)
met_before a b [] h = tt
met_before a b (s ∷ x) h = go (compared a s) (compared s b) (met_before a b x)
  where
    go : (a ≡ s) ⊎ (a ≢ s) → (s ≡ b) ⊎ (s ≢ b) → (((y z : Node) → x ≡ y ++ (b ∷ z) → In a y) → T (before a b x)) → T (before a b (s ∷ x))
    go (inl e) c again = or_left (eqb s a) (not (eqb s b) && before a b x) (equal_eqb s a (sym e))
    go (inr n) (inl e) again = absurd (Memᴰ.not-nil (h [] x (ap (λ (r : ℕ). r ∷ x) e)))
    go (inr n) (inr m) again =
        or_right (eqb s a) (not (eqb s b) && before a b x)
        (and_both (not (eqb s b)) (before a b x) (ne_neqb s b m) (again (λ y z e. in_behind (h (s ∷ y) z (ap (λ (l : Node). s ∷ l) e)) n)))

pub before-extend : (a b s : ℕ) (x : Node) → T (before a b x) → (s ≡ b → In a x) → T (before a b (extend x s))
before-extend a b s [] h met = or_right (eqb s a) (not (eqb s b) && true) (and_both (not (eqb s b)) true (go (compared s b)) tt)
  where
    go : (s ≡ b) ⊎ (s ≢ b) → T (not (eqb s b))
    go (inl e) = absurd (Memᴰ.not-nil (met e))
    go (inr e) = ne_neqb s b e
before-extend a b s (r ∷ x) h met = go (or_cases (eqb r a) (not (eqb r b) && before a b x) h) (compared a r) (before-extend a b s x)
  where
    go :
        T (eqb r a) ⊎ T (not (eqb r b) && before a b x) → (a ≡ r) ⊎ (a ≢ r)
        → (T (before a b x) → (s ≡ b → In a x) → T (before a b (extend x s))) → T (before a b (r ∷ extend x s))
    go (inl k) c again = or_left (eqb r a) (not (eqb r b) && before a b (extend x s)) k
    go (inr k) (inl e) again = or_left (eqb r a) (not (eqb r b) && before a b (extend x s)) (equal_eqb r a (sym e))
    go (inr k) (inr e) again =
        or_right (eqb r a) (not (eqb r b) && before a b (extend x s))
        (and_both (not (eqb r b)) (before a b (extend x s)) (and_left (not (eqb r b)) (before a b x) k)
        (again (and_right (not (eqb r b)) (before a b x) k) (λ q. in_behind (met q) e)))

pub before-front : (a b : ℕ) (y z : Node) → T (before a b (y ++ z)) → T (before a b y)
before-front a b [] z h = tt
before-front a b (s ∷ y) z h = go (or_cases (eqb s a) (not (eqb s b) && before a b (y ++ z)) h) (before-front a b y z)
  where
    go : T (eqb s a) ⊎ T (not (eqb s b) && before a b (y ++ z)) → (T (before a b (y ++ z)) → T (before a b y)) → T (before a b (s ∷ y))
    go (inl k) again = or_left (eqb s a) (not (eqb s b) && before a b y) k
    go (inr k) again =
        or_right (eqb s a) (not (eqb s b) && before a b y)
        (and_both (not (eqb s b)) (before a b y) (and_left (not (eqb s b)) (before a b (y ++ z)) k) (again (and_right (not (eqb s b)) (before a b (y ++ z)) k)))
