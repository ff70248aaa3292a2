-- Laws of the exchanges of a node, and of the best of them.
--   exchanges_are, exchanges_in     each exchanges the stops at two positions p < q, and all of these are there
--   best_exchange-least              no allowed exchange is cheaper than the best
--   best_exchange-order, best_exchange-allowed    the best exchange of an order is an order, and of what is allowed it is allowed
use mathlib.Core.Path.{◌≡◌, sym, subst}
use mathlib.Core.Bool.{Bool}
use mathlib.Core.List.Memᴰ
use mathlib.Core.Logic.{◌⊎◌, inl, inr}
use Prim.Native.Nat.{ℕ, suc, ◌+◌, ◌-◌, ◌≤◌, ◌<◌}
use native.Mathlib.Omega.{arith}
use lib.Dec.{T}
use lib.ListN.{length}
use Rattle.lists.specs.Lists.{In, keep, from}
use Rattle.lists.proofs.Members.{in_keep, keep_in, in_map, map_in, in_each, each_in, in_from, from_in}
use Rattle.orders.specs.Orders.{Node, Order}
use Rattle.stops.specs.Legs.{Legs, cost}
use Rattle.first_answer.specs.Exchanges.{exchanged, behind, exchanges, best_exchange}
use Rattle.first_answer.proofs.Cheapest.{cheapest_in, cheapest-least}
use Rattle.first_answer.proofs.Exchanged.{exchanged-order}

-- the positions p < q whose exchange y is
abbrev Exchanges : Node → Node → Type 0
Exchanges x y = (p : ℕ) × (q : ℕ) × (p < q) × (q < length x) × (y ≡ exchanged x p q)

module _ (x : Node) where
  exchanges_are : (y : Node) → In y (exchanges x) → Exchanges x y
  unfolding exchanges behind
  exchanges_are y m =
      let (p, i, j) = in_each (λ p. behind x p (suc p)) (from 0 (length x)) y m in
      let (q, k, e) = in_map (exchanged x p) (from (suc p) (length x - suc p)) y j in
      let a : (0 ≤ p) × (p < 0 + length x) = in_from 0 (length x) p i in
      let b : (suc p ≤ q) × (q < suc p + (length x - suc p)) = in_from (suc p) (length x - suc p) q k in
      (p, q, omega arith, omega arith, e)

  exchanges_in : (p q : ℕ) → p < q → q < length x → In (exchanged x p q) (exchanges x)
  unfolding exchanges behind
  exchanges_in p q h k =
      each_in (λ p. behind x p (suc p)) (from 0 (length x)) p (exchanged x p q) (from_in 0 (length x) p (omega arith) (omega arith))
      (map_in (exchanged x p) (from_in (suc p) (length x - suc p) q h (omega arith)))

module _ (L : Legs) (allowed : Node → Bool) (x : Node) where
  -- the best exchange is x, or one of the allowed exchanges
  best_exchange_is : (best_exchange L allowed x ≡ x) ⊎ (Exchanges x (best_exchange L allowed x) × T (allowed (best_exchange L allowed x)))
  unfolding best_exchange
  best_exchange_is = go (Memᴰ.cases_cons (cheapest_in (cost L) x (keep allowed (exchanges x))))
    where
      go :
          (best_exchange L allowed x ≡ x) ⊎ In (best_exchange L allowed x) (keep allowed (exchanges x))
          → (best_exchange L allowed x ≡ x) ⊎ (Exchanges x (best_exchange L allowed x) × T (allowed (best_exchange L allowed x)))
      go (inl e) = inl e
      go (inr m) = let (i, a) = in_keep allowed (exchanges x) (best_exchange L allowed x) m in inr (exchanges_are x (best_exchange L allowed x) i, a)

  pub best_exchange-least :
      (p q : ℕ) → p < q → q < length x → T (allowed (exchanged x p q)) → cost L (best_exchange L allowed x) ≤ cost L (exchanged x p q)
  unfolding best_exchange
  best_exchange-least p q h k a =
      cheapest-least (cost L) x (keep allowed (exchanges x)) (exchanged x p q)
      (Memᴰ.tail (keep_in allowed (exchanges x) (exchanged x p q) (exchanges_in x p q h k) a))

  pub best_exchange-order : (n : ℕ) → Order n x → Order n (best_exchange L allowed x)
  best_exchange-order n o = go best_exchange_is
    where
      go :
          (best_exchange L allowed x ≡ x) ⊎ (Exchanges x (best_exchange L allowed x) × T (allowed (best_exchange L allowed x)))
          → Order n (best_exchange L allowed x)
      go (inl e) = subst (Order n) (sym e) o
      go (inr ((p, q, h, k, e), a)) = subst (Order n) (sym e) (exchanged-order x p q (omega arith) k n o)

  pub best_exchange-allowed : T (allowed x) → T (allowed (best_exchange L allowed x))
  best_exchange-allowed h = go best_exchange_is
    where
      go :
          (best_exchange L allowed x ≡ x) ⊎ (Exchanges x (best_exchange L allowed x) × T (allowed (best_exchange L allowed x)))
          → T (allowed (best_exchange L allowed x))
      go (inl e) = subst (λ (y : Node). T (allowed y)) (sym e) h
      go (inr (i, a)) = a
