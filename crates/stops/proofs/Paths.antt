-- Laws of path costs, and of the cost of an order.
--   path-extend               what one more stop does to one
--   dominates-same            of the legs only the path costs tell which node dominates which
--   path_small, cost_small    how large path cost and cost can be where no leg is above m (`Within`)
--   Spent, spent_none, spent_more, spent_whole    the cost of an order, added up leg by leg
--   partial_reckonable           what adding it up asks (`Reckonable`) holds of partial orders
use mathlib.Core.Path.{◌≡◌, refl}
use mathlib.Core.List.{List, [], ◌∷◌, ◌++◌}
use Prim.Native.Nat.{ℕ, suc, ◌+◌, ◌*◌, ◌≤◌, ◌<◌}
use native.Mathlib.Numerals.{add-one}
use native.Mathlib.Omega.{arith}
use lib.ListN.{length, get_or, drop, drop_of_length-le}
use lib.Seq.{drop-cons}
use Rattle.sizes.specs.Sizes.{most_stops}
use Rattle.orders.specs.Orders.{Node, last_from, last, extend, Partial}
use Rattle.orders.proofs.Sets.{size-left}
use Rattle.orders.proofs.Partial.{partial_size}
use Rattle.stops.specs.Legs.{Legs, path_from, path, cost}
use Rattle.stops.specs.Bounds.{dominates}
use Rattle.stops.specs.Code.{Within, Cheap, Reckonable}
use Rattle.stops.specs.Examples

module _ (L : Legs) where
  path_from-append : (place : ℕ) (x y : Node) → path_from L place (x ++ y) ≡ path_from L place x + path_from L (last_from place x) y
  path_from-append place [] y = omega arith
  path_from-append place (s ∷ x) y = omega (arith, path_from-append s x y)

  path-append : (x y : Node) → path L (x ++ y) ≡ path L x + path_from L (last x) y
  unfolding path last
  path-append x y = path_from-append 0 x y

  pub path-extend : (x : Node) (s : ℕ) → path L (extend x s) ≡ path L x + L.leg (last x) s
  path-extend x s = omega (arith, path-append x (s ∷ []))

pub dominates-same : (n : ℕ) (L M : Legs) (y z : Node) → path L y ≡ path M y → path L z ≡ path M z → dominates n L y z ≡ dominates n M y z
unfolding dominates
dominates-same n L M y z p q = rw (p, q) refl

module _ (m : ℕ) (L : Legs) (w : Within m L) where
  path_from_small : (place : ℕ) (x : Node) → path_from L place x ≤ length x * m
  path_from_small place [] = omega arith
  path_from_small place (s ∷ x) = omega (arith, w.leg place s, path_from_small s x)

  pub path_small : (x : Node) → path L x ≤ length x * m
  unfolding path
  path_small x = path_from_small 0 x

  pub cost_small : (x : Node) → cost L x ≤ suc (length x) * m
  unfolding cost
  cost_small x = omega (arith, path_small x, w.home (last x))

-- After the first k stops of x, at a place: what is spent, and what the other stops and the leg home take from there, make the cost.
pub record Spent (L : Legs) (x : Node) (spent place k : ℕ) : Type 0 where
  pub same : spent + (path_from L place (drop k x) + L.home (last_from place (drop k x))) ≡ cost L x

module _ {L : Legs} {x : Node} where
  pub spent_none : Spent L x 0 0 0
  unfolding cost path last
  spent_none = record { same = omega arith }

  module _ {spent place k : ℕ} (h : Spent L x spent place k) where
    pub spent_more : k < length x → Spent L x (spent + L.leg place (get_or x k 0)) (get_or x k 0) (k + 1)
    spent_more i = record { same = rw (add-one k) (omega (arith, rw (drop-cons x k 0 i) at h.same)) }

    pub spent_whole : length x ≤ k → spent + L.home place ≡ cost L x
    spent_whole i = omega (arith, rw (drop_of_length-le x i) at h.same)

pub partial_reckonable : {n : ℕ} {rows : List (List ℕ)} {x : Node} → n ≤ most_stops → Cheap rows → Partial n x → Reckonable rows x
partial_reckonable {n} {x = x} h cheap p = record {
  cheap = cheap;
  few = omega (arith, partial_size n x p, size-left n x);
  near = λ s m. omega (arith, p.only s m);
}
