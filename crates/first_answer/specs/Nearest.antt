-- The nearest-stop order: document 02, A.1. It is over any legs, and over any test of which nodes are allowed.
use Rattle.std.specs.Prelude.{Bool, cond, List, [], ◌∷◌, ℕ, zero, suc, ltb}
use Rattle.lists.specs.Lists.{keep}
use Rattle.orders.specs.Orders.{Node, left, last, extend}
use Rattle.stops.specs.Legs.{Legs}

-- of x and the elements of xs the one with the least f, the first of equals
abbrev pub cheapest : {A : Type 0} → (A → ℕ) → A → List A → A
cheapest f x [] = x
cheapest f x (y ∷ ys) = cheapest f (cond (ltb (f y) (f x)) y x) ys

-- x and, of some stops, the one with the cheapest leg from where x ends; x alone if there is none
abbrev pub to_nearest : Legs → Node → List ℕ → Node
to_nearest L x [] = x
to_nearest L x (s ∷ ss) = extend x (cheapest (L.leg (last x)) s ss)

-- the stops that may be flown behind x, ascending
unfoldable pub next_stops : ℕ → (Node → Bool) → Node → List ℕ
next_stops n allowed x = keep (λ s. allowed (extend x s)) (left n x)

module _ (n : ℕ) (L : Legs) (allowed : Node → Bool) where
  -- x and up to k stops more, each the nearest
  abbrev pub onward : ℕ → Node → Node
  onward zero x = x
  onward (suc k) x = onward k (to_nearest L x (next_stops n allowed x))

  -- from home, all n stops; fewer, where at some place no stop may be flown
  unfoldable pub nearest : Node
  nearest = onward n []
