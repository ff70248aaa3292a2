-- A day that ends away, at its last stop, as request A.5 words it, over any legs: its orders and its bounds are reckoned without a leg home.
-- The planner's day for bounds 2 and 3 has its rows with zeros for the legs home (`rows`); proofs/ shows that its figures are these, by the legs
-- of the same table's day that ends at home.
use Rattle.std.specs.Prelude.{cond, List, ℕ, ◌+◌}
use Rattle.lists.specs.Lists.{sum}
use Rattle.orders.specs.Orders.{Node, left, last}
use Rattle.days.specs.Days.{Day}
use Rattle.stops.specs.Legs.{Legs, legs, path}
use Rattle.stops.specs.Bounds.{is_close, cheapest_into, dominates}

-- close: the path cost and, for each stop that is left, the cheapest leg into it; of a complete node, which leaves none, the path cost
unfoldable pub close_away : ℕ → Legs → Node → ℕ
close_away n L x = path L x + sum (cheapest_into L (last x) (left n x)) (left n x)

-- an order costs its path; plain is the path cost, at complete nodes too
unfoldable pub day_away : ℕ → Legs → Day
day_away n L = record { path = path L; cost = path L; bound = λ k x. cond (is_close k) (close_away n L x) (path L x); dominates = dominates n L }

unfoldable pub day_away_on : ℕ → List (List ℕ) → Day
day_away_on n rows = day_away n (legs rows)
