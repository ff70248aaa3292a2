-- The two lower bounds and dominance: document 01, "Nodes"; document 02, A.5 and A.8.
use Rattle.std.specs.Prelude.{Bool, not, ◌&&◌, ◌||◌, cond, List, ◌∷◌, ℕ, ◌+◌, leb, ltb, eqb}
use Rattle.lists.specs.Lists.{sum, least, without, same}
use Rattle.orders.specs.Orders.{Node, set_of, left, last, smaller, complete}
use Rattle.stops.specs.Legs.{Legs, path, cost}

-- plain: the path cost, and the leg home where no stop is left
unfoldable pub plain : ℕ → Legs → Node → ℕ
plain n L x = cond (complete n x) (cost L x) (path L x)

-- of the legs into s from the place of a node or from one of the other stops that it leaves, the cheapest
unfoldable pub cheapest_into : Legs → ℕ → List ℕ → ℕ → ℕ
cheapest_into L place rest s = least (λ r. L.leg r s) (place ∷ without s rest)

-- such a leg for each stop that is left, and the cheapest leg home from one of them
unfoldable pub remainder : Legs → ℕ → List ℕ → ℕ
remainder L place rest = sum (cheapest_into L place rest) rest + least L.home rest

-- close: the path cost and the remainder; of a complete node, as plain
unfoldable pub close : ℕ → Legs → Node → ℕ
close n L x = cond (complete n x) (cost L x) (path L x + remainder L (last x) (left n x))

-- Bounds 0 and 1 are plain and close for a day that ends at home; 2 and 3 are plain and close for one that ends away (request A.5), whose legs
-- home count nothing (`rows`). Any other number is refused before the run.
unfoldable pub ends_away : ℕ → Bool
ends_away bound = leb 2 bound

unfoldable pub is_close : ℕ → Bool
is_close bound = eqb bound 1 || eqb bound 3

unfoldable pub bound_by : ℕ → ℕ → Legs → Node → ℕ
bound_by bound n L x = cond (is_close bound) (close n L x) (plain n L x)

-- y dominates z: two nodes, one set, one last stop, and y's path is the cheaper or, where both cost the same, y's order the smaller (request A.8)
unfoldable pub dominates : ℕ → Legs → Node → Node → Bool
dominates n L y z =
    not (same y z) && same (set_of n y) (set_of n z) && eqb (last y) (last z)
    && (ltb (path L y) (path L z) || eqb (path L y) (path L z) && smaller y z)
