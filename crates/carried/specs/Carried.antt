-- The close bound of a node's children, carried along from the node: document 02, A.7. The node ends at a place and leaves the stops of rest; its
-- child by k leaves that place behind, is at k, and leaves the others. What a child so gets is document 01's close bound (`CarriedIsClose`).
use Rattle.std.specs.Prelude.{◌≡◌, Bool, true, cond, List, ℕ, ◌+◌, ◌-◌, eqb}
use Rattle.lists.specs.Lists.{In, sum, least, without}
use Rattle.orders.specs.Orders.{Node, left, last, complete}
use Rattle.orders.specs.Pairs.{Pair, children}
use Rattle.stops.specs.Tables.{rows}
use Rattle.stops.specs.Legs.{Legs, legs, path, cost}
use Rattle.stops.specs.Bounds.{cheapest_into, close, is_close, ends_away}
use Rattle.stops.specs.Stops.{day_on}

-- the sum that a node holds: for each stop left, its share, which is the cheapest leg into it
unfoldable pub held_sum : Legs → ℕ → List ℕ → ℕ
held_sum L place rest = sum (cheapest_into L place rest) rest

-- of the legs into s from another one of the stops left, the cheapest
unfoldable pub among : Legs → List ℕ → ℕ → ℕ
among L rest s = least (λ r. L.leg r s) (without s rest)

-- the share of s came from the place
unfoldable pub from_place : Legs → ℕ → List ℕ → ℕ → Bool
from_place L place rest s = eqb (cheapest_into L place rest s) (L.leg place s)

-- How much dearer the cheapest leg into s is once that place is left behind; nothing, unless the share came from there. It is the same for every child: the
-- flown stop was left before and is the child's place now, so that legs from it count as they did.
unfoldable pub correction : Legs → ℕ → List ℕ → ℕ → ℕ
correction L place rest s = cond (from_place L place rest s) (among L rest s - cheapest_into L place rest s) 0

-- the child's sum: the share of k, which is part of the node's sum, taken away, and the other stops corrected
unfoldable pub carried_sum : Legs → ℕ → List ℕ → ℕ → ℕ
carried_sum L place rest k = held_sum L place rest - cheapest_into L place rest k + sum (correction L place rest) (without k rest)

-- the child's cheapest leg home: the node's, looked for again only if k gave it
unfoldable pub carried_home : Legs → List ℕ → ℕ → ℕ
carried_home L rest k = cond (eqb (L.home k) (least L.home rest)) (least L.home (without k rest)) (least L.home rest)

-- what is carried to the child by k: its sum and its cheapest leg home
unfoldable pub carried : Legs → ℕ → List ℕ → ℕ → ℕ
carried L place rest k = carried_sum L place rest k + carried_home L rest k

-- the bound of a child y of x: its path cost and what is carried to it; its cost if it is complete
unfoldable pub carried_bound : ℕ → Legs → Node → Node → ℕ
carried_bound n L x y = cond (complete n y) (cost L y) (path L y + carried L (last x) (left n x) (last y))

-- Request A.7's claim. Whatever the legs and the pairs are, that is the close bound of every child of every node.
abbrev pub CarriedIsClose : Type 0
CarriedIsClose = (n : ℕ) (pairs : List Pair) (L : Legs) (x y : Node) → In y (children n pairs x) → close n L y ≡ carried_bound n L x y

-- So it is on the day of every table, with its landing charges, whether it ends at home or away.
abbrev pub CarriedOnEveryDay : Type 0
CarriedOnEveryDay =
    (n bound : ℕ) (table : List ℕ) (pairs : List Pair) (x y : Node) → is_close bound ≡ true → In y (children n pairs x)
    → let t = rows n (ends_away bound) table in (day_on n t).bound bound y ≡ carried_bound n (legs t) x y
