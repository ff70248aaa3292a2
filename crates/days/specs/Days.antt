-- What a day reckons with, and the search for its cheapest order: document 01, "Nodes" and "One run"; document 02, A.6 and A.8. The stops of a table are a day
-- (crate `stops`).
use Rattle.std.specs.Prelude.{◌≡◌, Bool, List, [], ◌⊎◌, ℕ}
use Rattle.sizes.specs.Sizes.{above_every_cost}
use Rattle.search.specs.Problem.{Problem, Choices}
use Rattle.orders.specs.Orders.{Node, smaller, complete}
use Rattle.orders.specs.Pairs.{Pair, children}

pub record Day : Type 0 where
  -- the path cost of a node
  pub path : Node → ℕ
  -- the cost of an order
  pub cost : Node → ℕ
  -- a node's lower bound, by which bound is chosen
  pub bound : ℕ → Node → ℕ
  -- y dominates z: `dominates y z`
  pub dominates : Node → Node → Bool

-- Bound j is closer than bound k: close (1) than plain (0); and, on a day that ends away (request A.5), close (3) than plain (2). A bound of the one
-- day is never compared with one of the other.
abbrev pub Closer : ℕ → ℕ → Type 0
Closer j k = ((j ≡ 1) × (k ≡ 0)) ⊎ ((j ≡ 3) × (k ≡ 2))

-- the search for a cheapest order of n stops, by the children that a node has
abbrev pub problem_by : (Node → List Node) → ℕ → Day → Problem Node
problem_by kids n D = record {
  root = [];
  children = kids;
  complete = complete n;
  cost = D.cost;
  dominates = D.dominates;
  smaller = smaller;
  above = above_every_cost;
}

-- and of those that respect some pairs (request A.6)
unfoldable pub problem : ℕ → List Pair → Day → Problem Node
problem n pairs D = problem_by (children n pairs) n D

-- the choices of a caller: selection, sum of the rules, bound, and budget (request A.3)
unfoldable pub choices : Day → ℕ → ℕ → ℕ → ℕ → Choices Node
choices D selection rules bound budget = record { selection = selection; rules = rules; bound = D.bound bound; budget = budget }
