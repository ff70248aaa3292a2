-- Legs, path costs and the cost of an order: document 01, "Legs and orders" and "Nodes". A leg here is what it counts to fly it, its landing
-- included (requests A.4 and A.5, `flying` and `counted` in Tables).
use Rattle.std.specs.Prelude.{List, [], ◌∷◌, ℕ, ◌+◌, get_or}
use Rattle.orders.specs.Orders.{Node, last}

-- The costs that a day reckons with: of flying i to j, and of the leg home from s.
pub record Legs : Type 0 where
  pub leg : ℕ → ℕ → ℕ
  pub home : ℕ → ℕ

unfoldable pub row_leg : List (List ℕ) → ℕ → ℕ → ℕ
row_leg r i j = get_or (get_or r i []) j 0

unfoldable pub legs : List (List ℕ) → Legs
legs r = record { leg = row_leg r; home = λ s. row_leg r s 0 }

-- the path cost of the stops x flown from a place
abbrev pub path_from : Legs → ℕ → Node → ℕ
path_from L place [] = 0
path_from L place (s ∷ x) = L.leg place s + path_from L s x

-- A node is flown from home, place 0. The leg home is no part of its path cost, whether it is complete or not.
unfoldable pub path : Legs → Node → ℕ
path L x = path_from L 0 x

-- an order costs its path and the leg home from its last stop
unfoldable pub cost : Legs → Node → ℕ
cost L x = path L x + L.home (last x)
