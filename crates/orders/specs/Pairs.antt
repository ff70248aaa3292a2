-- Pairs of stops, the first of which is to be flown before the second, and what they leave of the orders and of a node's children: document 02, A.6.
use Rattle.std.specs.Prelude.{Bool, true, not, ◌&&◌, ◌||◌, List, [], ◌∷◌, map, ◌≢◌, ◌↔◌, ℕ, ◌≤◌, T, eqb}
use Rattle.lists.specs.Lists.{In, keep, any, all}
use Rattle.orders.specs.Orders.{Node, flown, left, extend, Order, orders}

-- the pick-up and the drop
abbrev pub Pair : Type 0
Pair = ℕ × ℕ

-- the pairs of a pair file: two bytes each
abbrev pub pairs_of : List ℕ → List Pair
pairs_of [] = []
pairs_of (a ∷ []) = []
pairs_of (a ∷ b ∷ bytes) = (a, b) ∷ pairs_of bytes

-- two pair files have the same pairs, in whatever sequence
abbrev pub OnePairs : List ℕ → List ℕ → Type 0
OnePairs a b = (p : Pair) → In p (pairs_of a) ↔ In p (pairs_of b)

-- Pairs with which every day can be flown: each pick-up is a stop of 1 to n, and none is a drop. (`proofs/` shows that then a node that is not complete
-- has a child.)
pub record Pairing (n : ℕ) (pairs : List Pair) : Type 0 where
  pub only : (p : Pair) → In p pairs → (1 ≤ p.0) × (p.0 ≤ n)
  pub apart : (p q : Pair) → In p pairs → In q pairs → p.1 ≢ q.0

-- in x, b is not met before a
abbrev pub before : ℕ → ℕ → Node → Bool
before a b [] = true
before a b (s ∷ x) = eqb s a || not (eqb s b) && before a b x

-- x has no stop before the one that its pair puts first
unfoldable pub respects : List Pair → Node → Bool
respects pairs x = all (λ p. before p.0 p.1 x) pairs

-- an order of 1 to n that respects the pairs
pub record Allowed (n : ℕ) (pairs : List Pair) (x : Node) : Type 0 where
  pub order : Order n x
  pub respected : T (respects pairs x)

-- of the n! orders those that respect the pairs
unfoldable pub orders_with : ℕ → List Pair → List Node
orders_with n pairs = keep (respects pairs) (orders n)

-- with the stops of rest to come, s has to wait: a pair puts another of them before it
unfoldable pub waits : List Pair → List ℕ → ℕ → Bool
waits pairs rest s = any (λ p. eqb s p.1 && flown rest p.0) pairs

-- those that need not wait
unfoldable pub ready : List Pair → List ℕ → List ℕ
ready pairs rest = keep (λ s. not (waits pairs rest s)) rest

-- The children of a node: it is extended by each stop that it leaves and that need not wait, in ascending stop order. (`proofs/` shows that these are
-- just the extensions that respect the pairs.)
unfoldable pub children : ℕ → List Pair → Node → List Node
children n pairs x = map (extend x) (ready pairs (left n x))
