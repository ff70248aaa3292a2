-- Orders and nodes: document 01, "Legs and orders" and "Nodes", as far as they need no leg; document 02, A.8.
-- A node is a partial order: the list of its stops as they are flown. The empty one, e, is [].
use Rattle.std.specs.Prelude.{◌≡◌, Bool, true, false, not, ◌&&◌, ◌||◌, List, [], ◌∷◌, ◌++◌, map, ◌⊎◌, ℕ, zero, suc, ◌+◌, ◌*◌, ◌-◌, ◌^◌, ◌≤◌, T, ltb, eqb, length}
use Rattle.lists.specs.Lists.{In, keep, any, all, sum, from, each, Distinct}

abbrev pub Node : Type 0
Node = List ℕ

-- the stops 1 to n
abbrev pub stops : ℕ → List ℕ
stops n = from 1 n

-- stop s is flown in x
unfoldable pub flown : Node → ℕ → Bool
flown x s = any (eqb s) x

-- the set of x: the stops of 1 to n that it flies, ascending; and those that it leaves
unfoldable pub set_of : ℕ → Node → List ℕ
set_of n x = keep (flown x) (stops n)

unfoldable pub left : ℕ → Node → List ℕ
left n x = keep (λ s. not (flown x s)) (stops n)

-- a set of stops as a word: bit s-1 is stop s's
unfoldable pub mask : List ℕ → ℕ
mask stops = sum (λ s. 2 ^ (s - 1)) stops

-- where a node ends: its last stop, and home, place 0, for e
abbrev pub last_from : ℕ → Node → ℕ
last_from place [] = place
last_from place (s ∷ x) = last_from s x

unfoldable pub last : Node → ℕ
last x = last_from 0 x

-- x is smaller than y in comparison stop by stop (request A.8): where they first differ, x has the lesser stop, or ends
abbrev pub smaller : Node → Node → Bool
smaller [] [] = false
smaller [] (t ∷ y) = true
smaller (s ∷ x) [] = false
smaller (s ∷ x) (t ∷ y) = ltb s t || eqb s t && smaller x y

-- x is y, or the smaller of the two
abbrev pub NoLarger : Node → Node → Type 0
NoLarger x y = (x ≡ y) ⊎ T (smaller x y)

-- how many stops of 1 to n it flies, and whether it flies all
unfoldable pub size : ℕ → Node → ℕ
size n x = length (set_of n x)

unfoldable pub complete : ℕ → Node → Bool
complete n x = eqb (size n x) n

-- a node with one more stop behind; and a node extended by each stop that it leaves, ascending
abbrev pub extend : Node → ℕ → Node
extend x s = x ++ (s ∷ [])

unfoldable pub extensions : ℕ → Node → List Node
extensions n x = map (extend x) (left n x)

-- a partial order of 1 to n
pub record Partial (n : ℕ) (x : Node) : Type 0 where
  pub once : Distinct x
  pub only : (s : ℕ) → In s x → (1 ≤ s) × (s ≤ n)

-- an order of 1 to n
pub record Order (n : ℕ) (x : Node) : Type 0 where
  -- no stop stands twice
  pub once : Distinct x
  -- nothing but 1 to n
  pub only : (s : ℕ) → In s x → (1 ≤ s) × (s ≤ n)
  -- each of 1 to n
  pub every : (s : ℕ) → 1 ≤ s → s ≤ n → In s x

-- The same as a test: each of 1 to n stands in x exactly once, and nothing else does.
unfoldable pub count : ℕ → Node → ℕ
count s x = length (keep (eqb s) x)

unfoldable pub is_order : ℕ → Node → Bool
is_order n x = all (λ s. eqb (count s x) 1) (stops n) && all (flown (stops n)) x

-- The n! orders: e extended n times in every way. (`proofs/` shows that these are the orders, each once, and that there are n!.)
unfoldable pub level : ℕ → ℕ → List Node
level n zero = [] ∷ []
level n (suc k) = each (extensions n) (level n k)

unfoldable pub orders : ℕ → List Node
orders n = level n n

abbrev pub factorial : ℕ → ℕ
factorial zero = 1
factorial (suc n) = suc n * factorial n

-- How many nodes stand at or below a node that leaves m stops: itself and, for each of the m stops, as many as at or below a node
-- that leaves m - 1.
abbrev pub nodes : ℕ → ℕ
nodes zero = 1
nodes (suc m) = 1 + suc m * nodes m
