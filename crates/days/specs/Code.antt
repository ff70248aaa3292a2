-- A day as a walk, the way the code reckons it: a node is at a place, and all that its children and its bound ask of it is that place and
-- the stops that it leaves. `Walk` in proofs/ says what ties a reckoning to its day.
use Rattle.std.specs.Prelude.{List, ℕ}
use Rattle.orders.specs.Orders.{Node}

pub record Reckoning : Type 0 where
  -- where a node is
  pub place : Node → ℕ
  -- what a stop adds to the path cost at a place, and where it leads
  pub further : ℕ → ℕ → ℕ
  pub after : ℕ → ℕ → ℕ
  -- what a bound adds to the path cost at a place, with the stops of a list to come
  pub ahead : ℕ → ℕ → List ℕ → ℕ
