-- What is searched, what a caller may choose, and the state of a run: document 01, "Nodes" and "One run", over any nodes N.
-- The stops of a table are an instance (crate `stops`).
use Rattle.std.specs.Prelude.{Bool, List, [], ◌∷◌, ℕ}
use Rattle.std.proofs.Math.Option.{Option, none, some}

pub record Problem (N : Type 0) : Type 0 where
  -- the empty node, e
  pub root : N
  -- the node extended by each stop not flown, in ascending stop order
  pub children : N → List N
  pub complete : N → Bool
  -- the cost of a complete node's order
  pub cost : N → ℕ
  -- y dominates z: `dominates y z`
  pub dominates : N → N → Bool
  -- y's order is smaller than z's, stop by stop: `smaller y z` (request A.8)
  pub smaller : N → N → Bool
  -- above every cost
  pub above : ℕ

pub record Choices (N : Type 0) : Type 0 where
  -- 0 to 3
  pub selection : ℕ
  -- the sum of the rules that are on, 0 to 15
  pub rules : ℕ
  -- the lower bound
  pub bound : N → ℕ
  -- how many nodes may be branched (request A.3)
  pub budget : ℕ

-- What a run stands at between two steps. U is the cost of `best` (`upper`).
pub record State (N : Type 0) : Type 0 where
  -- earliest generated first
  pub active : List N
  -- earliest branched first
  pub branched : List N
  -- the cheapest order known, of those that cost the same the smallest (request A.8), if there is one
  pub best : Option N
  pub generated : ℕ
  pub eliminated : ℕ
  pub most : ℕ

-- U: the cost of the best order known; while none is known, more than any order costs
abbrev pub upper : {N : Type 0} → Problem N → Option N → ℕ
upper P none = P.above
upper P (some x) = P.cost x

-- A run starts with e alone, which counts as generated; `best` is the starting order, if one is given.
unfoldable pub start : {N : Type 0} → Problem N → Option N → State N
start P best = record { active = P.root ∷ []; branched = []; best = best; generated = 1; eliminated = 0; most = 1 }
