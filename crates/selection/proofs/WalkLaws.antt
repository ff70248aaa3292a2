-- Walks from one number to another, from the front or from the end, and what they have passed.
--   nth_in                                     where a walk stands
--   walked_more, walked_all                    what holds of all that is passed: a number further, at the end
--   walked_before                              what comes before a walk's number is passed
--   before_block                               the block of a place that comes before another's, if it is another block
use mathlib.Core.Path.{◌≡◌}
use mathlib.Core.Bool.{Bool, true, false}
use mathlib.Core.Logic.{◌≢◌}
use Prim.Native.Nat.{ℕ, ◌+◌, ◌/◌, ◌≤◌, ◌<◌}
use native.Mathlib.Omega.{arith}
use Rattle.blocks.specs.Code.{Before}
use Rattle.blocks.proofs.BlockLaws.{block_up_to}
use Rattle.blocks.proofs.FindLaws.{but_one}
use Rattle.selection.specs.Code.{nth_of}

-- j is among the first c of those from `from` to `to`
abbrev Passed : Bool → ℕ → ℕ → ℕ → ℕ → Type 0
Passed true from to c j = to ≤ j + c
Passed false from to c j = j < from + c

-- Q holds of the first c
abbrev pub Walked : Bool → ℕ → ℕ → ℕ → (ℕ → Type 0) → Type 0
Walked late from to c Q = (j : ℕ) → from ≤ j → j < to → Passed late from to c j → Q j

-- a walk stands at r, after c
module _ (late : Bool) (from to c r : ℕ) (e : r ≡ nth_of late from to c) where
  pub nth_in : from + c < to → (from ≤ r) × (r < to)
  nth_in h = go late e
    where
      go : (b : Bool) → r ≡ nth_of b from to c → (from ≤ r) × (r < to)
      go true same = (omega arith, omega arith)
      go false same = (omega arith, omega arith)

  pub walked_more : (Q : ℕ → Type 0) → Q r → Walked late from to c Q → Walked late from to (c + 1) Q
  walked_more Q at = go late e
    where
      go : (b : Bool) → r ≡ nth_of b from to c → Walked b from to c Q → Walked b from to (c + 1) Q
      go true same w j low high p = but_one Q r j at (λ n. w j low high (omega (arith, n)))
      go false same w j low high p = but_one Q r j at (λ n. w j low high (omega (arith, n)))

  pub walked_before : (Q : ℕ → Type 0) → Walked late from to c Q → (j : ℕ) → from ≤ j → j < to → Before late j r → Q j
  walked_before Q = go late e
    where
      go : (b : Bool) → r ≡ nth_of b from to c → Walked b from to c Q → (j : ℕ) → from ≤ j → j < to → Before b j r → Q j
      go true same w j low high h = w j low high (omega arith)
      go false same w j low high h = w j low high (omega arith)

pub walked_all : (late : Bool) (from to c : ℕ) (Q : ℕ → Type 0) → to ≤ from + c → Walked late from to c Q → (j : ℕ) → from ≤ j → j < to → Q j
walked_all true from to c Q h w j low high = w j low high (omega arith)
walked_all false from to c Q h w j low high = w j low high (omega arith)

pub before_block : (late : Bool) (width : ℕ) → 1 ≤ width → (j i k : ℕ) → Before late j i → i / width ≡ k → j / width ≢ k → Before late (j / width) k
before_block true width wide j i k b e n = omega (arith, block_up_to width wide i j (omega arith), n)
before_block false width wide j i k b e n = omega (arith, block_up_to width wide j i (omega arith), n)
