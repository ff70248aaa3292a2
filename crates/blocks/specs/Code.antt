-- Blocks of places and their least bounds. These definitions are the code's own: a reader of the promise needs none of them.
--   Least                the least of some numbers, or the bound of gone records
--   in_block, Blocked     the places of a block; the minima of all blocks are right (BlockedBut: of all but one)
--   Same                 an index is the same but for the minima
--   Before, Foremost     which of two places comes first, from the front or from the end; the first, from there, with a bound up to a limit
use Rattle.std.specs.Prelude.{◌≡◌, Bool, true, false, List, ℕ, ◌*◌, ◌/◌, ◌≤◌, ◌<◌, length, get_or}
use Rattle.stops.specs.Code.{empty_record}
use Rattle.stops.specs.declared.node_record.Record.{Record}
use Rattle.lanes.specs.Sizes.{gone, blocks}

-- the bound of the record at k
abbrev pub bound_at : List Record → ℕ → ℕ
bound_at recs k = (get_or recs k empty_record).bound

-- m is the least f of the numbers that P holds of, if one is below that of gone records
pub record Least (P : ℕ → Type 0) (f : ℕ → ℕ) (m : ℕ) : Type 0 where
  pub most : m ≤ gone
  pub low : (i : ℕ) → P i → m ≤ f i
  pub met : m < gone → (i : ℕ) × (P i × (f i ≡ m))

-- the places of block k, where the first `used` are in use and a block has `width`
abbrev pub in_block : ℕ → ℕ → ℕ → ℕ → Type 0
in_block used width k i = (i < used) × (i / width ≡ k)

-- all blocks but b have their least bounds at the front of the index
pub record BlockedBut (b : ℕ) (recs : List Record) (used width : ℕ) (index : List ℕ) : Type 0 where
  pub whole : blocks ≤ length index
  pub wide : 1 ≤ width
  pub reach : used ≤ blocks * width
  pub inside : used ≤ length recs
  pub each : (k : ℕ) → k < blocks → (k ≡ b → ⊥) → Least (in_block used width k) (bound_at recs) (get_or index k 0)

abbrev pub Blocked : List Record → ℕ → ℕ → List ℕ → Type 0
Blocked recs used width index = BlockedBut blocks recs used width index

-- index' differs from index in the minima alone
pub record Same (index index' : List ℕ) : Type 0 where
  pub same_length : length index' ≡ length index
  pub behind : (j : ℕ) → blocks ≤ j → get_or index' j 0 ≡ get_or index j 0

-- i comes before j, seen from the front or, if late, from the end
abbrev pub Before : Bool → ℕ → ℕ → Type 0
Before true i j = j < i
Before false i j = i < j

-- r is the first or, if late, the last place below `used` with a bound up to limit
pub record Foremost (late : Bool) (recs : List Record) (used limit r : ℕ) : Type 0 where
  pub inside : r < used
  pub within : bound_at recs r ≤ limit
  pub before : (j : ℕ) → j < used → Before late j r → limit < bound_at recs j
