-- What parts 6 and 7 of a step do to the pool's records. These definitions are the code's own: a reader of the promise needs none of them.
--   is_beaten, is_staying    rules 1 and 8 on an active record
--   staying_of              what they leave of the active nodes
--   Strikes                the records that pass a test are gone
--   Changing               what the functions ask of the change that they go by
--   Kept                   the pool and the index after a part of the work, with some nodes active and the far end as it was
--   far_with, Committed     the branched node at the far end; what the pool is afterwards
use Rattle.std.specs.Prelude.{◌≡◌, Bool, true, false, not, ◌&&◌, cond, List, [], ◌∷◌, ◌++◌, ◌⊎◌, ℕ, ◌+◌, ◌≤◌, ◌<◌, eqb, leb, length, get_or}
use Rattle.lists.specs.Lists.{In, keep, any}
use Rattle.stops.specs.Code.{empty_record, rec_dominates, stops_in}
use Rattle.stops.specs.declared.node_record.Record.{Record}
use Rattle.records.specs.Code.{in_slot, slots, Slotted}
use Rattle.lanes.specs.Sizes.{gone}
use Rattle.lanes.specs.Code.{sized, is_live, marked, live_of, others_of, far_of}
use Rattle.lanes.specs.declared.layout.Layout.{Layout}
use Rattle.chains.specs.Code.{Sized}
use Rattle.pool.specs.Code.{Laid, OnePool}
use Rattle.replacement.specs.declared.change.Change.{Change}

-- a child dominates x
abbrev pub is_beaten : List Record → Record → Bool
is_beaten kids x = any (λ y. rec_dominates y x) kids

unfoldable pub is_staying : ℕ → List Record → Record → Bool
is_staying limit kids x = leb x.bound limit && not (is_beaten kids x)

unfoldable pub staying_of : List Record → Layout → ℕ → Change → List Record → List Record
staying_of recs p i c kids = keep (is_staying c.limit (slots c.taking kids)) (others_of p.used i recs)

-- a node that passes a test is marked as gone
unfoldable pub struck : (Record → Bool) → Record → Record
struck test x = cond (is_live x && test (sized x)) (marked x) x

-- of the first `used` records those that are nodes and pass the test are gone, and are `lost` in number
pub record Strikes (test : Record → Bool) (used : ℕ) (recs recs' : List Record) (lost : ℕ) : Type 0 where
  pub same_length : length recs' ≡ length recs
  pub each : (j : ℕ) → j < used → get_or recs' j empty_record ≡ struck test (get_or recs j empty_record)
  pub behind : (j : ℕ) → used ≤ j → get_or recs' j empty_record ≡ get_or recs j empty_record
  pub count : lost + length (live_of used recs') ≡ length (live_of used recs)

-- the node at i is branched; the children that survive stand in their slots; those that take part in rule 8 are all of them or none; where U did not fall, no
-- active node is above the limit; and the far end grows by b, or has none
pub record Changing (recs : List Record) (p : Layout) (i : ℕ) (c : Change) (kids : List Record) : Type 0 where
  pub whole : p.capacity ≡ length recs
  pub front : p.used + p.far ≤ p.capacity
  pub counted : p.active ≡ length (live_of p.used recs)
  pub inside : i < p.used
  pub live : is_live (get_or recs i empty_record) ≡ true
  pub limited : c.limit < gone
  pub slotted : Slotted c.alive kids
  pub sizes : Sized c.alive kids
  pub lives : (s : ℕ) → In s (stops_in c.alive) → (in_slot kids s).bound < gone
  pub takes : (c.taking ≡ c.alive) ⊎ (c.taking ≡ 0)
  pub right : c.fell ≡ false → (x : Record) → In x (others_of p.used i recs) → x.bound ≤ c.limit
  pub back : ((c.far ≡ 0) × (p.far ≡ 0)) ⊎ (c.far ≡ p.far + 1)

-- recs', q and index' belong together and show the nodes xs; q is of the pool that p was of, and its far end is as it was
pub record Kept (recs : List Record) (p : Layout) (xs : List Record) (recs' : List Record) (q : Layout) (index' : List ℕ) : Type 0 where
  pub laid : Laid recs' q index'
  pub one_pool : OnePool p q
  pub nodes : live_of q.used recs' ≡ xs
  pub counted : q.active ≡ length xs
  pub far-count : q.far ≡ p.far
  pub far-end : far_of p.far recs' ≡ far_of p.far recs

-- b in front of those at the far end, if these are held
abbrev pub far_with : ℕ → Record → List Record → List Record
far_with far b xs = cond (eqb far 0) [] (b ∷ xs)

-- those that stay, then the children that survive; at the far end b too, if branched nodes are held
pub record Committed (recs : List Record) (p : Layout) (i : ℕ) (b : Record) (c : Change) (kids recs' : List Record) (q : Layout) (index' : List ℕ) : Type 0 where
  pub laid : Laid recs' q index'
  pub one_pool : OnePool p q
  pub nodes : live_of q.used recs' ≡ staying_of recs p i c kids ++ slots c.alive kids
  pub counted : q.active ≡ length (staying_of recs p i c kids) + length (slots c.alive kids)
  pub far-count : q.far ≡ c.far
  pub far-end : far_of c.far recs' ≡ far_with c.far b (far_of p.far recs)
