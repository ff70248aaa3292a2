-- Chains: the records of a lane with one bucket, each linked to the one before it. These definitions are the code's own: a reader of the
-- promise needs none of them.
--   bucket_of             the bucket of a node, by its set and its last stop
--   last_with             the last number below k with some value, plus 1; 0 if there is none
--   Chained              size words have the links of a lane, and the index the heads of its chains
--   Inside, Walkable     a lane's records are in the pool; and its chains are right, if it is linked
--   joined_of, index_with  a record with its link, and the index once it has joined its chain; joined_all, index_all: of some, one after the other
--   counting             a lane with another number of records
--   Relinked             what linking a lane from nothing leaves of the pool's records
--   Only                 an index is the same but for a lane's heads
use Rattle.std.specs.Prelude.{◌≡◌, Bool, cond, not, ◌&&◌, List, [], ◌∷◌, ℕ, zero, suc, ◌+◌, ◌*◌, ◌^◌, ◌/◌, ◌%◌, ◌≤◌, ◌<◌, T, eqb, leb, length, get_or, set}
use Rattle.std.specs.Int.Count.{ones}
use Rattle.lists.specs.Lists.{In, any}
use Rattle.stops.specs.Code.{empty_record, last_stop, rec_dominates, stops_in}
use Rattle.stops.specs.declared.node_record.Record.{Record}
use Rattle.records.specs.Code.{in_slot}
use Rattle.lanes.specs.Sizes.{heads}
use Rattle.lanes.specs.Code.{sized, place_of, rec_at}
use Rattle.lanes.specs.declared.Lane.{Lane}

-- a stop stands above every set; the golden ratio of a word; what the product with it is divided by, so that its upper digits tell
abbrev stop_above_sets : ℕ
stop_above_sets = 65_536

abbrev golden : ℕ
golden = 2_654_435_769

abbrev spread : ℕ
spread = 524_288

-- set and last stop as one number, spread over the heads
unfoldable pub bucket_of : Record → ℕ
bucket_of x = (x.set + stop_above_sets * last_stop x) % 2 ^ 32 * golden / spread % heads

unfoldable pub last_with : (ℕ → ℕ) → ℕ → ℕ → ℕ
last_with f h zero = 0
last_with f h (suc k) = cond (eqb (f k) h) (suc k) (last_with f h k)

-- the bucket of record j of a lane
abbrev pub key_at : List Record → ℕ → ℕ → ℕ
key_at recs end j = bucket_of (rec_at recs end j)

abbrev pub counting : Lane → ℕ → Lane
counting p k = record { end = p.end; count = k; heads = p.heads; linked = p.linked }

-- the records of a lane stand in the pool
pub record Inside (recs : List Record) (p : Lane) : Type 0 where
  pub inside : (j : ℕ) → j < p.count → place_of p.end (suc j) < length recs
  pub apart : 0 < p.end → p.count ≤ p.end

-- each size word has the number of the last record before it in its lane with its bucket, and each head that of the last one with the head's
pub record Chained (recs : List Record) (p : Lane) (index : List ℕ) : Type 0 where
  pub room : p.heads + heads ≤ length index
  pub links :
      (j : ℕ) → j < p.count
      → (get_or recs (place_of p.end (suc j)) empty_record).size ≡ last_with (key_at recs p.end) (key_at recs p.end j) j
  pub tops : (h : ℕ) → h < heads → get_or index (p.heads + h) 0 ≡ last_with (key_at recs p.end) h p.count

pub record Walkable (recs : List Record) (p : Lane) (index : List ℕ) : Type 0 where
  pub lies : Inside recs p
  pub chains : T p.linked → Chained recs p index

-- y has a bound up to limit and dominates x: rules 2 and 4; and no record of some does
abbrev pub is_rival : ℕ → Record → Record → Bool
is_rival limit x y = leb y.bound limit && rec_dominates y x

unfoldable pub is_free : ℕ → List Record → Record → Bool
is_free limit ys x = not (any (is_rival limit x) ys)

-- the children by the stops of a set have the sizes of their sets
abbrev pub Sized : ℕ → List Record → Type 0
Sized alive kids = (s : ℕ) → In s (stops_in alive) → (in_slot kids s).size ≡ ones (in_slot kids s).set

-- a record with a link in its size word
unfoldable pub linked_to : ℕ → Record → Record
linked_to c x = record { size = c; set = x.set; path = x.path; bound = x.bound; first = x.first; second = x.second }

unfoldable pub joined_of : Lane → List ℕ → Record → Record
joined_of p index x = cond p.linked (linked_to (get_or index (p.heads + bucket_of x) 0) x) x

unfoldable pub index_with : Lane → ℕ → List ℕ → Record → List ℕ
index_with p c index x = cond p.linked (set index (p.heads + bucket_of x) c) index

-- records that join a lane behind its first k, one after the other
unfoldable pub joined_all : Lane → ℕ → List ℕ → List Record → List Record
joined_all p k index [] = []
joined_all p k index (x ∷ xs) = joined_of p index x ∷ joined_all p (suc k) (index_with p (suc k) index x) xs

unfoldable pub index_all : Lane → ℕ → List ℕ → List Record → List ℕ
index_all p k index [] = index
index_all p k index (x ∷ xs) = index_all p (suc k) (index_with p (suc k) index x) xs

-- the size words of a lane's records have changed, and nothing else
pub record Relinked (recs : List Record) (p : Lane) (recs' : List Record) : Type 0 where
  pub same_length : length recs' ≡ length recs
  pub same_nodes : (i : ℕ) → sized (get_or recs' i empty_record) ≡ sized (get_or recs i empty_record)
  pub others :
      (i : ℕ) → ((j : ℕ) → j < p.count → place_of p.end (suc j) ≡ i → ⊥)
      → get_or recs' i empty_record ≡ get_or recs i empty_record

-- index' differs from index in a lane's heads alone
pub record Only (from : ℕ) (index index' : List ℕ) : Type 0 where
  pub same_length : length index' ≡ length index
  pub before : (j : ℕ) → j < from → get_or index' j 0 ≡ get_or index j 0
  pub behind : (j : ℕ) → from + heads ≤ j → get_or index' j 0 ≡ get_or index j 0
