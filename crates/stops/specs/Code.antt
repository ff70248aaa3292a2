-- A node as the six words of its record: what the functions of this crate compute on them. `proofs/` shows that these are the words
-- that document 01's definitions give.
--   stops_in set           the stops of a set, ascending (bit s-1 is stop s's)
--   First set r           r is the first stop of a set
--   extended x s leg      x with stop s and its leg added; its bound is not yet known
--   last_stop x            the last stop flown; 0 for e, and for words that are no node's
--   digits_before k a b    of k digits of two words, lowest first: where they first differ, a has the lesser
--   rec_smaller y z        y's order is smaller than z's (request A.8), on records; words_before: the same on the words of two orders
--   rec_dominates y z      dominance, on records
--   ahead k L place rest  what bound k adds to the path cost at a place, with the stops of rest to come
--   reckon_on rows         the day of the planner's rows as a walk from stop to stop
--   Priced n table        what `rows` asks of a table, so that each number is in it and no sum of two overflows; check 3 sees to it
--   Cheap rows            no leg of theirs is above the dearest (Within m L: none is above m)
--   Reckonable rows x        what `order_cost` asks, so that each leg of x is in the rows and their sum does not overflow
--   row_of n table i       a row of the planner's, on a day that ends at home
--   Wide x s leg          what `extended` asks, so that no word overflows
--   empty_record           six zeros, e's record before it has a bound
use Rattle.std.specs.Prelude.{◌≡◌, Bool, false, ◌&&◌, ◌||◌, cond, List, [], ◌∷◌, map, ℕ, zero, suc, ◌+◌, ◌*◌, ◌-◌, ◌^◌, ◌/◌, ◌%◌, ◌≤◌, ◌<◌, leb, ltb, eqb, length}
use Rattle.std.specs.Int.Count.{ones}
use Rattle.sizes.specs.Sizes.{most_stops, places, dearest_leg, dearest_charge, dearest, stop_base, word_stops}
use Rattle.lists.specs.Lists.{In, put, from}
use Rattle.orders.specs.Orders.{Node, last}
use Rattle.days.specs.Code.{Reckoning}
use Rattle.stops.specs.Tables.{charge, flying}
use Rattle.stops.specs.Legs.{Legs, legs}
use Rattle.stops.specs.Bounds.{is_close, remainder}
use Rattle.stops.specs.declared.node_record.Record.{Record}

-- the stops of the lowest k digits of m, whose first stands for stop s
unfoldable pub bits : ℕ → ℕ → ℕ → List ℕ
bits zero s m = []
bits (suc k) s m = put (eqb (m % 2) 1) s (bits k (suc s) (m / 2))

unfoldable pub stops_in : ℕ → List ℕ
stops_in set = bits most_stops 1 set

-- r is the first stop of a set, one that a day may have; the others, which are behind it, are those of the set without it, which is smaller
pub record First (set r : ℕ) : Type 0 where
  pub some : 1 ≤ r
  pub few : r ≤ most_stops
  pub member : In r (stops_in set)
  pub others : stops_in set ≡ r ∷ stops_in (set - 2 ^ (r - 1))
  pub behind : (s : ℕ) → In s (stops_in (set - 2 ^ (r - 1))) → r < s
  pub less : set - 2 ^ (r - 1) < set

unfoldable pub empty_record : Record
empty_record = record { size = 0; set = 0; path = 0; bound = 0; first = 0; second = 0 }

-- a stop is a digit of the order, in the second word once the first is full
unfoldable pub extended : Record → ℕ → ℕ → Record
extended x stop leg = record {
  size = ones x.set + 1;
  set = x.set + 2 ^ (stop - 1);
  path = x.path + leg;
  bound = 0;
  first = x.first + cond (ltb x.size word_stops) ((stop - 1) * stop_base ^ x.size) 0;
  second = x.second + cond (ltb x.size word_stops) 0 ((stop - 1) * stop_base ^ (x.size - word_stops));
}

unfoldable pub last_stop : Record → ℕ
last_stop x =
    cond (eqb x.size 0) 0
    (cond (leb x.size word_stops) (x.first / stop_base ^ (x.size - 1) % stop_base + 1)
    (cond (leb x.size most_stops) (x.second / stop_base ^ (x.size - 1 - word_stops) % stop_base + 1) 0))

-- the words have room for one stop more
pub record Wide (x : Record) (stop leg : ℕ) : Type 0 where
  pub some : 1 ≤ stop
  pub few : stop ≤ most_stops
  pub room : x.size < most_stops
  pub set_small : x.set < 2 ^ most_stops
  pub path_small : x.path + leg < 2 ^ 32
  pub first_small : x.size < word_stops → x.first < stop_base ^ x.size
  pub second_small : word_stops ≤ x.size → x.second < stop_base ^ (x.size - word_stops)

-- the first stop is the lowest digit, so that the comparison goes from there up
unfoldable pub digits_before : ℕ → ℕ → ℕ → Bool
digits_before zero a b = false
digits_before (suc k) a b =
    ltb (a % stop_base) (b % stop_base) || eqb (a % stop_base) (b % stop_base) && digits_before k (a / stop_base) (b / stop_base)

-- the second words tell where the first are equal
unfoldable pub words_before : ℕ → ℕ → ℕ → ℕ → Bool
words_before a₁ a₂ b₁ b₂ = cond (eqb a₁ b₁) (digits_before word_stops a₂ b₂) (digits_before word_stops a₁ b₁)

unfoldable pub rec_smaller : Record → Record → Bool
rec_smaller y z = words_before y.first y.second z.first z.second

unfoldable pub rec_dominates : Record → Record → Bool
rec_dominates y z =
    eqb y.size z.size && eqb y.set z.set && eqb (last_stop y) (last_stop z)
    && (ltb y.path z.path || eqb y.path z.path && rec_smaller y z)

-- the leg home where no stop is to come; else nothing (plain) or the remainder (close)
abbrev pub ahead_by : Bool → Legs → ℕ → List ℕ → ℕ
ahead_by close L place [] = L.home place
ahead_by close L place (r ∷ rest) = cond close (remainder L place (r ∷ rest)) 0

unfoldable pub ahead : ℕ → Legs → ℕ → List ℕ → ℕ
ahead k = ahead_by (is_close k)

unfoldable pub reckoning : Legs → Reckoning
reckoning L = record { place = last; further = L.leg; after = λ place s. s; ahead = λ k. ahead k L }

unfoldable pub reckon_on : List (List ℕ) → Reckoning
reckon_on rows = reckoning (legs rows)

-- a row: what flying from place i costs, and zeros
unfoldable pub row_of : ℕ → List ℕ → ℕ → List ℕ
row_of n table i = map (λ j. cond (leb j n) (flying n table i j) 0) (from 0 places)

-- a table for n stops whose legs and charges are not too dear
pub record Priced (n : ℕ) (table : List ℕ) : Type 0 where
  pub few : n ≤ most_stops
  pub square : length table ≡ suc n * suc n
  pub legs : (w : ℕ) → In w table → w ≤ dearest_leg
  pub charges : (i : ℕ) → i ≤ n → charge n table i ≤ dearest_charge

pub record Within (m : ℕ) (L : Legs) : Type 0 where
  pub leg : (i j : ℕ) → L.leg i j ≤ m
  pub home : (s : ℕ) → L.home s ≤ m

abbrev pub Cheap : List (List ℕ) → Type 0
Cheap rows = Within dearest (legs rows)

-- each stop is a place of the rows, and few as they are, their legs fit a word
pub record Reckonable (rows : List (List ℕ)) (x : Node) : Type 0 where
  pub cheap : Cheap rows
  pub few : length x ≤ most_stops
  pub near : (s : ℕ) → In s x → s ≤ most_stops
