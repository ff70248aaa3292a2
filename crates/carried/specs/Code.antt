-- What the functions of this crate compute. `proofs/` shows that it is document 01's bound. These definitions are the code's own: a reader of the
-- promise needs none of them.
--   Several rest             a set of two stops or more: each has others beside it
--   lessened row r into s    what stands at the place of stop s once the row of stop r has joined: the lesser of the two, but for the cell of r itself
--   Entered new before after a b    numbers are entered at the places from a to before b, and nowhere else
--   noted x s home           the legs home x with that of a further stop s
--   home_of x s               the cheapest leg home for the child by s
--   ahead_of x own s          what the bound adds to the path cost of the child by s, which has own of what the family x shares
--   family_of total           a family of which only the total counts
--   Shares t rest x into     x and into have what the children of a node share that leaves the stops of rest, whatever the place left behind is
--   Gives t bound rest x into    x and into give what a bound adds to the path cost of each child
--   Adds t bound place rest x into    and x has the legs from the node's place too
use Rattle.std.specs.Prelude.{◌≡◌, true, cond, List, [], ℕ, ◌+◌, ◌-◌, ◌^◌, ◌≤◌, ◌<◌, min, ltb, eqb, length, get_or}
use Rattle.sizes.specs.Sizes.{most_stops, places, above_every_cost}
use Rattle.lists.specs.Lists.{In, sum}
use Rattle.stops.specs.Legs.{legs}
use Rattle.stops.specs.Bounds.{is_close, cheapest_into}
use Rattle.stops.specs.Code.{stops_in, reckon_on}
use Rattle.carried.specs.Carried.{held_sum, correction, carried_home, carried}
use Rattle.carried.specs.declared.Costs.{Costs}
use Rattle.carried.specs.declared.Family.{Family}
use Rattle.carried.specs.declared.Homes.{Homes}

abbrev pub Table : Type 0
Table = List (List ℕ)

pub record Several (rest : ℕ) : Type 0 where
  pub small : rest < 2 ^ most_stops
  pub beside : (s : ℕ) → In s (stops_in rest) → 0 < rest - 2 ^ (s - 1)

unfoldable pub lessened : List ℕ → ℕ → List ℕ → ℕ → ℕ
lessened row r into s = min (get_or into s 0) (cond (eqb s r) above_every_cost (get_or row s 0))

pub record Entered (new : ℕ → ℕ) (before after : List ℕ) (a b : ℕ) : Type 0 where
  pub done : (s : ℕ) → a ≤ s → s < b → get_or after s 0 ≡ new s
  pub early : (s : ℕ) → s < a → get_or after s 0 ≡ get_or before s 0
  pub late : (s : ℕ) → b ≤ s → get_or after s 0 ≡ get_or before s 0
  pub room : length after ≡ places

unfoldable pub noted : Homes → ℕ → ℕ → Homes
noted x s home =
    cond (ltb home x.cheapest) (record { cheapest = home; giver = s; other = x.cheapest })
    (record { cheapest = x.cheapest; giver = x.giver; other = min x.other home })

unfoldable pub home_of : Homes → ℕ → ℕ
home_of x s = cond (eqb s x.giver) x.other x.cheapest

unfoldable pub ahead_of : Family → ℕ → ℕ → ℕ
ahead_of x own s = x.total - own + home_of x.homes s

unfoldable pub family_of : ℕ → Family
family_of total = record { total = total; homes = record { cheapest = 0; giver = 0; other = 0 } }

-- the total is the node's sum with all its corrections, what a stop has of it is its share with its own correction, and the leg home is the one
-- carried
pub record Shares (t : Table) (rest : ℕ) (x : Family) (into : List ℕ) : Type 0 where
  pub total : (place : ℕ) → x.total ≡ held_sum (legs t) place (stops_in rest) + sum (correction (legs t) place (stops_in rest)) (stops_in rest)
  pub own :
      (place s : ℕ) → In s (stops_in rest)
      → get_or into s 0 ≡ cheapest_into (legs t) place (stops_in rest) s + correction (legs t) place (stops_in rest) s
  pub home : (s : ℕ) → In s (stops_in rest) → home_of x.homes s ≡ carried_home (legs t) (stops_in rest) s
  pub room : length into ≡ places

-- close, it is what is carried to each child, if that is not complete, whatever the place left behind is; and it is document 01's bound
pub record Gives (t : Table) (bound rest : ℕ) (x : Family) (into : List ℕ) : Type 0 where
  pub carries :
      is_close bound ≡ true → (place s : ℕ) → In s (stops_in rest) → 0 < rest - 2 ^ (s - 1)
      → ahead_of x (get_or into s 0) s ≡ carried (legs t) place (stops_in rest) s
  pub less : (s : ℕ) → In s (stops_in rest) → get_or into s 0 ≤ x.total
  pub ahead : (s : ℕ) → In s (stops_in rest) → ahead_of x (get_or into s 0) s ≡ (reckon_on t).ahead bound s (stops_in (rest - 2 ^ (s - 1)))
  pub room : length into ≡ places

pub record Adds (t : Table) (bound place rest : ℕ) (x : Costs) (into : List ℕ) : Type 0 where
  pub legs : x.legs ≡ get_or t place []
  pub gives : Gives t bound rest x.family into
