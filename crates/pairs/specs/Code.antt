-- Pairs as the code holds them. `proofs/` shows that they are those of the pair file. These definitions are the code's own: a reader of the promise
-- needs none of them.
--   pairs_in d          the pairs that d has: each stop with each of those that must be flown before it
--   OfStops bytes      each byte is a stop of a day
--   precedence_of bytes the precedence that a pair file makes
--   Readied d rest r   r is the set of the stops of rest that need not wait
use Rattle.std.specs.Prelude.{◌≡◌, Option, None, Some, List, [], ◌∷◌, map, ℕ, ◌-◌, ◌^◌, ◌≤◌, ◌<◌, get_or, set, replicate}
use Rattle.sizes.specs.Sizes.{most_stops, places}
use Rattle.lists.specs.Lists.{In, from, each}
use Rattle.orders.specs.Pairs.{Pair, ready}
use Rattle.stops.specs.Code.{stops_in}
use Rattle.pairs.specs.declared.Precedence.{Precedence}

-- the pairs of stop s, by the sets of the stops that must be flown before each stop
abbrev pub pairs_to : List ℕ → ℕ → List Pair
pairs_to before s = map (λ a. (a, s)) (stops_in (get_or before s 0))

abbrev pub pairs_by : Option (List ℕ) → List Pair
pairs_by None = []
pairs_by (Some before) = each (pairs_to before) (from 1 most_stops)

unfoldable pub pairs_in : Precedence → List Pair
pairs_in d = pairs_by d.before

abbrev pub OfStops : List ℕ → Type 0
OfStops bytes = (s : ℕ) → In s bytes → (1 ≤ s) × (s ≤ most_stops)

-- these sets, pair by pair
abbrev pub marked : List ℕ → List ℕ → List ℕ
marked sets [] = sets
marked sets (a ∷ []) = sets
marked sets (a ∷ b ∷ bytes) = marked (set sets b (2 ^ (a - 1))) bytes

unfoldable pub precedence_of : List ℕ → Precedence
precedence_of [] = record { before = None }
precedence_of (a ∷ bytes) = record { before = Some (marked (replicate places 0) (a ∷ bytes)) }

pub record Readied (d : Precedence) (rest r : ℕ) : Type 0 where
  pub small : r < 2 ^ most_stops
  pub stops : stops_in r ≡ ready (pairs_in d) (stops_in rest)
