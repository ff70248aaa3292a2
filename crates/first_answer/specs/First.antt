-- The first order of a table for a day that ends at home or away and that may have pairs, and what the call for it answers: document 02, A.1, A.5 and A.6.
use Rattle.std.specs.Prelude.{◌≡◌, List, ℕ, zero, suc, replicate}
use Rattle.sizes.specs.Sizes.{order_places}
use Rattle.lists.specs.Lists.{padded}
use Rattle.orders.specs.Orders.{Node}
use Rattle.orders.specs.Pairs.{pairs_of, respects}
use Rattle.stops.specs.Tables.{rows}
use Rattle.stops.specs.Legs.{Legs, legs, cost}
use Rattle.stops.specs.Bounds.{ends_away}
use Rattle.answer.specs.Checks.{first_cause}
use Rattle.first_answer.specs.Nearest.{nearest}
use Rattle.first_answer.specs.Exchanges.{improved}
use Rattle.first_answer.specs.declared.FirstOrder.{FirstOrder}

-- what flying counts by a table, landings included (request A.4); on a day that ends away (request A.5) no leg home counts
unfoldable pub legs_of : ℕ → ℕ → List ℕ → Legs
legs_of n bound table = legs (rows n (ends_away bound) table)

-- Its nearest-stop order. `pairs` are the bytes of a pair file, and what goes against one of its pairs is not allowed (request A.6).
unfoldable pub nearest_of : ℕ → ℕ → List ℕ → List ℕ → Node
nearest_of n bound table pairs = nearest n (legs_of n bound table) (respects (pairs_of pairs))

-- its first order: that order, made cheaper by exchanges that respect the pairs
unfoldable pub first_of : ℕ → ℕ → List ℕ → List ℕ → Node
first_of n bound table pairs = improved (legs_of n bound table) (respects (pairs_of pairs)) (nearest_of n bound table pairs)

-- where no cause of 1 to 4 and 11 applies, the cost and the order, in as many places as there may be stops; else the cause's number and zeros
unfoldable pub respond : ℕ → ℕ → List ℕ → List ℕ → ℕ → FirstOrder
respond n bound table pairs zero = record {
  number = 0;
  cost = cost (legs_of n bound table) (first_of n bound table pairs);
  order = padded order_places (first_of n bound table pairs);
}
respond n bound table pairs (suc k) = record { number = suc k; cost = 0; order = replicate order_places 0 }

unfoldable pub first_answer : ℕ → ℕ → List ℕ → List ℕ → FirstOrder
first_answer n bound table pairs = respond n bound table pairs (first_cause n bound table pairs)

-- what the call promises of its result
abbrev pub Promised : ℕ → ℕ → List ℕ → List ℕ → FirstOrder → Type 0
Promised n bound table pairs r = r ≡ first_answer n bound table pairs
