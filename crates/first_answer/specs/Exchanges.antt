-- Exchanges of two stops, and an order made cheaper by them: document 02, A.1. Over any legs, and any test of which orders are allowed.
use Rattle.std.specs.Prelude.{Bool, List, map, ℕ, zero, suc, ◌-◌, ◌≤◌, ◌<◌, length, get_or, set}
use Rattle.lists.specs.Lists.{keep, from, each}
use Rattle.orders.specs.Orders.{Node}
use Rattle.stops.specs.Legs.{Legs, cost}
use Rattle.first_answer.specs.Nearest.{cheapest}

-- x with the stops at positions p and q exchanged, positions counted from 0; the others stay where they are
unfoldable pub exchanged : Node → ℕ → ℕ → Node
exchanged x p q = set (set x p (get_or x q 0)) q (get_or x p 0)

-- the exchanges of position p with each position from q on
unfoldable pub behind : Node → ℕ → ℕ → List Node
behind x p q = map (exchanged x p) (from q (length x - q))

-- every exchange of two stops of x: by the smallest first position, then by the smallest second
unfoldable pub exchanges : Node → List Node
exchanges x = each (λ p. behind x p (suc p)) (from 0 (length x))

module _ (L : Legs) (allowed : Node → Bool) where
  -- of the allowed exchanges the one that lowers the cost most, the first of equals; x itself if none lowers it
  unfoldable pub best_exchange : Node → Node
  best_exchange x = cheapest (cost L) x (keep allowed (exchanges x))

  -- Settles x y: such exchanges, one after another as long as they lower the cost, lead from x to y.
  pub data Settles : Node → Node → Type 0 where
    settled : {x : Node} → cost L x ≤ cost L (best_exchange x) → Settles x x
    lowered : {x y : Node} → cost L (best_exchange x) < cost L x → Settles (best_exchange x) y → Settles x y

  -- k exchanges, one after another
  abbrev pub repeated : ℕ → Node → Node
  repeated zero x = x
  repeated (suc k) x = repeated k (best_exchange x)

  -- The order that x settles to, and the only one (`ExchangesEnd`, in specs/Request). An exchange that changes anything lowers the cost by 1 or more,
  -- so that as many exchanges as x costs are enough, and those that are left over change nothing.
  unfoldable pub improved : Node → Node
  improved x = repeated (cost L x) x
