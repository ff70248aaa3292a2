-- `order::stops_of` meets its contract. The invariant: the first k places hold the first k stops, with zeros behind.
use mathlib.Core.Path.{◌≡◌}
use mathlib.Core.List.{map}
use Rattle.sizes.specs.Sizes.{order_places}
use Rattle.lists.specs.Lists.{from, padded}
use Rattle.records.specs.Records.{stop_at}
use Rattle.records.proofs.order.stops_of.Given as goal

abbrev pub invariant-loop-k : goal.invariant-loop-k
invariant-loop-k l = l.stops ≡ padded order_places (map (stop_at l.first l.second) (from 0 l.k))
