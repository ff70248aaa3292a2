-- The stops of a record's order, place by place.
--   stop_of, stop_here    the stop at a place
--   stops-length         as many as the size says, as far as there are places
--   stops-next           one place further is one stop more
use mathlib.Core.Path.{◌≡◌, refl, ◌∙◌}
use Prim.Native.Nat.{ℕ, suc, ◌+◌, ◌<◌, min}
use native.Mathlib.Omega.{arith}
use lib.ListN.{length, get_or, take, length-map}
use lib.Seq.{take-suc}
use Rattle.sizes.specs.Sizes.{order_places}
use Rattle.lists.specs.Lists.{from}
use Rattle.lists.proofs.Members.{length_from}
use Rattle.lists.proofs.Elements.{get_or-from}
use Rattle.orders.specs.Orders.{extend}
use Rattle.stops.specs.declared.node_record.Record.{Record}
use Rattle.records.specs.Records.{stop_at}
use Rattle.node_answers.specs.Nodes.{flown_stops}
use Rattle.node_answers.specs.Examples

-- the stop at place k of a record's order
abbrev pub stop_of : Record → ℕ → ℕ
stop_of x k = stop_at x.first x.second k

module _ (x : Record) where
  pub stops-length : length (flown_stops x) ≡ min x.size order_places
  unfolding flown_stops
  stops-length = length-map (from 0 (min x.size order_places)) (stop_of x) ∙ length_from 0 (min x.size order_places)

  pub stop_here : (k : ℕ) → k < length (flown_stops x) → get_or (flown_stops x) k 0 ≡ stop_of x k
  unfolding flown_stops
  stop_here k h = get_or-from (stop_of x) 0 (min x.size order_places) k k 0 (omega (arith, stops-length)) (omega arith)

  pub stops-next : (k : ℕ) → k < length (flown_stops x) → take (k + 1) (flown_stops x) ≡ extend (take k (flown_stops x)) (stop_of x k)
  stops-next k h =
      let e : k + 1 ≡ suc k = omega arith in
      rw (e, take-suc (flown_stops x) k 0 h, stop_here k h) refl
