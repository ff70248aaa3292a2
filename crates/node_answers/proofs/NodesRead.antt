-- The records that the pool holds, read back: the record of a node passes `is_node`, and its stops are the node. With `NodeLaws`, whose
-- `NodeRecord` is what every record that passes is, the records that pass are just those of nodes, whatever path cost and bound they hold.
--   stops-words                  of words that are a node's
--   stops_record, record_passes  of such a record
--   stops-encode, node_encode    of the record that the pool holds
use mathlib.Core.Path.{◌≡◌, refl, sym, subst}
use Prim.Native.Nat.{ℕ, ◌≤◌, min}
use native.Mathlib.Omega.{arith}
use lib.Dec.{T}
use lib.ListN.{length, take, drop}
use Rattle.sizes.specs.Sizes.{most_stops, order_places, word_stops}
use Rattle.orders.specs.Orders.{Node, size, Partial}
use Rattle.orders.proofs.Sets.{size-left}
use Rattle.orders.proofs.Partial.{partial_size}
use Rattle.days.specs.Days.{Day}
use Rattle.stops.specs.declared.node_record.Record.{Record}
use Rattle.records.specs.Records.{order_word}
use Rattle.records.specs.Code.{encode}
use Rattle.records.proofs.OrderStops.{stops-read}
use Rattle.records.proofs.Encode.{partial_digits}
use Rattle.node_answers.specs.Nodes.{flown_stops, is_node}
use Rattle.node_answers.proofs.NodeLaws.{NodeRecord, record_node}

module _ (n : ℕ) (few : n ≤ most_stops) (x : Record) (y : Node) (p : Partial n y) where
  pub stops-words :
      x.size ≡ size n y → x.first ≡ order_word (take word_stops y) → x.second ≡ order_word (drop word_stops y) → flown_stops x ≡ y
  unfolding flown_stops
  stops-words e f g =
      let all : min x.size order_places ≡ length y = omega (arith, e, partial_size n y p, size-left n y) in
      rw (all, f, g) (stops-read y (partial_digits n few y p))

module _ {n : ℕ} {x : Record} {y : Node} (r : NodeRecord n x y) where
  pub stops_record : flown_stops x ≡ y
  stops_record = stops-words n r.few x y r.node r.size_is r.first_is r.second_is

  pub record_passes : T (is_node n x)
  record_passes = record_node n x (subst (NodeRecord n x) (sym stops_record) r)

module _ (n : ℕ) (few : n ≤ most_stops) (D : Day) (k : ℕ) (x : Node) (p : Partial n x) where
  pub stops-encode : flown_stops (encode n D k x) ≡ x
  unfolding encode
  stops-encode = stops-words n few (encode n D k x) x p refl refl refl

  pub node_encode : 1 ≤ n → T (is_node n (encode n D k x))
  unfolding encode
  node_encode some =
      record_passes {n = n} {x = encode n D k x} {y = x}
      (record { some = some; few = few; node = p; size_is = refl; set_is = refl; first_is = refl; second_is = refl })
