-- The stops of an order as its two words give them, read place by place into the places of an order with zeros behind.
--   stops_more     one place more is read
--   stops-read     the stops that a node's words give are the node
--   order-stops    .. and of an order of n stops, those of its first n places
use mathlib.Core.Path.{◌≡◌, ◌∙◌}
use mathlib.Core.List.{map}
use Prim.Native.Nat.{ℕ, ◌+◌, ◌≤◌, ◌<◌}
use native.Mathlib.Numerals.{add-one}
use native.Mathlib.Omega.{arith}
use lib.ListN.{length, get_or, take, drop, set, length-map}
use lib.Seq.{ext_get_or}
use Rattle.sizes.specs.Sizes.{most_stops, order_places, word_stops}
use Rattle.lists.specs.Lists.{from, padded}
use Rattle.lists.proofs.Map.{map-from}
use Rattle.lists.proofs.Members.{length_from}
use Rattle.lists.proofs.Elements.{get_or-from}
use Rattle.lists.proofs.Padded.{padded_one}
use Rattle.orders.specs.Orders.{Node, Order}
use Rattle.orders.proofs.Order.{order_partial, order-length}
use Rattle.records.specs.Records.{order_word, stop_at}
use Rattle.records.proofs.OrderWords.{Digits, stop_read}
use Rattle.records.proofs.Encode.{partial_digits}

module _ (first second : ℕ) where
  -- the stops at the first k places
  abbrev front : ℕ → Node
  front k = map (stop_at first second) (from 0 k)

  front_length : (k : ℕ) → length (front k) ≡ k
  front_length k = length-map (from 0 k) (stop_at first second) ∙ length_from 0 k

  pub stops_more : (k : ℕ) → k < order_places → set (padded order_places (front k)) k (stop_at first second k) ≡ padded order_places (front (k + 1))
  stops_more k h =
      padded_one order_places (front k) (front (k + 1)) k (stop_at first second k) (front_length k)
      (rw (add-one k) (map-from (stop_at first second) 0 k k (omega arith))) h

pub stops-read : (x : Node) → Digits x → map (stop_at (order_word (take word_stops x)) (order_word (drop word_stops x))) (from 0 (length x)) ≡ x
stops-read x d = ext_get_or 0 (front first second (length x)) x long at
  where
    first : ℕ
    first = order_word (take word_stops x)

    second : ℕ
    second = order_word (drop word_stops x)

    long : length (front first second (length x)) ≡ length x
    long = front_length first second (length x)

    at : (i : ℕ) → i < length (front first second (length x)) → get_or (front first second (length x)) i 0 ≡ get_or x i 0
    at i h =
        let inside : i < length x = omega (arith, long) in
        get_or-from (stop_at first second) 0 (length x) i i 0 inside (omega arith) ∙ stop_read x d i inside

pub order-stops :
    (n : ℕ) → n ≤ most_stops → (x : Node) → Order n x → (first second : ℕ) → first ≡ order_word (take word_stops x) → second ≡ order_word (drop word_stops x)
    → map (stop_at first second) (from 0 n) ≡ x
order-stops n few x o first second e f =
    rw (e, f, ← order-length n x o) (stops-read x (partial_digits n few x (order_partial n x o)))
