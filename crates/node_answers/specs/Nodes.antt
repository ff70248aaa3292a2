-- What a record says of a node: document 01, "The pool".
--   flown_stops x     its stops in flown order
--   is_node n x       whether it is a node's at all, for n stops
-- `proofs/` shows that the records that pass are just those of nodes, and that each node's stops are read back.
use Rattle.std.specs.Prelude.{Bool, true, not, ◌&&◌, [], ◌∷◌, map, ℕ, min, leb, eqb, take, drop}
use Rattle.sizes.specs.Sizes.{most_stops, order_places, word_stops}
use Rattle.lists.specs.Lists.{all, from}
use Rattle.orders.specs.Orders.{Node, stops, flown, set_of, size, mask}
use Rattle.stops.specs.declared.node_record.Record.{Record}
use Rattle.records.specs.Records.{order_word, stop_at}

-- as many as the size says, of those that the two words have bits for
unfoldable pub flown_stops : Record → Node
flown_stops x = map (stop_at x.first x.second) (from 0 (min x.size order_places))

-- no stop twice
abbrev pub distinct : Node → Bool
distinct [] = true
distinct (s ∷ x) = not (flown x s) && distinct x

-- The stops y that the order of x gives are distinct stops of 1 to n, the size and the set are theirs, and so are the two words for
-- the order, whose unused bits are 0.
unfoldable pub is_record_of : ℕ → Record → Node → Bool
is_record_of n x y =
    distinct y && all (flown (stops n)) y
    && eqb x.size (size n y) && eqb x.set (mask (set_of n y))
    && eqb x.first (order_word (take word_stops y)) && eqb x.second (order_word (drop word_stops y))

-- for no stops, or more than there may be, no record is a node's
unfoldable pub is_node : ℕ → Record → Bool
is_node n x = leb 1 n && leb n most_stops && is_record_of n x (flown_stops x)
