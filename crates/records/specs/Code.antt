-- The pool's words as a list of records, and what passes over records do to such lists. What the functions of this crate promise speaks
-- of these lists alone. These definitions are the code's own.
--   records, words      words as records, and back; fewer than six words at the end are no record
--   encode              the record of a node
--   Sifted              what a pass keeps
--   in_slot, slots       records that stand one for each stop: that of one stop, and those of a set of stops
--   Slotted             the stops of a set have slots
--   Thinned             what a pass keeps of these: those of a smaller set
use Rattle.std.specs.Prelude.{◌≡◌, Bool, true, List, [], ◌∷◌, ◌++◌, map, ℕ, ◌+◌, ◌-◌, ◌^◌, ◌≤◌, ◌<◌, length, get_or, take, drop}
use Rattle.std.proofs.Math.Seq.{slice}
use Rattle.sizes.specs.Sizes.{most_stops, word_stops}
use Rattle.lists.specs.Lists.{In, keep, each}
use Rattle.orders.specs.Orders.{Node, set_of, mask, size}
use Rattle.days.specs.Days.{Day}
use Rattle.stops.specs.Code.{empty_record, stops_in}
use Rattle.stops.specs.declared.node_record.Record.{Record}
use Rattle.records.specs.Records.{order_word}

unfoldable pub records : List ℕ → List Record
records [] = []
records (a ∷ []) = []
records (a ∷ b ∷ []) = []
records (a ∷ b ∷ c ∷ []) = []
records (a ∷ b ∷ c ∷ d ∷ []) = []
records (a ∷ b ∷ c ∷ d ∷ e ∷ []) = []
records (a ∷ b ∷ c ∷ d ∷ e ∷ f ∷ ws) = record { size = a; set = b; path = c; bound = d; first = e; second = f } ∷ records ws

-- the words of a record, and of some
unfoldable pub six : Record → List ℕ
six x = x.size ∷ x.set ∷ x.path ∷ x.bound ∷ x.first ∷ x.second ∷ []

unfoldable pub words : List Record → List ℕ
words xs = each six xs

-- the record of a node: `Records.record_of`, as six named words
unfoldable pub encode : ℕ → Day → ℕ → Node → Record
encode n D bound x = record {
  size = size n x;
  set = mask (set_of n x);
  path = D.path x;
  bound = D.bound bound x;
  first = order_word (take word_stops x);
  second = order_word (drop word_stops x);
}

-- l' is l with those of its elements from `from` to `to` that pass the test moved to `at` and behind, up to e; those from `to` on stay
pub record Sifted (test : Record → Bool) (l : List Record) (from to at : ℕ) (l' : List Record) (e : ℕ) : Type 0 where
  pub same_length : length l' ≡ length l
  pub front : take e l' ≡ take at l ++ keep test (slice from to l)
  pub count : e ≡ at + length (keep test (slice from to l))
  pub behind : drop to l' ≡ drop to l

-- the test that every record passes
unfoldable pub always : Record → Bool
always x = true

-- the record of stop s has slot s-1
unfoldable pub in_slot : List Record → ℕ → Record
in_slot l s = get_or l (s - 1) empty_record

-- the records of the stops of a set, ascending
unfoldable pub slots : ℕ → List Record → List Record
slots set l = map (in_slot l) (stops_in set)

-- the stops of a set have slots
pub record Slotted (set : ℕ) (l : List Record) : Type 0 where
  pub small : set < 2 ^ most_stops
  pub room : most_stops ≤ length l

-- of the stops of a set, `kept` has those whose records pass the test
pub record Thinned (test : Record → Bool) (l : List Record) (set kept : ℕ) : Type 0 where
  pub small : kept < 2 ^ most_stops
  pub among : (s : ℕ) → In s (stops_in kept) → In s (stops_in set)
  pub same : slots kept l ≡ keep test (slots set l)
