-- Node records and the pool's words: document 01, "The pool".
use Rattle.std.specs.Prelude.{cond, List, [], ◌∷◌, ℕ, ◌+◌, ◌*◌, ◌-◌, ◌^◌, ◌/◌, ◌%◌, ltb, length, take, drop}
use Rattle.sizes.specs.Sizes.{record_words, stop_base, word_stops}
use Rattle.lists.specs.Lists.{each, padded}
use Rattle.search.specs.Problem.{State}
use Rattle.search.specs.Run.{held}
use Rattle.orders.specs.Orders.{Node, set_of, mask, size}
use Rattle.days.specs.Days.{Day}

-- The order stands in two words, the second for what the first has no room for. In each, stop s is the digit s-1; the first stop is the
-- lowest digit, and digits that are not used are 0.
abbrev pub order_word : Node → ℕ
order_word [] = 0
order_word (s ∷ x) = (s - 1) + stop_base * order_word x

-- the stop at place k of an order, read from its two words
unfoldable pub stop_at : ℕ → ℕ → ℕ → ℕ
stop_at first second k = cond (ltb k word_stops) (first / stop_base ^ k % stop_base) (second / stop_base ^ (k - word_stops) % stop_base) + 1

-- a node's record on a day: its size, its set, its path cost, its bound, and the two words of its order
unfoldable pub record_of : ℕ → Day → ℕ → Node → List ℕ
record_of n D bound x =
    size n x ∷ mask (set_of n x) ∷ D.path x ∷ D.bound bound x ∷ order_word (take word_stops x) ∷ order_word (drop word_stops x) ∷ []

-- the words of a pool of some length: the records of the nodes that it holds, and zeros behind
unfoldable pub pool_words : ℕ → Day → ℕ → ℕ → ℕ → State Node → List ℕ
pool_words n D bound rules len s = padded len (each (record_of n D bound) (held rules s))

-- how many whole records a pool of some words has
unfoldable pub records_in : List ℕ → ℕ
records_in pool = length pool / record_words
