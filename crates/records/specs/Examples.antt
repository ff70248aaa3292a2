-- Worked examples of records and of the pool's words.
use Rattle.std.specs.Prelude.{◌≡◌, refl, false, [], ◌∷◌, map}
use Rattle.std.proofs.Math.Option.{none}
use Rattle.lists.specs.Lists.{from, padded}
use Rattle.search.specs.Problem.{State}
use Rattle.search.specs.Run.{held}
use Rattle.orders.specs.Orders.{Node, mask}
use Rattle.days.specs.Days.{Day}
use Rattle.stops.specs.Stops.{day}
use Rattle.stops.specs.Examples.{computed_day}
use Rattle.records.specs.Records.{stop_at, record_of, pool_words, records_in}

-- the day of document 01's table T, with every definition that the examples rest on open
day_t : Day
unfolding held mask computed_day stop_at record_of padded pool_words records_in
day_t = computed_day 3 false (0 ∷ 4 ∷ 7 ∷ 9 ∷ 5 ∷ 0 ∷ 2 ∷ 6 ∷ 3 ∷ 8 ∷ 0 ∷ 1 ∷ 6 ∷ 5 ∷ 4 ∷ 0 ∷ [])

-- 21: two stops, bits 0 and 1, path cost 7 + 8; stop 2 stands in the lowest four bits, stop 1 in the next
record_of_21 : record_of 3 day_t 0 (2 ∷ 1 ∷ []) ≡ 2 ∷ 3 ∷ 15 ∷ 15 ∷ 1 ∷ 0 ∷ []
unfolding day_t
record_of_21 = refl

-- the close bound of node 3 is case k's 19
record_of_3 : record_of 3 day_t 1 (3 ∷ []) ≡ 1 ∷ 4 ∷ 9 ∷ 19 ∷ 2 ∷ 0 ∷ []
unfolding day_t
record_of_3 = refl

-- ten stops: the ninth and tenth stand in the second word, 8 + 16 · 9
ten_stops_lem :
    record_of 16 (day 16 (record { leg = λ r s. 1; home = λ s. 0 })) 0 (1 ∷ 2 ∷ 3 ∷ 4 ∷ 5 ∷ 6 ∷ 7 ∷ 8 ∷ 9 ∷ 10 ∷ [])
    ≡ 10 ∷ 1023 ∷ 10 ∷ 10 ∷ 0x7654_3210 ∷ 152 ∷ []
unfolding day_t
ten_stops_lem = refl

-- and are read back from there
stops_of_ten : map (stop_at 0x7654_3210 152) (from 0 10) ≡ 1 ∷ 2 ∷ 3 ∷ 4 ∷ 5 ∷ 6 ∷ 7 ∷ 8 ∷ 9 ∷ 10 ∷ []
unfolding day_t
stops_of_ten = refl

-- a state with two active nodes and e branched
state : State Node
state = record
    { active = (1 ∷ []) ∷ (2 ∷ []) ∷ []; branched = [] ∷ []; best = none; generated = 3; eliminated = 0; most = 2 }

-- without rule 4 the pool holds the active nodes, and zeros behind
words_without_rule_4 : pool_words 3 day_t 0 3 18 state ≡ 1 ∷ 1 ∷ 4 ∷ 4 ∷ 0 ∷ 0 ∷ 1 ∷ 2 ∷ 7 ∷ 7 ∷ 1 ∷ 0 ∷ 0 ∷ 0 ∷ 0 ∷ 0 ∷ 0 ∷ 0 ∷ []
unfolding day_t state
words_without_rule_4 = refl

-- with rule 4 the branched nodes stand behind the active ones (by the close bound, e has a record that is not all 0)
words_with_rule_4 : pool_words 3 day_t 1 4 18 state ≡ 1 ∷ 1 ∷ 4 ∷ 10 ∷ 0 ∷ 0 ∷ 1 ∷ 2 ∷ 7 ∷ 18 ∷ 1 ∷ 0 ∷ 0 ∷ 0 ∷ 0 ∷ 10 ∷ 0 ∷ 0 ∷ []
unfolding day_t state
words_with_rule_4 = refl
