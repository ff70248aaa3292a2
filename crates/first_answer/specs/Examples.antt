-- Worked examples of first orders: document 01's table T, ties, exchanges, pairs and refusals. They stand beside the definitions, and the laws name
-- this module so that it is checked before them: a wrong definition is met here first.
use Rattle.std.specs.Prelude.{◌≡◌, refl, List, [], ◌∷◌, map, ℕ, ◌/◌, replicate}
use Rattle.lists.specs.Lists.{padded}
use Rattle.orders.specs.Orders.{flown, count, left, last}
use Rattle.orders.specs.Pairs.{respects}
use Rattle.stops.specs.Tables.{entry, charge, flying, counted, in_rows, rows}
use Rattle.stops.specs.Bounds.{ends_away}
use Rattle.stops.specs.Legs.{row_leg, legs, path, cost}
use Rattle.answer.specs.Cases.{table_t}
use Rattle.answer.specs.Checks.{cause₁, cause₂, cause₃, no_such_bound, cause₁₁, table_cause, first_cause}
use Rattle.first_answer.specs.Nearest.{cheapest, next_stops, nearest}
use Rattle.first_answer.specs.Exchanges.{exchanged, behind, exchanges, best_exchange, improved}
use Rattle.first_answer.specs.First.{legs_of, nearest_of, first_of, respond, first_answer}
use Rattle.first_answer.specs.declared.FirstOrder.{FirstOrder}

-- an answer, with every definition that it rests on open: a proof that says `unfolding computed` computes it
computed : ℕ → ℕ → List ℕ → List ℕ → FirstOrder
unfolding padded flown count left last respects entry charge flying counted in_rows rows row_leg legs path cost cause₁ cause₂ cause₃ no_such_bound cause₁₁ table_cause first_cause ends_away next_stops nearest exchanged behind exchanges best_exchange improved legs_of nearest_of first_of respond first_answer
computed = first_answer

-- an answer to three stops
three : ℕ → ℕ → ℕ → ℕ → FirstOrder
three cost a b c = record { number = 0; cost = cost; order = a ∷ b ∷ c ∷ replicate 13 0 }

refused : ℕ → FirstOrder
refused number = record { number = number; cost = 0; order = replicate 16 0 }

-- by the tens: the least, and of equals the first
first_of_equals : cheapest (λ (k : ℕ). k / 10) 31 (21 ∷ 40 ∷ 22 ∷ []) ≡ 21
first_of_equals = refl

-- the six exchanges of an order of four stops: by the first position, then by the second, and the stops between stay where they are
exchanges_of_1234 :
    exchanges (1 ∷ 2 ∷ 3 ∷ 4 ∷ [])
    ≡ (2 ∷ 1 ∷ 3 ∷ 4 ∷ []) ∷ (3 ∷ 2 ∷ 1 ∷ 4 ∷ []) ∷ (4 ∷ 2 ∷ 3 ∷ 1 ∷ []) ∷ (1 ∷ 3 ∷ 2 ∷ 4 ∷ []) ∷ (1 ∷ 4 ∷ 3 ∷ 2 ∷ []) ∷ (1 ∷ 2 ∷ 4 ∷ 3 ∷ []) ∷ []
unfolding computed
exchanges_of_1234 = refl

-- in T the nearest stop is 1 (4), then 2 (2), then 3; no exchange is cheaper than 13
first_of_T : first_answer 3 0 table_t [] ≡ three 13 1 2 3
unfolding computed table_t three
first_of_T = refl

-- home is as near to 1 as to 2, which is nearer than 3: of equals the lowest
lowest_of_equals : first_answer 3 0 (0 ∷ 0 ∷ 0 ∷ 1 ∷ 0 ∷ 0 ∷ 1 ∷ 0 ∷ 0 ∷ 0 ∷ 0 ∷ 0 ∷ 2 ∷ 0 ∷ 0 ∷ 0 ∷ []) [] ≡ three 0 1 3 2
unfolding computed three
lowest_of_equals = refl

-- 312 costs 2: its exchange 132 costs 2 too, 213 costs 1, 321 nothing
exchanged_table : List ℕ
exchanged_table = 0 ∷ 2 ∷ 1 ∷ 0 ∷ 0 ∷ 0 ∷ 2 ∷ 0 ∷ 0 ∷ 0 ∷ 0 ∷ 0 ∷ 0 ∷ 0 ∷ 0 ∷ 0 ∷ []

nearest_before_exchange : nearest_of 3 0 exchanged_table [] ≡ 3 ∷ 1 ∷ 2 ∷ []
unfolding computed exchanged_table
nearest_before_exchange = refl

greatest_gain : first_answer 3 0 exchanged_table [] ≡ three 0 3 2 1
unfolding computed exchanged_table three
greatest_gain = refl

-- 123 costs 3, and both 321 (positions 0 and 2) and 132 (1 and 2) cost nothing: the smallest first position
smallest_first_position : first_answer 3 0 (0 ∷ 0 ∷ 0 ∷ 0 ∷ 0 ∷ 0 ∷ 0 ∷ 0 ∷ 0 ∷ 0 ∷ 0 ∷ 0 ∷ 3 ∷ 1 ∷ 0 ∷ 0 ∷ []) [] ≡ three 0 3 2 1
unfolding computed three
smallest_first_position = refl

-- 1243 costs 6, and four exchanges cost 5: 3241 has the smallest first position (0 and 3), 1423 (1 and 2) the smallest second; then 2341 costs 4
second_table : List ℕ
second_table =
    0 ∷ 0 ∷ 0 ∷ 1 ∷ 0 ∷ 2 ∷ 0 ∷ 0 ∷ 2 ∷ 0 ∷ 3 ∷ 4 ∷ 0 ∷ 2 ∷ 0 ∷ 3 ∷ 0 ∷ 2 ∷ 0 ∷ 0 ∷ 3 ∷ 0 ∷ 0 ∷ 3 ∷ 0 ∷ []

first_position_before_second : first_of 4 0 second_table [] ≡ 2 ∷ 3 ∷ 4 ∷ 1 ∷ []
unfolding computed second_table
first_position_before_second = refl

-- 132 costs 3; the best exchange leads to 123 at 1, and the next to 213 at 0
two_exchanges : first_answer 3 0 (0 ∷ 0 ∷ 0 ∷ 0 ∷ 1 ∷ 0 ∷ 1 ∷ 0 ∷ 1 ∷ 0 ∷ 0 ∷ 0 ∷ 0 ∷ 1 ∷ 2 ∷ 0 ∷ []) [] ≡ three 0 2 1 3
unfolding computed three
two_exchanges = refl

-- no exchange of 123 is cheaper, and yet 231, which is none, costs less: a first order need not be the cheapest
missed_table : List ℕ
missed_table = 0 ∷ 1 ∷ 2 ∷ 9 ∷ 1 ∷ 0 ∷ 1 ∷ 9 ∷ 9 ∷ 9 ∷ 0 ∷ 1 ∷ 5 ∷ 1 ∷ 9 ∷ 0 ∷ []

not_the_cheapest : (first_answer 3 0 missed_table [] ≡ three 8 1 2 3) × (cost (legs_of 3 0 missed_table) (2 ∷ 3 ∷ 1 ∷ []) ≡ 5)
unfolding computed missed_table three
not_the_cheapest = (refl, refl)

-- one stop has no exchange
one_stop : first_answer 1 0 (0 ∷ 3 ∷ 5 ∷ 0 ∷ []) [] ≡ three 8 1 0 0
unfolding computed three
one_stop = refl

-- T with charges of 2 at home and of 1, 20 and 3 at the stops (request A.4): the nearest stop is 1 at 4 + 1, then 3 at 6 + 3, where 2 costs
-- 2 + 20; an exchange leads to 123, which costs its legs, 13, and every charge, 26
charged_table : List ℕ
charged_table = 2 ∷ 4 ∷ 7 ∷ 9 ∷ 5 ∷ 1 ∷ 2 ∷ 6 ∷ 3 ∷ 8 ∷ 20 ∷ 1 ∷ 6 ∷ 5 ∷ 4 ∷ 3 ∷ []

nearest_with_charges : nearest_of 3 0 charged_table [] ≡ 1 ∷ 3 ∷ 2 ∷ []
unfolding computed charged_table
nearest_with_charges = refl

first_with_charges : first_answer 3 0 charged_table [] ≡ three 39 1 2 3
unfolding computed charged_table three
first_with_charges = refl

-- two stops, with a dear leg home from 2: 12 is the nearest-stop order, and costs 102; where the day ends at home, 21 costs 11, and where it ends
-- away (request A.5), 12 costs 2 and 21 costs 10
two : ℕ → ℕ → ℕ → FirstOrder
two cost a b = record { number = 0; cost = cost; order = a ∷ b ∷ replicate 14 0 }

dear_home_legs : List ℕ
dear_home_legs = 0 ∷ 1 ∷ 5 ∷ 1 ∷ 0 ∷ 1 ∷ 100 ∷ 5 ∷ 0 ∷ []

each-end : map (λ bound. first_answer 2 bound dear_home_legs []) (0 ∷ 1 ∷ 2 ∷ 3 ∷ []) ≡ two 11 2 1 ∷ two 11 2 1 ∷ two 2 1 2 ∷ two 2 1 2 ∷ []
unfolding computed dear_home_legs two
each-end = refl

-- no bound 4 (request A.5)
no_bound_4 : first_answer 2 4 dear_home_legs [] ≡ refused 4
unfolding computed dear_home_legs refused
no_bound_4 = refl

-- causes 1 to 3, the lowest that applies, before 4 and 11, and zeros
refusals : map (λ n. first_answer n 4 (0 ∷ 3 ∷ 5 ∷ 100_001 ∷ []) (1 ∷ [])) (0 ∷ 17 ∷ 2 ∷ 1 ∷ []) ≡ map refused (1 ∷ 1 ∷ 2 ∷ 3 ∷ [])
unfolding computed refused
refusals = refl

-- a leg above the dearest; and a leg and a charge that are the dearest, whose sum is above it
dear-leg : (first_answer 1 0 (0 ∷ 1_000_001 ∷ 5 ∷ 0 ∷ []) []).number ≡ 3
unfolding computed
dear-leg = refl

dearest-flying : (first_answer 1 0 (0 ∷ 1_000_000 ∷ 5 ∷ 100_000 ∷ []) []).number ≡ 0
unfolding computed
dearest-flying = refl

-- REQUEST A.6

-- in T the nearest stop is 1, but 2 is to be flown before it: from home to 2, then to 3, which is nearer than 1
waiting_stop : nearest_of 3 0 table_t (2 ∷ 1 ∷ []) ≡ 2 ∷ 3 ∷ 1 ∷ []
unfolding computed table_t
waiting_stop = refl

-- 123 costs 2, its exchange 321 nothing, and 213 costs 1: where 1 is to be flown before 3, 321 is not made, and 213 is
against_table : List ℕ
against_table = 0 ∷ 0 ∷ 0 ∷ 0 ∷ 0 ∷ 0 ∷ 0 ∷ 1 ∷ 1 ∷ 0 ∷ 0 ∷ 2 ∷ 0 ∷ 0 ∷ 0 ∷ 0 ∷ []

exchange_against : map (first_answer 3 0 against_table) ([] ∷ (1 ∷ 3 ∷ []) ∷ []) ≡ three 0 3 2 1 ∷ three 1 2 1 3 ∷ []
unfolding computed against_table three
exchange_against = refl

-- 231 costs 18 and its exchange 132 costs 17, which is against the pair; and a pair that the first order of T keeps anyway changes nothing
first_of_T_with_pairs : map (first_answer 3 0 table_t) ((2 ∷ 1 ∷ []) ∷ (1 ∷ 2 ∷ []) ∷ []) ≡ three 18 2 3 1 ∷ three 13 1 2 3 ∷ []
unfolding computed table_t three
first_of_T_with_pairs = refl

-- where 1 is to be flown before 2, no exchange of 312 that may be made is cheaper
no_exchange_left : first_answer 3 0 exchanged_table (1 ∷ 2 ∷ []) ≡ three 2 3 1 2
unfolding computed exchanged_table three
no_exchange_left = refl

-- two pairs, 4 before 1 and 3 before 2: the nearest-stop order is 4132, and two exchanges lead to 3412
two_pairs :
    (nearest_of 4 0 second_table (4 ∷ 1 ∷ 3 ∷ 2 ∷ []) ≡ 4 ∷ 1 ∷ 3 ∷ 2 ∷ [])
    × (first_of 4 0 second_table (4 ∷ 1 ∷ 3 ∷ 2 ∷ []) ≡ 3 ∷ 4 ∷ 1 ∷ 2 ∷ [])
unfolding computed second_table
two_pairs = (refl, refl)

-- an odd length; a stop that is none of 1 to n; twice the same stop, in one pair and in two; and eight pairs and one more
bad_pairs :
    map (first_answer 3 0 table_t)
    ((1 ∷ []) ∷ (1 ∷ 4 ∷ []) ∷ (0 ∷ 1 ∷ []) ∷ (2 ∷ 2 ∷ []) ∷ (1 ∷ 2 ∷ 2 ∷ 3 ∷ []) ∷ replicate 18 1 ∷ [])
    ≡ replicate 6 (refused 11)
unfolding computed table_t refused
bad_pairs = refl

-- 11 comes behind 4
eleven_behind_four : map (λ bound. first_answer 2 bound dear_home_legs (1 ∷ [])) (3 ∷ 4 ∷ []) ≡ refused 11 ∷ refused 4 ∷ []
unfolding computed dear_home_legs refused
eleven_behind_four = refl
