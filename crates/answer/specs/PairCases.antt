-- Cases of request A.6: days with pairs, worked out by hand and by the second planner (`pair_cases_hold`, in proofs/CasesHold); and checks 5 and 11
-- fault by fault.
use Rattle.std.specs.Prelude.{◌≡◌, refl, true, false, List, [], ◌∷◌, map, ℕ, replicate}
use Rattle.lists.specs.Lists.{from}
use Rattle.answer.specs.Call.{Call}
use Rattle.answer.specs.Checks.{cause₁₁, cause}
use Rattle.answer.specs.Cases.{call, found, refused, computed, Case, reports, answers, Holds, table_t}
use Rattle.answer.specs.BudgetCases.{within, so_far, none}

-- a call with the bytes of a pair file
abbrev pub paired : List ℕ → Call → Call
paired pairs c = record { job = c.job; table = c.table; start = c.start; pairs = pairs; budget = c.budget; pool = c.pool }

abbrev order231 : List ℕ
order231 = 2 ∷ 3 ∷ 1 ∷ replicate 13 0

-- In T, 3 is flown before 1. Case a's order 123, at 13, is against it; of 231, 312 and 321, at 18, 19 and 26, the first is cheapest. Without rules
-- each node that respects the pair is generated, nine of sixteen.
unfoldable three_first : Call
three_first = paired (3 ∷ 1 ∷ []) (call 3 table_t 0 0 0 [] 9)

pub all_respecting : Case
all_respecting = reports three_first (found 18 order231 6 9 0 3 3)

pub holds_all_respecting : Holds all_respecting
unfolding all_respecting three_first table_t computed
holds_all_respecting = refl

-- The pilot's choices, from 312.
pub pilot : Case
pilot = reports (paired (3 ∷ 1 ∷ []) (call 3 table_t 3 1 1 (3 ∷ 1 ∷ 2 ∷ []) 9)) (found 18 order231 5 8 2 1 2)

pub holds_pilot : Holds pilot
unfolding pilot table_t computed
holds_pilot = refl

-- Every rule on. What is left is 231; then come the nodes branched, e, 2, 23, 3, 32 and 31.
pub all-rules : Case
all-rules =
    answers (paired (3 ∷ 1 ∷ []) (call 3 table_t 0 15 0 [] 8))
    (record {
      report = found 18 order231 6 9 2 1 3;
      pool =
          3 ∷ 7 ∷ 13 ∷ 18 ∷ 33 ∷ 0
          ∷ 0 ∷ 0 ∷ 0 ∷ 0 ∷ 0 ∷ 0
          ∷ 1 ∷ 2 ∷ 7 ∷ 7 ∷ 1 ∷ 0
          ∷ 2 ∷ 6 ∷ 8 ∷ 8 ∷ 33 ∷ 0
          ∷ 1 ∷ 4 ∷ 9 ∷ 9 ∷ 2 ∷ 0
          ∷ 2 ∷ 6 ∷ 13 ∷ 13 ∷ 18 ∷ 0
          ∷ 2 ∷ 5 ∷ 14 ∷ 14 ∷ 2 ∷ 0
          ∷ replicate 6 0;
    })

pub holds_all_rules : Holds all-rules
unfolding all-rules table_t computed
holds_all_rules = refl

-- FIFO, after three branchings: 23, 31 and 32 are active.
pub stops_early : Case
stops_early =
    answers (within 3 (paired (3 ∷ 1 ∷ []) (call 3 table_t 2 0 0 [] 3)))
    (record { report = so_far 8 (found 0 none 3 6 0 3 3); pool = 2 ∷ 6 ∷ 8 ∷ 8 ∷ 33 ∷ 0 ∷ 2 ∷ 5 ∷ 14 ∷ 14 ∷ 2 ∷ 0 ∷ 2 ∷ 6 ∷ 13 ∷ 13 ∷ 18 ∷ 0 ∷ [] })

pub holds_stops_early : Holds stops_early
unfolding stops_early table_t computed
holds_stops_early = refl

-- The same in two records: 3 has two children, and 23 waits.
pub fills : Case
fills =
    answers (paired (3 ∷ 1 ∷ []) (call 3 table_t 2 0 0 [] 2))
    (record { report = refused 7 2 4 0 2 2; pool = 1 ∷ 4 ∷ 9 ∷ 9 ∷ 2 ∷ 0 ∷ 2 ∷ 6 ∷ 8 ∷ 8 ∷ 33 ∷ 0 ∷ [] })

pub holds_fills : Holds fills
unfolding fills table_t computed
holds_fills = refl

-- Four stops, 3 before 1 and 2 before 4: six of the 24 orders, each of them generated.
unfoldable table_four : List ℕ
table_four = 0 ∷ 3 ∷ 8 ∷ 1 ∷ 9 ∷ 4 ∷ 0 ∷ 2 ∷ 7 ∷ 5 ∷ 6 ∷ 1 ∷ 0 ∷ 3 ∷ 8 ∷ 2 ∷ 9 ∷ 4 ∷ 0 ∷ 7 ∷ 5 ∷ 6 ∷ 3 ∷ 8 ∷ 0 ∷ []

pub two_pairs : Case
two_pairs = reports (paired (3 ∷ 1 ∷ 2 ∷ 4 ∷ []) (call 4 table_four 2 0 1 [] 9)) (found 16 (3 ∷ 2 ∷ 1 ∷ 4 ∷ replicate 12 0) 13 19 0 6 6)

pub holds_two_pairs : Holds two_pairs
unfolding two_pairs table_four computed
holds_two_pairs = refl

unfoldable pub pair_cases : List Case
pair_cases = all_respecting ∷ pilot ∷ all-rules ∷ stops_early ∷ fills ∷ two_pairs ∷ []

-- Pair files that pass where there are three stops: none, one pair, and one the other way round; where there are sixteen, eight pairs.
pairs_pass_at : (map (cause₁₁ 3) ([] ∷ (3 ∷ 1 ∷ []) ∷ (1 ∷ 3 ∷ []) ∷ []) ≡ false ∷ false ∷ false ∷ []) × (cause₁₁ 16 (from 1 16) ≡ false)
unfolding three_first computed
pairs_pass_at = (refl, refl)

-- 11: one byte, three bytes, stop 0, stop 4 of three, the largest byte, one stop twice in a pair, and a stop of another pair in each place.
each_fault :
    map (cause₁₁ 3)
    ((3 ∷ [])
    ∷ (3 ∷ 1 ∷ 2 ∷ [])
    ∷ (0 ∷ 1 ∷ [])
    ∷ (1 ∷ 4 ∷ [])
    ∷ (255 ∷ 1 ∷ [])
    ∷ (2 ∷ 2 ∷ [])
    ∷ (3 ∷ 1 ∷ 3 ∷ 2 ∷ [])
    ∷ (3 ∷ 1 ∷ 2 ∷ 3 ∷ [])
    ∷ (3 ∷ 1 ∷ 1 ∷ 2 ∷ [])
    ∷ (3 ∷ 1 ∷ 2 ∷ 1 ∷ [])
    ∷ [])
    ≡ true ∷ true ∷ true ∷ true ∷ true ∷ true ∷ true ∷ true ∷ true ∷ true ∷ []
unfolding three_first computed
each_fault = refl

-- nine pairs, of whatever stops
nine_pairs : cause₁₁ 18 (from 1 18) ≡ true
unfolding three_first computed
nine_pairs = refl

-- The sequence of the checks, of T with no record in the pool, which is 6. Bound 4 comes before bad pairs, and a starting order that is none before them
-- too; with one that is an order, or with none, they are 11; an order against pairs that pass is 5, and one that respects them is not.
sequence :
    map cause
    (paired (3 ∷ []) (call 3 table_t 0 0 4 [] 0)
    ∷ paired (3 ∷ []) (call 3 table_t 0 0 0 (1 ∷ 2 ∷ []) 0)
    ∷ paired (3 ∷ []) (call 3 table_t 0 0 0 (1 ∷ 2 ∷ 3 ∷ []) 0)
    ∷ paired (3 ∷ 1 ∷ 3 ∷ 2 ∷ []) (call 3 table_t 0 0 0 (1 ∷ 2 ∷ 3 ∷ []) 0)
    ∷ paired (3 ∷ []) (call 3 table_t 0 0 0 [] 0)
    ∷ paired (3 ∷ 1 ∷ []) (call 3 table_t 0 0 0 (1 ∷ 2 ∷ 3 ∷ []) 0)
    ∷ paired (3 ∷ 1 ∷ []) (call 3 table_t 0 0 0 (3 ∷ 1 ∷ 2 ∷ []) 0)
    ∷ paired (3 ∷ 1 ∷ []) (call 3 table_t 0 0 0 (3 ∷ 1 ∷ 2 ∷ []) 1)
    ∷ [])
    ≡ 4 ∷ 5 ∷ 11 ∷ 11 ∷ 11 ∷ 5 ∷ 6 ∷ 0 ∷ []
unfolding table_t computed
sequence = refl
