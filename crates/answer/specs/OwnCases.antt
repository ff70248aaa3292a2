-- Cases of our own, beside document 01's: rules 8, 10 and 15 on tables with ties, a refusal by 7 under rule 4, and case i's table under FIFO, each
-- with the whole report and every word of the pool at the end (`own_cases_hold`, in proofs/CasesHold); and each cause at its edge. They were worked
-- out by hand and by the second planner (host/witness). Further cases of ties, rule 4 among them, are in `TieCases`.
use Rattle.std.specs.Prelude.{◌≡◌, refl, cond, List, [], ◌∷◌, ◌++◌, map, ℕ, suc, ◌*◌, ◌%◌, eqb, replicate}
use Rattle.sizes.specs.Sizes.{record_words}
use Rattle.lists.specs.Lists.{each, from}
use Rattle.answer.specs.Call.{Call}
use Rattle.answer.specs.Checks.{cause}
use Rattle.answer.specs.Cases.{call, found, refused, computed, Case, answers, Holds, table_t}

-- the table of n stops whose legs all cost 1
unfoldable pub ones : ℕ → List ℕ
ones n = map (λ k. cond (eqb (k % suc (suc n)) 0) 0 1) (from 0 (suc n * suc n))

-- an order of sixteen places
abbrev pub places : List ℕ → ℕ → List ℕ
places order zeros = order ++ replicate zeros 0

-- the pool: its records, then some records of zeros
abbrev pub pool_of : List (List ℕ) → ℕ → List ℕ
pool_of records zeros = each (λ r. r) records ++ replicate (record_words * zeros) 0

-- Case i's table under FIFO: 12 is found first, and 21, as cheap but larger, does not replace it.
pub fifo_on_case_i : Case
fifo_on_case_i =
    answers (call 2 (replicate 9 0) 2 0 1 [] 3)
    (record {
      report = found 0 (places (1 ∷ 2 ∷ []) 14) 3 5 0 2 2;
      pool =
          pool_of
          ((2 ∷ 3 ∷ 0 ∷ 0 ∷ 16 ∷ 0 ∷ [])
          ∷ (2 ∷ 3 ∷ 0 ∷ 0 ∷ 1 ∷ 0 ∷ [])
          ∷ [])
          1;
    })

pub holds_fifo_on_case_i : Holds fifo_on_case_i
unfolding fifo_on_case_i computed
holds_fifo_on_case_i = refl

-- FIFO, rule 4, plain, eight records: after three steps five active and three branched nodes fill the pool; the fourth step would keep ten.
pub rule_4_fills : Case
rule_4_fills =
    answers (call 3 (ones 3) 2 4 0 [] 8)
    (record {
      report = refused 7 3 8 0 5 5;
      pool =
          pool_of
          ((1 ∷ 4 ∷ 1 ∷ 1 ∷ 2 ∷ 0 ∷ [])
          ∷ (2 ∷ 3 ∷ 2 ∷ 2 ∷ 16 ∷ 0 ∷ [])
          ∷ (2 ∷ 5 ∷ 2 ∷ 2 ∷ 32 ∷ 0 ∷ [])
          ∷ (2 ∷ 3 ∷ 2 ∷ 2 ∷ 1 ∷ 0 ∷ [])
          ∷ (2 ∷ 6 ∷ 2 ∷ 2 ∷ 33 ∷ 0 ∷ [])
          ∷ (0 ∷ 0 ∷ 0 ∷ 0 ∷ 0 ∷ 0 ∷ [])
          ∷ (1 ∷ 1 ∷ 1 ∷ 1 ∷ 0 ∷ 0 ∷ [])
          ∷ (1 ∷ 2 ∷ 1 ∷ 1 ∷ 1 ∷ 0 ∷ [])
          ∷ [])
          0;
    })

pub holds_rule_4_fills : Holds rule_4_fills
unfolding rule_4_fills ones computed
holds_rule_4_fills = refl

-- LIFO, rule 8, close, five records: of two equal orders with one last stop the child, which is the smaller, eliminates the earlier one, and at last 123
-- is the order known.
pub rule_8_keeps_smaller : Case
rule_8_keeps_smaller =
    answers (call 3 (ones 3) 3 8 1 [] 5)
    (record {
      report = found 4 (places (1 ∷ 2 ∷ 3 ∷ []) 13) 10 16 3 3 5;
      pool =
          pool_of
          ((3 ∷ 7 ∷ 3 ∷ 4 ∷ 33 ∷ 0 ∷ [])
          ∷ (3 ∷ 7 ∷ 3 ∷ 4 ∷ 288 ∷ 0 ∷ [])
          ∷ (3 ∷ 7 ∷ 3 ∷ 4 ∷ 528 ∷ 0 ∷ [])
          ∷ [])
          2;
    })

pub holds_rule_8_keeps_smaller : Holds rule_8_keeps_smaller
unfolding rule_8_keeps_smaller ones computed
holds_rule_8_keeps_smaller = refl

-- Selection 1, rules 2 and 8, plain, six records: three complete children fall to equal active ones that are smaller, and eliminate nothing.
pub rules_2_and_8 : Case
rules_2_and_8 =
    answers (call 3 (ones 3) 1 10 0 [] 6)
    (record {
      report = found 4 (places (1 ∷ 2 ∷ 3 ∷ []) 13) 10 16 3 3 6;
      pool =
          pool_of
          ((3 ∷ 7 ∷ 3 ∷ 4 ∷ 288 ∷ 0 ∷ [])
          ∷ (3 ∷ 7 ∷ 3 ∷ 4 ∷ 528 ∷ 0 ∷ [])
          ∷ (3 ∷ 7 ∷ 3 ∷ 4 ∷ 33 ∷ 0 ∷ [])
          ∷ [])
          3;
    })

pub holds_rules_2_and_8 : Holds rules_2_and_8
unfolding rules_2_and_8 ones computed
holds_rules_2_and_8 = refl

-- Selection 0, all rules, close, thirteen records: every bound is 4, so that all nodes that are not complete are branched before a complete one is
-- chosen; three complete children fall to smaller orders.
pub all_rules_tied : Case
all_rules_tied =
    answers (call 3 (ones 3) 0 15 1 [] 13)
    (record {
      report = found 4 (places (1 ∷ 2 ∷ 3 ∷ []) 13) 10 16 3 3 6;
      pool =
          pool_of
          ((3 ∷ 7 ∷ 3 ∷ 4 ∷ 528 ∷ 0 ∷ [])
          ∷ (3 ∷ 7 ∷ 3 ∷ 4 ∷ 288 ∷ 0 ∷ [])
          ∷ (3 ∷ 7 ∷ 3 ∷ 4 ∷ 33 ∷ 0 ∷ [])
          ∷ (0 ∷ 0 ∷ 0 ∷ 4 ∷ 0 ∷ 0 ∷ [])
          ∷ (1 ∷ 1 ∷ 1 ∷ 4 ∷ 0 ∷ 0 ∷ [])
          ∷ (1 ∷ 2 ∷ 1 ∷ 4 ∷ 1 ∷ 0 ∷ [])
          ∷ (1 ∷ 4 ∷ 1 ∷ 4 ∷ 2 ∷ 0 ∷ [])
          ∷ (2 ∷ 3 ∷ 2 ∷ 4 ∷ 16 ∷ 0 ∷ [])
          ∷ (2 ∷ 5 ∷ 2 ∷ 4 ∷ 32 ∷ 0 ∷ [])
          ∷ (2 ∷ 3 ∷ 2 ∷ 4 ∷ 1 ∷ 0 ∷ [])
          ∷ (2 ∷ 6 ∷ 2 ∷ 4 ∷ 33 ∷ 0 ∷ [])
          ∷ (2 ∷ 5 ∷ 2 ∷ 4 ∷ 2 ∷ 0 ∷ [])
          ∷ (2 ∷ 6 ∷ 2 ∷ 4 ∷ 18 ∷ 0 ∷ [])
          ∷ [])
          0;
    })

pub holds_all_rules_tied : Holds all_rules_tied
unfolding all_rules_tied ones computed
holds_all_rules_tied = refl

-- Selection 0, all rules, plain, from 123 in nine records: rule 1 eliminates five children, and the pool is just large enough.
pub all_rules_started : Case
all_rules_started =
    answers (call 3 table_t 0 15 0 (1 ∷ 2 ∷ 3 ∷ []) 9)
    (record {
      report = found 13 (places (1 ∷ 2 ∷ 3 ∷ []) 13) 8 14 5 1 4;
      pool =
          pool_of
          ((3 ∷ 7 ∷ 7 ∷ 13 ∷ 528 ∷ 0 ∷ [])
          ∷ (0 ∷ 0 ∷ 0 ∷ 0 ∷ 0 ∷ 0 ∷ [])
          ∷ (1 ∷ 1 ∷ 4 ∷ 4 ∷ 0 ∷ 0 ∷ [])
          ∷ (2 ∷ 3 ∷ 6 ∷ 6 ∷ 16 ∷ 0 ∷ [])
          ∷ (1 ∷ 2 ∷ 7 ∷ 7 ∷ 1 ∷ 0 ∷ [])
          ∷ (2 ∷ 6 ∷ 8 ∷ 8 ∷ 33 ∷ 0 ∷ [])
          ∷ (1 ∷ 4 ∷ 9 ∷ 9 ∷ 2 ∷ 0 ∷ [])
          ∷ (2 ∷ 5 ∷ 10 ∷ 10 ∷ 32 ∷ 0 ∷ [])
          ∷ (2 ∷ 6 ∷ 13 ∷ 13 ∷ 18 ∷ 0 ∷ [])
          ∷ [])
          0;
    })

pub holds_all_rules_started : Holds all_rules_started
unfolding all_rules_started table_t computed
holds_all_rules_started = refl

unfoldable pub own_cases : List Case
own_cases = fifo_on_case_i ∷ rule_4_fills ∷ rule_8_keeps_smaller ∷ rules_2_and_8 ∷ all_rules_tied ∷ all_rules_started ∷ []

-- Each cause by itself, at its edge: document 01's table of causes, row by row, with 3 as request A.4 has it and 4 as A.5 has it. h is case h's table.
h : List ℕ
h = 0 ∷ 3 ∷ 5 ∷ 0 ∷ []

abbrev part_record : Call
part_record = record { job = record { n = 1; selection = 0; rules = 0; bound = 0 }; table = h; start = []; pairs = []; budget = 0; pool = replicate 7 7 }

each-cause :
    map cause
    (call 0 (0 ∷ []) 0 0 0 [] 1
    ∷ call 1 (0 ∷ 3 ∷ 5 ∷ []) 0 0 0 [] 1
    ∷ call 1 (100_001 ∷ 3 ∷ 5 ∷ 0 ∷ []) 0 0 0 [] 1
    ∷ call 1 (0 ∷ 3 ∷ 5 ∷ 100_001 ∷ []) 0 0 0 [] 1
    ∷ call 1 h 4 0 0 [] 1
    ∷ call 1 h 0 16 0 [] 1
    ∷ call 1 h 0 0 4 [] 1
    ∷ call 1 h 0 0 0 (2 ∷ []) 1
    ∷ call 1 h 0 0 0 (1 ∷ 1 ∷ []) 1
    ∷ call 1 h 0 0 0 [] 0
    ∷ part_record
    ∷ call 1 h 3 15 3 (1 ∷ []) 1
    ∷ [])
    ≡ 1 ∷ 2 ∷ 3 ∷ 3 ∷ 4 ∷ 4 ∷ 4 ∷ 5 ∷ 5 ∷ 6 ∷ 6 ∷ 0 ∷ []
unfolding h computed
each-cause = refl

-- Of several causes the first is returned; without pairs that is the lowest number.
lowest_of_several :
    map cause
    (call 17 (1 ∷ []) 4 0 0 (2 ∷ []) 0
    ∷ call 1 (1 ∷ []) 4 0 0 (2 ∷ []) 0
    ∷ call 1 (100_001 ∷ 3 ∷ 5 ∷ 0 ∷ []) 4 0 0 (2 ∷ []) 0
    ∷ call 1 h 4 0 0 (2 ∷ []) 0
    ∷ call 1 h 0 0 0 (2 ∷ []) 0
    ∷ [])
    ≡ 1 ∷ 2 ∷ 3 ∷ 4 ∷ 5 ∷ []
unfolding h computed
lowest_of_several = refl
