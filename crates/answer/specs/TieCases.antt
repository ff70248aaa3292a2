-- Cases of request A.8: ties, worked out by hand and by the second planner (`tie_cases_hold`, in proofs/CasesHold).
use Rattle.std.specs.Prelude.{refl, List, [], ◌∷◌, ℕ, replicate}
use Rattle.answer.specs.Call.{Call}
use Rattle.answer.specs.Cases.{call, found, computed, Case, reports, answers, Holds}
use Rattle.answer.specs.OwnCases.{ones, places, pool_of}
use Rattle.answer.specs.BudgetCases.{within, so_far}

-- Selection 1, rules 1 and 4, close, ten records: the branched 143 eliminates 413, whose path costs the same.
unfoldable tied_paths : List ℕ
tied_paths = 0 ∷ 1 ∷ 3 ∷ 3 ∷ 2 ∷ 1 ∷ 0 ∷ 2 ∷ 1 ∷ 1 ∷ 1 ∷ 1 ∷ 0 ∷ 3 ∷ 3 ∷ 1 ∷ 1 ∷ 1 ∷ 0 ∷ 3 ∷ 3 ∷ 1 ∷ 2 ∷ 2 ∷ 0 ∷ []

pub smaller_eliminates : Case
smaller_eliminates =
    answers (call 4 tied_paths 1 5 1 [] 10)
    (record {
      report = found 6 (places (1 ∷ 4 ∷ 3 ∷ 2 ∷ []) 12) 6 16 9 1 7;
      pool =
          pool_of
          ((4 ∷ 15 ∷ 5 ∷ 6 ∷ 4656 ∷ 0 ∷ [])
          ∷ (0 ∷ 0 ∷ 0 ∷ 5 ∷ 0 ∷ 0 ∷ [])
          ∷ (1 ∷ 1 ∷ 1 ∷ 5 ∷ 0 ∷ 0 ∷ [])
          ∷ (2 ∷ 9 ∷ 2 ∷ 6 ∷ 48 ∷ 0 ∷ [])
          ∷ (3 ∷ 13 ∷ 4 ∷ 6 ∷ 560 ∷ 0 ∷ [])
          ∷ (1 ∷ 8 ∷ 2 ∷ 6 ∷ 3 ∷ 0 ∷ [])
          ∷ (2 ∷ 9 ∷ 3 ∷ 6 ∷ 3 ∷ 0 ∷ [])
          ∷ [])
          3;
    })

pub holds_smaller_eliminates : Holds smaller_eliminates
unfolding smaller_eliminates tied_paths computed
holds_smaller_eliminates = refl

-- LIFO, rule 4, plain, every leg 1: the larger of two equal orders is branched first and does not eliminate the smaller. So all 1 + 4 + 12 + 24 + 24
-- nodes are generated, and the 41 that are not complete are branched.
pub larger_spares : Case
larger_spares = reports (call 4 (ones 4) 3 4 0 [] 65) (found 5 (places (1 ∷ 2 ∷ 3 ∷ 4 ∷ []) 12) 41 65 0 24 24)

pub holds_larger_spares : Holds larger_spares
unfolding larger_spares ones computed
holds_larger_spares = refl

-- Why demand 3 compares plain with close under FIFO and LIFO only: under selection 0, with rules 2 and 8, plain branches more nodes here than close, but
-- has fewer active at once.
unfoldable closer_asks_more : List ℕ
closer_asks_more = 0 ∷ 2 ∷ 2 ∷ 2 ∷ 0 ∷ 1 ∷ 0 ∷ 1 ∷ 0 ∷ 0 ∷ 0 ∷ 0 ∷ 0 ∷ 2 ∷ 2 ∷ 1 ∷ 1 ∷ 0 ∷ 0 ∷ 0 ∷ 0 ∷ 2 ∷ 1 ∷ 2 ∷ 0 ∷ []

pub by_plain : Case
by_plain = reports (call 4 closer_asks_more 0 10 0 [] 17) (found 2 (places (2 ∷ 1 ∷ 3 ∷ 4 ∷ []) 12) 21 41 8 12 17)

pub holds_by_plain : Holds by_plain
unfolding by_plain closer_asks_more computed
holds_by_plain = refl

pub by_close : Case
by_close = reports (call 4 closer_asks_more 0 10 1 [] 18) (found 2 (places (2 ∷ 1 ∷ 3 ∷ 4 ∷ []) 12) 15 33 1 17 18)

pub holds_by_close : Holds by_close
unfolding by_close closer_asks_more computed
holds_by_close = refl

-- Case i's table from 21, stopped after two branchings: 12 is not yet found, and 21 is shown, ..
unfoldable from21 : ℕ → Call
from21 budget = within budget (call 2 (replicate 9 0) 1 0 1 (2 ∷ 1 ∷ []) 2)

pub start-shown : Case
start-shown = reports (from21 2) (so_far 0 (found 0 (places (2 ∷ 1 ∷ []) 14) 2 4 0 2 2))

pub holds_start_shown : Holds start-shown
unfolding start-shown from21 computed
holds_start_shown = refl

-- .. where from 12, as cheap, 12 is, with the same counts; ..
pub other_start_shown : Case
other_start_shown = reports (within 2 (call 2 (replicate 9 0) 1 0 1 (1 ∷ 2 ∷ []) 2)) (so_far 0 (found 0 (places (1 ∷ 2 ∷ []) 14) 2 4 0 2 2))

pub holds_other_start_shown : Holds other_start_shown
unfolding other_start_shown computed
holds_other_start_shown = refl

-- .. and finished, from 21 too, it is 12: an order that is found replaces a starting order that is as cheap and larger.
pub start_replaced : Case
start_replaced = reports (from21 3) (found 0 (places (1 ∷ 2 ∷ []) 14) 3 5 0 2 2)

pub holds_start_replaced : Holds start_replaced
unfolding start_replaced from21 computed
holds_start_replaced = refl

unfoldable pub tie_cases : List Case
tie_cases = smaller_eliminates ∷ larger_spares ∷ by_plain ∷ by_close ∷ start-shown ∷ other_start_shown ∷ start_replaced ∷ []
