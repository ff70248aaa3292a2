-- The letter's demands and requests A.3 to A.6 and A.8 of what `plan` returns and leaves in the pool, from its promise alone: that is an equation with
-- `answer`, of which crate `answer` proves them.
use Rattle.answer.specs.Demands.{EveryCallIsAnswered, EveryCallEnds, OneAnswer, RefusalsFixed, RunIsWritten, CountsBalance, FullIff, OneCost, CheapestOfAll, FavouredFinishes}
use Rattle.answer.specs.Budget.{MarkedIff, StoppedAsWritten, OtherwiseZero, ExactBudget, WithinBudget, OrderOrZeros, NoDearerThanStart, FloorHolds, Between, LargerBudget, UnstoppedAsWithout, NoRunReaches}
use Rattle.answer.specs.Charges.{OrderShownPays, CheapestByLegs}
use Rattle.answer.specs.Away.{AnswersAway, CheapestWithoutLegHome, NoDearerAway, LegsHomeUnread}
use Rattle.answer.specs.Pairs.{InSequence, RefusedAsByFive, SomeActive, SequencePlaysNoPart}
use Rattle.answer.specs.Ties.{OneOrder, LargerBudgetSmaller, EqualStart}
use Rattle.answer.specs.AsBefore.{NoPairsAsBefore, EndsHomeAsBefore, UnchargedByLegs, AsDocument01, AcceptedBefore}
use Rattle.answer.specs.Document01.{FinishedIff, BranchedAreSteps, ContentsPlayNoPart}
use Rattle.answer.proofs.Demand1.{call-answered, call_ends, one_answer, refusals_fixed}
use Rattle.answer.proofs.Demand2.{run_is_written, counts_balance, full_iff, finished_iff, branched_are_steps}
use Rattle.answer.proofs.Demand3.{one_cost, cheapest_of_all}
use Rattle.answer.proofs.Demand3Pairs.{favoured_finishes}
use Rattle.answer.proofs.Contents.{contents_play_no_part}
use Rattle.answer.proofs.Budget.{marked_iff, stopped_as_written, otherwise_zero, exact_budget, within_budget, order_or_zeros, floor_holds, best_between, no_run_reaches}
use Rattle.answer.proofs.BudgetPairs.{no_dearer_than_start, larger_budget, unstopped_as_without}
use Rattle.answer.proofs.Charges.{order_shown_pays, cheapest_by_legs}
use Rattle.answer.proofs.Away.{answers_away, cheapest_without_leg_home, no_dearer_away, legs_home_unread}
use Rattle.answer.proofs.Active.{some_active}
use Rattle.answer.proofs.Pairs.{in_sequence, refused_as_by_five, sequence_plays_no_part}
use Rattle.answer.proofs.Ties.{one_order, larger_budget_smaller, equal_start}
use Rattle.answer.proofs.AsBefore.{no_pairs_as_before, ends_home_as_before, uncharged_by_legs, as_document_01, accepted_before}
use Rattle.planner.specs.Demands.{returned}

-- demand 1 (that the code's call returns at all is what every proved contract says)
pub returned-answered : EveryCallIsAnswered returned
returned-answered = call-answered

pub returned-ends : EveryCallEnds returned
returned-ends = call_ends

pub returned_one_answer : OneAnswer returned
returned_one_answer = one_answer

pub returned_refusals_fixed : RefusalsFixed returned
returned_refusals_fixed = refusals_fixed

-- demand 2
pub returned-run : RunIsWritten returned
returned-run = run_is_written

pub returned_balances : CountsBalance returned
returned_balances = counts_balance

pub returned_full_iff : FullIff returned
returned_full_iff = full_iff

-- demand 3
pub returned_one_cost : OneCost returned
returned_one_cost = one_cost

pub returned-cheapest : CheapestOfAll returned
returned-cheapest = cheapest_of_all

pub returned_no_worse : FavouredFinishes returned
returned_no_worse = favoured_finishes

-- document 01
pub returned_finished_iff : FinishedIff returned
returned_finished_iff = finished_iff

pub returned_branched : BranchedAreSteps returned
returned_branched = branched_are_steps

pub returned-contents : ContentsPlayNoPart returned
returned-contents = contents_play_no_part

-- request A.3
pub returned_marked_iff : MarkedIff returned
returned_marked_iff = marked_iff

pub returned_stopped : StoppedAsWritten returned
returned_stopped = stopped_as_written

pub returned_otherwise_zero : OtherwiseZero returned
returned_otherwise_zero = otherwise_zero

pub returned_exact_budget : ExactBudget returned
returned_exact_budget = exact_budget

pub returned_within_budget : WithinBudget returned
returned_within_budget = within_budget

pub returned_order_or_zeros : OrderOrZeros returned
returned_order_or_zeros = order_or_zeros

pub returned_no_dearer : NoDearerThanStart returned
returned_no_dearer = no_dearer_than_start

pub returned-floor : FloorHolds returned
returned-floor = floor_holds

pub returned-between : Between returned
returned-between = best_between

pub returned_larger_budget : LargerBudget returned
returned_larger_budget = larger_budget

pub returned_as_without : UnstoppedAsWithout returned
returned_as_without = unstopped_as_without

pub returned_never_reached : NoRunReaches returned
returned_never_reached = no_run_reaches

-- request A.4
pub returned_order_pays : OrderShownPays returned
returned_order_pays = order_shown_pays

pub returned_cheapest_by_legs : CheapestByLegs returned
returned_cheapest_by_legs = cheapest_by_legs

-- request A.5
pub returned_away : AnswersAway returned
returned_away = answers_away

pub returned_cheapest_away : CheapestWithoutLegHome returned
returned_cheapest_away = cheapest_without_leg_home

pub returned_no_dearer_away : NoDearerAway returned
returned_no_dearer_away = no_dearer_away

pub returned_unread : LegsHomeUnread returned
returned_unread = legs_home_unread

-- request A.6
pub returned_in_sequence : InSequence returned
returned_in_sequence = in_sequence

pub returned_refused_as_by_five : RefusedAsByFive returned
returned_refused_as_by_five = refused_as_by_five

pub returned_some_active : SomeActive returned
returned_some_active = some_active

pub returned_sequence : SequencePlaysNoPart returned
returned_sequence = sequence_plays_no_part

-- without them
pub returned_no_pairs : NoPairsAsBefore returned
returned_no_pairs = no_pairs_as_before

pub returned_ends_home : EndsHomeAsBefore returned
returned_ends_home = ends_home_as_before

pub returned_uncharged : UnchargedByLegs returned
returned_uncharged = uncharged_by_legs

pub returned_as_document_01 : AsDocument01 returned
returned_as_document_01 = as_document_01

pub returned_as_before : AcceptedBefore returned
returned_as_before = accepted_before

-- request A.8
pub returned_one_order : OneOrder returned
returned_one_order = one_order

pub returned_larger_smaller : LargerBudgetSmaller returned
returned_larger_smaller = larger_budget_smaller

pub returned_equal_start : EqualStart returned
returned_equal_start = equal_start
