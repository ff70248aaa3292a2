-- The cases of specs/ hold, list by list: document 01's and our own, those of charges, of days that end away, of budgets, of pairs and of ties. Each
-- case is a theorem of its own beside its list; the theorems over whole lists stand here.
use Rattle.answer.specs.Cases.{AllHold, cases, case_a, case_b, case_c, case_d, case_e, case_f₁, case_f₂, case_g, case_h, case_i₀, case_i₁, sixteen_stops_pass, seventeen_stops_refused, million_passes, million_and_one_refused, case_k}
use Rattle.answer.specs.OwnCases.{own_cases, holds_fifo_on_case_i, holds_rule_4_fills, holds_rule_8_keeps_smaller, holds_rules_2_and_8, holds_all_rules_tied, holds_all_rules_started}
use Rattle.answer.specs.BudgetCases.{budget_cases, nothing_branched, five_branched, one_lacking, budget_suffices, least_under_LIFO, start_is_shown, stopped_at_its_floor, finished_when_complete, budget_before_pool, full_is_unmarked, refused_as_before}
use Rattle.answer.specs.ChargeCases.{charge_cases, charged_a, charged_a₀, uncharged_a₀, charged_h, plain-charged, close-charged, dearest_passes, home_above_refused, stop_above_refused, leg_above_refused}
use Rattle.answer.specs.AwayCases.{away_cases, away_a, away_a₂, away_h, plain_away, close_away_lem, home_21, away_12, four_refused, leg_before_bound, leg_home_checked, three_passes}
use Rattle.answer.specs.PairCases.{pair_cases, holds_all_respecting, holds_pilot, holds_all_rules, holds_stops_early, holds_fills, holds_two_pairs}
use Rattle.answer.specs.TieCases.{tie_cases, holds_smaller_eliminates, holds_larger_spares, holds_by_plain, holds_by_close, holds_start_shown, holds_other_start_shown, holds_start_replaced}

pub cases_hold : AllHold cases
unfolding cases
cases_hold = (case_a, (case_b, (case_c, (case_d, (case_e, (case_f₁, (case_f₂, (case_g, (case_h, (case_i₀, (case_i₁, (sixteen_stops_pass, (seventeen_stops_refused, (million_passes, (million_and_one_refused, (case_k, tt))))))))))))))))

pub own_cases_hold : AllHold own_cases
unfolding own_cases
own_cases_hold = (holds_fifo_on_case_i, (holds_rule_4_fills, (holds_rule_8_keeps_smaller, (holds_rules_2_and_8, (holds_all_rules_tied, (holds_all_rules_started, tt))))))

pub budget_cases_hold : AllHold budget_cases
unfolding budget_cases
budget_cases_hold = (nothing_branched, (five_branched, (one_lacking, (budget_suffices, (least_under_LIFO, (start_is_shown, (stopped_at_its_floor, (finished_when_complete, (budget_before_pool, (full_is_unmarked, (refused_as_before, tt)))))))))))

pub charge_cases_hold : AllHold charge_cases
unfolding charge_cases
charge_cases_hold = (charged_a, (charged_a₀, (uncharged_a₀, (charged_h, (plain-charged, (close-charged, (dearest_passes, (home_above_refused, (stop_above_refused, (leg_above_refused, tt))))))))))

pub away_cases_hold : AllHold away_cases
unfolding away_cases
away_cases_hold = (away_a, (away_a₂, (away_h, (plain_away, (close_away_lem, (home_21, (away_12, (four_refused, (leg_before_bound, (leg_home_checked, (three_passes, tt)))))))))))

pub pair_cases_hold : AllHold pair_cases
unfolding pair_cases
pair_cases_hold = (holds_all_respecting, (holds_pilot, (holds_all_rules, (holds_stops_early, (holds_fills, (holds_two_pairs, tt))))))

pub tie_cases_hold : AllHold tie_cases
unfolding tie_cases
tie_cases_hold = (holds_smaller_eliminates, (holds_larger_spares, (holds_by_plain, (holds_by_close, (holds_start_shown, (holds_other_start_shown, (holds_start_replaced, tt)))))))
