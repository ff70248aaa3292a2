-- Worked examples of the written run on free trees that are small enough to follow by hand: where a run depends on a tie, on the
-- sequence of a step's parts or on what a rule looks at, one of these shows it. They stand beside the definitions, so that a wrong
-- definition is met here first.
--
-- A tree is given by tables: the children of node i, the complete nodes, the bounds (for a complete node its cost), and which nodes
-- dominate which. Of two orders the one with the lesser number is the smaller. Each example says how the run ends and the state that then stands.
use Rattle.std.specs.Prelude.{◌≡◌, refl, ◌&&◌, List, [], ◌∷◌, ℕ, ◌/◌, ◌%◌, ltb, eqb, get_or}
use Rattle.std.proofs.Math.Option.{Option, none, some}
use Rattle.lists.specs.Lists.{any}
use Rattle.search.specs.Problem.{Problem, State, start}
use Rattle.search.specs.Selection.{select_by, select, finishes}
use Rattle.search.specs.Step.{children₁, best₂, over₃, children₃, rest₃, dominated₄, children₄, dominated₅, children₅, dominated₆, rest₆, active₇, step}
use Rattle.search.specs.Run.{Outcome, finished, stopped, full, held, fitting, decide, next, run}

-- `rivals` holds 10 · y + z where y dominates z
record Free : Type 0 where
  kids : List (List ℕ)
  leaves : List ℕ
  bounds : List ℕ
  rivals : List ℕ

outcome_within : ℕ → Free → ℕ → ℕ → ℕ → Outcome ℕ
unfolding children₁ best₂ over₃ children₃ rest₃ dominated₄ children₄ dominated₅ children₅ dominated₆ rest₆ active₇ step select_by select finishes held fitting decide next run start
outcome_within budget f selection rules capacity =
    let P : Problem ℕ = record {
      root = 0;
      children = λ x. get_or f.kids x [];
      complete = λ x. any (eqb x) f.leaves;
      cost = λ x. get_or f.bounds x 0;
      dominates = λ y z. any (λ k. eqb (k / 10) y && eqb (k % 10) z) f.rivals;
      smaller = ltb;
      above = 99;
    } in
    run P (record { selection = selection; rules = rules; bound = λ x. get_or f.bounds x 0; budget = budget }) capacity 30 (start P none)

-- with a budget that no run here reaches
abbrev outcome_of : Free → ℕ → ℕ → ℕ → Outcome ℕ
outcome_of = outcome_within 30

abbrev state : List ℕ → List ℕ → Option ℕ → ℕ → ℕ → ℕ → State ℕ
state active branched best generated eliminated most =
    record { active = active; branched = branched; best = best; generated = generated; eliminated = eliminated; most = most }

-- 0 has the children 1 and 2; 1 has 3 and 2 has 4; 3 and 4 are complete and cost the same, and no bound is below that.
twins : Free
twins = record { kids = (1 ∷ 2 ∷ []) ∷ (3 ∷ []) ∷ (4 ∷ []) ∷ []; leaves = 3 ∷ 4 ∷ []; bounds = 5 ∷ 5 ∷ 5 ∷ 5 ∷ 5 ∷ []; rivals = [] }

-- FIFO, rule 1: nodes whose bound equals U stay active, and 4, as cheap as 3 but larger, does not replace it.
equal_bounds_stay : outcome_of twins 2 1 9 ≡ finished (state (3 ∷ 4 ∷ []) (0 ∷ 1 ∷ 2 ∷ []) (some 3) 5 0 2)
unfolding outcome_within twins
equal_bounds_stay = refl

-- Least bound, the earliest of equals: 1 is branched before 2; then 2 before the complete 3, though no bound is below U (request A.8).
earliest_of_equals : outcome_of twins 0 0 9 ≡ finished (state (3 ∷ 4 ∷ []) (0 ∷ 1 ∷ 2 ∷ []) (some 3) 5 0 2)
unfolding outcome_within twins
earliest_of_equals = refl

-- Least bound, the latest of equals: 2, then 1; 3, as cheap as 4 and smaller, replaces it (request A.8).
latest_of_equals : outcome_of twins 1 0 9 ≡ finished (state (4 ∷ 3 ∷ []) (0 ∷ 2 ∷ 1 ∷ []) (some 3) 5 0 2)
unfolding outcome_within twins
latest_of_equals = refl

-- 1 has 3 and 2 has 4, which have the complete 5 and 6. Least bound: the complete 5 stands before 4, whose bound is as great, and yet 4 is
-- branched first (request A.8).
delayed : Free
delayed = record {
  kids = (1 ∷ 2 ∷ []) ∷ (3 ∷ []) ∷ (4 ∷ []) ∷ (5 ∷ []) ∷ (6 ∷ []) ∷ [];
  leaves = 5 ∷ 6 ∷ [];
  bounds = 1 ∷ 1 ∷ 2 ∷ 1 ∷ 3 ∷ 3 ∷ 3 ∷ [];
  rivals = [];
}

complete_nodes_wait : outcome_of delayed 0 0 9 ≡ finished (state (5 ∷ 6 ∷ []) (0 ∷ 1 ∷ 3 ∷ 2 ∷ 4 ∷ []) (some 5) 7 0 2)
unfolding outcome_within delayed
complete_nodes_wait = refl

-- LIFO: behind the complete 4 the incomplete 1 is branched; the run ends when all are complete.
complete_nodes_skipped : outcome_of twins 3 0 9 ≡ finished (state (4 ∷ 3 ∷ []) (0 ∷ 2 ∷ 1 ∷ []) (some 3) 5 0 2)
unfolding outcome_within twins
complete_nodes_skipped = refl

-- 1 has 3, 2 has 4, which have the complete 5 and 6; 3 and 4 dominate each other, which a free tree may
-- have, though no two orders do (request A.8).
rivals : Free
rivals = record {
  kids = (1 ∷ 2 ∷ []) ∷ (3 ∷ []) ∷ (4 ∷ []) ∷ (5 ∷ []) ∷ (6 ∷ []) ∷ [];
  leaves = 5 ∷ 6 ∷ [];
  bounds = 1 ∷ 1 ∷ 3 ∷ 2 ∷ 3 ∷ 9 ∷ 9 ∷ [];
  rivals = 34 ∷ 43 ∷ [];
}

-- FIFO, rules 2 and 8: the child 4 falls to the active 3 and, eliminated, does not eliminate it; 3 goes on to 5.
eliminated_child_spares : outcome_of rivals 2 10 9 ≡ finished (state (5 ∷ []) (0 ∷ 1 ∷ 2 ∷ 3 ∷ []) (some 5) 6 1 2)
unfolding outcome_within rivals
eliminated_child_spares = refl

-- FIFO, rule 8 alone: the child 4 eliminates the active 3.
child_eliminates : outcome_of rivals 2 8 9 ≡ finished (state (6 ∷ []) (0 ∷ 1 ∷ 2 ∷ 4 ∷ []) (some 6) 6 1 2)
unfolding outcome_within rivals
child_eliminates = refl

-- Least bound, rule 4: 3 is branched before 4 is generated, and eliminates it.
branched_node_eliminates : outcome_of rivals 0 4 9 ≡ finished (state (5 ∷ []) (0 ∷ 1 ∷ 3 ∷ 2 ∷ []) (some 5) 6 1 2)
unfolding outcome_within rivals
branched_node_eliminates = refl

-- The same in four records: the third step would leave two active and three branched nodes, so the state before it stands.
branched_nodes_fill : outcome_of rivals 0 4 4 ≡ full (state (2 ∷ 3 ∷ []) (0 ∷ 1 ∷ []) none 4 0 2)
unfolding outcome_within rivals
branched_nodes_fill = refl

-- FIFO, rule 1: when 4 is found at cost 3, the active 2 falls and 3 stays; then its child 5 falls.
dear : Free
dear = record { kids = (1 ∷ 2 ∷ 3 ∷ []) ∷ (4 ∷ []) ∷ [] ∷ (5 ∷ []) ∷ []; leaves = 4 ∷ []; bounds = 1 ∷ 1 ∷ 4 ∷ 2 ∷ 3 ∷ 7 ∷ []; rivals = [] }

dear_nodes_fall : outcome_of dear 2 1 9 ≡ finished (state (4 ∷ []) (0 ∷ 1 ∷ 3 ∷ []) (some 4) 6 2 3)
unfolding outcome_within dear
dear_nodes_fall = refl

-- Request A.3, FIFO. A budget of 2 stops the run before its third branching, with the order that is then known; ..
budget_stops : outcome_within 2 twins 2 0 9 ≡ stopped (state (2 ∷ 3 ∷ []) (0 ∷ 1 ∷ []) (some 3) 4 0 2)
unfolding outcome_within twins
budget_stops = refl

-- .. a budget of 3 is all that the run needs; ..
budget_suffices : outcome_within 3 twins 2 0 9 ≡ outcome_of twins 2 0 9
unfolding outcome_within twins
budget_suffices = refl

-- .. and with a budget of 0 nothing is branched.
nothing_branched : outcome_within 0 twins 2 0 9 ≡ stopped (state (0 ∷ []) [] none 1 0 1)
unfolding outcome_within twins
nothing_branched = refl

-- The finish test is asked first: least bound, where three branchings leave complete nodes alone, is finished with a budget of 3.
finish_before_budget : outcome_within 3 twins 0 0 9 ≡ outcome_of twins 0 0 9
unfolding outcome_within twins
finish_before_budget = refl

-- With a budget of 2 it is stopped at 2, whose bound is U: no bound ends a run (request A.8).
bound_ends_nothing : outcome_within 2 twins 0 0 9 ≡ stopped (state (2 ∷ 3 ∷ []) (0 ∷ 1 ∷ []) (some 3) 4 0 2)
unfolding outcome_within twins
bound_ends_nothing = refl

-- The budget is asked before the pool: the step that fills four records is not looked at.
budget_before_pool : outcome_within 2 rivals 0 4 4 ≡ stopped (state (2 ∷ 3 ∷ []) (0 ∷ 1 ∷ []) none 4 0 2)
unfolding outcome_within rivals
budget_before_pool = refl
