-- Cases of request A.3: calls with a budget, worked out by hand on document 01's table T and by the second planner (`budget_cases_hold`, in
-- proofs/CasesHold).
use Rattle.std.specs.Prelude.{refl, List, [], ◌∷◌, ℕ, replicate}
use Rattle.sizes.specs.Sizes.{order_places, record_words}
use Rattle.answer.specs.Call.{Call}
use Rattle.answer.specs.declared.Report.{Report}
use Rattle.answer.specs.Cases.{call, found, refused, computed, Case, reports, answers, Holds, table_t, order123}

-- the call with a budget
abbrev pub within : ℕ → Call → Call
within budget c = record { job = c.job; table = c.table; start = c.start; pairs = c.pairs; budget = budget; pool = c.pool }

-- the report of a stopped run: the floor, and for the rest what a finished one would have
abbrev pub so_far : ℕ → Report → Report
so_far floor r = record {
  number = 0;
  mark = 1;
  cost = r.cost;
  floor = floor;
  order = r.order;
  branched = r.branched;
  generated = r.generated;
  eliminated = r.eliminated;
  active = r.active;
  most = r.most;
}

-- no order
abbrev pub none : List ℕ
none = replicate order_places 0

-- case b (FIFO, no rules, plain), which branches ten nodes
b : Call
b = call 3 table_t 2 0 0 [] 9

-- Budget 0: nothing is branched, no order is known, and the floor is the bound of e.
pub b₀ : Case
b₀ = reports (within 0 b) (so_far 0 (found 0 none 0 1 0 1 1))

pub nothing_branched : Holds b₀
unfolding b₀ b table_t computed
nothing_branched = refl

-- Budget 5: 12 was branched, so 123 is known. The floor is the least bound, that of 23, and not the bound of 13, which is chosen next.
pub b₅ : Case
b₅ = reports (within 5 b) (so_far 8 (found 13 order123 5 11 0 6 6))

pub five_branched : Holds b₅
unfolding b₅ b table_t computed
five_branched = refl

-- Budget 9: one branching is lacking, though the order shown is a cheapest one.
pub b₉ : Case
b₉ = reports (within 9 b) (so_far 13 (found 13 order123 9 15 0 6 6))

pub one_lacking : Holds b₉
unfolding b₉ b table_t computed
one_lacking = refl

-- Budget 10 is all that the run needs: the finish test is made before the budget is looked at.
pub b₁₀ : Case
b₁₀ = reports (within 10 b) (found 13 order123 10 16 0 6 6)

pub budget_suffices : Holds b₁₀
unfolding b₁₀ b table_t computed
budget_suffices = refl

-- Case c (LIFO, rules 1, plain) with budget 1: the floor is the bound of 1, and not that of 3, which is chosen next.
pub c₁ : Case
c₁ = reports (within 1 (call 3 table_t 3 1 0 [] 9)) (so_far 4 (found 0 none 1 4 0 3 3))

pub least_under_LIFO : Holds c₁
unfolding c₁ table_t computed
least_under_LIFO = refl

-- Case e (LIFO, rules 1, close, from 123) with budget 0: the starting order is shown.
pub e₀ : Case
e₀ = reports (within 0 (call 3 table_t 3 1 1 (1 ∷ 2 ∷ 3 ∷ []) 9)) (so_far 10 (found 13 order123 0 1 0 1 1))

pub start_is_shown : Holds e₀
unfolding e₀ table_t computed
start_is_shown = refl

-- One stop, close, from the only order: its cost is the bound of e, but e is not complete, so that with budget 0 the run is stopped (request A.8); ..
pub one₀ : Case
one₀ = reports (within 0 (call 1 (0 ∷ 3 ∷ 5 ∷ 0 ∷ []) 0 0 1 (1 ∷ []) 9)) (so_far 8 (found 8 (1 ∷ replicate 15 0) 0 1 0 1 1))

pub stopped_at_its_floor : Holds one₀
unfolding one₀ computed
stopped_at_its_floor = refl

-- .. with budget 1 it is finished.
pub one₁ : Case
one₁ = reports (within 1 (call 1 (0 ∷ 3 ∷ 5 ∷ 0 ∷ []) 0 0 1 (1 ∷ []) 9)) (found 8 (1 ∷ replicate 15 0) 1 2 0 1 1)

pub finished_when_complete : Holds one₁
unfolding one₁ computed
finished_when_complete = refl

-- Case f₂, one record, where the first step does not fit: with budget 0 the run is stopped before that is asked, and the pool has e ..
pub full₀ : Case
full₀ =
    answers (within 0 (call 3 table_t 3 1 1 [] 1))
    (record { report = so_far 10 (found 0 none 0 1 0 1 1); pool = 0 ∷ 0 ∷ 0 ∷ 10 ∷ 0 ∷ 0 ∷ [] })

pub budget_before_pool : Holds full₀
unfolding full₀ table_t computed
budget_before_pool = refl

-- .. with budget 1 the pool is full, and mark and floor are 0.
pub full₁ : Case
full₁ = reports (within 1 (call 3 table_t 3 1 1 [] 1)) (refused 7 0 1 0 1 1)

pub full_is_unmarked : Holds full₁
unfolding full₁ table_t computed
full_is_unmarked = refl

-- A budget changes no refusal by a check.
pub j₀ : Case
j₀ = answers (within 0 (call 17 [] 0 0 0 [] 1)) (record { report = refused 1 0 0 0 0 0; pool = replicate record_words 7 })

pub refused_as_before : Holds j₀
unfolding j₀ computed
refused_as_before = refl

unfoldable pub budget_cases : List Case
budget_cases = b₀ ∷ b₅ ∷ b₉ ∷ b₁₀ ∷ c₁ ∷ e₀ ∷ one₀ ∷ one₁ ∷ full₀ ∷ full₁ ∷ j₀ ∷ []
