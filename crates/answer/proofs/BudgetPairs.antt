-- Request A.3 of the written run, as far as it holds one state of a run against an earlier one, or one run against another of the same job.
--   no_dearer_than_start    a stopped run shows an order that is no dearer than the one that it started from
--   larger_budget           a stopped run with a larger budget has no lower floor and shows no dearer order
--   unstopped_as_without    a run that is not stopped has the same answer with every larger budget
-- The states of both runs are those of one run; a larger budget lets it go further (`stopped_after` and `larger_same` of crate `search`).
use mathlib.Core.Path.{◌≡◌, refl, sym, ◌∙◌, ap, subst}
use mathlib.Core.List.{List, [], ◌∷◌}
use mathlib.Core.Logic.{◌≢◌}
use mathlib.Core.Option.{Option, none, some}
use Prim.Native.Nat.{ℕ, zero, suc, ◌≤◌}
use lib.ListN.{get_or}
use Rattle.sizes.specs.Sizes.{order_places}
use Rattle.lists.specs.Lists.{padded}
use Rattle.search.specs.Problem.{start}
use Rattle.search.specs.Run.{Outcome, finished, stopped, full, unfinished, Steps}
use Rattle.search.proofs.Budget.{stopped_after, halts_active, least_never_falls, best_never_dearer, larger_same}
use Rattle.orders.specs.Orders.{Node, nodes}
use Rattle.days.specs.Days.{problem, choices}
use Rattle.records.specs.Records.{records_in}
use Rattle.answer.specs.Call.{Call, Answer}
use Rattle.answer.specs.Checks.{cause}
use Rattle.answer.specs.Answer.{day_of, problem_of, choices_of, given, outcome, stops_of, cost_of, floor_of, report_with, words_of, ending, respond, answer}
use Rattle.answer.specs.Ends.{BudgetIsSpent, ComesTo, StoppedAt}
use Rattle.answer.specs.Demands.{written}
use Rattle.answer.specs.Budget.{ShowsOrder, NoDearerThanStart, OneJob, LargerBudget, UnstoppedAsWithout}
use Rattle.answer.proofs.Passes.{Passes, passes}
use Rattle.answer.proofs.Instance.{bound_laws, selection_small}
use Rattle.answer.proofs.Known.{known_order, best_known}
use Rattle.answer.proofs.Budget.{stopped_as_written, order_shows}

-- a's job with another budget and another pool
abbrev pub alongside : Call → ℕ → List ℕ → Call
alongside a budget pool = record { job = a.job; table = a.table; start = a.start; pairs = a.pairs; budget = budget; pool = pool }

pub same-call : (a b : Call) → OneJob a b → b ≡ alongside a b.budget b.pool
same-call a b one = λ i. record {
  job = sym one.job i;
  table = sym one.table i;
  start = sym one.start i;
  pairs = sym one.pairs i;
  budget = b.budget;
  pool = b.pool;
}

-- A report with this as the order known shows an order.
abbrev pub Shows : Option Node → Type 0
Shows best = get_or (padded order_places (stops_of best)) 0 0 ≢ 0

pub no_dearer_than_start : NoDearerThanStart written
unfolding report_with problem_of problem start
no_dearer_than_start c a e m has =
    let f : StoppedAt c a = stopped_as_written c a e m in
    rw f.reported (at f.comes c.start refl has)
  where
    at :
        (h : ComesTo c BudgetIsSpent) (x : Node) → c.start ≡ x → x ≢ []
        → Shows h.state.best × (cost_of (problem_of c) h.state.best ≤ (day_of c).cost x)
    at h [] q has = absurd (has refl)
    at h (s ∷ x) q has =
        let (y, now, low) = best_never_dearer (problem_of c) (choices_of c) (records_in c.pool) h.steps (s ∷ x) (ap given q) in
        rw now (order_shows c.job.n (passes c h.passed).some y (known_order (rw now at (best_known c h.passed h.steps))).order, low)

module _ (a : Call) (k : ℕ) (longer : a.budget ≤ k) (pool : List ℕ) where
  abbrev b : Call
  b = alongside a k pool

  -- two stopped runs: the state of b comes after that of a
  module _ (f : ComesTo a BudgetIsSpent) (g : ComesTo b BudgetIsSpent) where
    pub after : Steps (problem_of b) (choices_of b) (records_in pool) f.state g.state
    unfolding problem_of choices_of choices day_of
    after = stopped_after (problem_of a) (choices_of a) (records_in a.pool) k longer (given a.start) f.steps g.steps g.there

    floor_no_lower : floor_of a f.state ≤ floor_of b g.state
    unfolding floor_of choices_of choices day_of
    floor_no_lower =
        let ok : Passes b = passes b g.passed in
        least_never_falls (problem_of b) (choices_of b) (records_in pool) (selection_small b ok) (bound_laws b ok).grows after g.there.b
        (halts_active (problem_of b) (choices_of b) (records_in pool) (selection_small b ok) g.there)

    order_no_dearer :
        (best : Option Node) → f.state.best ≡ best → Shows best
        → Shows g.state.best × (cost_of (problem_of b) g.state.best ≤ cost_of (problem_of b) best)
    unfolding padded
    order_no_dearer none e shows = absurd (shows refl)
    order_no_dearer (some x) e shows =
        let (y, now, low) = best_never_dearer (problem_of b) (choices_of b) (records_in pool) after x e in
        rw now (order_shows a.job.n (passes b g.passed).some y (known_order (rw now at (best_known b g.passed g.steps))).order, low)

  stopped_no_worse :
      {x y : Answer} → StoppedAt a x → StoppedAt b y
      → (x.report.floor ≤ y.report.floor) × (ShowsOrder x.report → ShowsOrder y.report × (y.report.cost ≤ x.report.cost))
  unfolding report_with problem_of day_of
  stopped_no_worse f g =
      rw (f.reported, g.reported) (floor_no_lower f.comes g.comes, order_no_dearer f.comes g.comes f.comes.state.best refl)

pub larger_budget : LargerBudget written
larger_budget a b x y p q one longer mx my =
    stopped_no_worse a b.budget longer b.pool (stopped_as_written a x p mx)
    (subst (λ (c : Call). StoppedAt c y) (same-call a b one) (stopped_as_written b y q my))

-- a run that is not stopped, with a larger budget
module _ (a : Call) (k : ℕ) (longer : a.budget ≤ k) (unmarked : (answer a).report.mark ≢ 1) where
  same_outcome : cause a ≡ 0 → outcome (alongside a k a.pool) ≡ outcome a
  unfolding outcome problem_of choices_of choices day_of answer respond ending report_with
  same_outcome passed =
      larger_same (problem_of a) (choices_of a) (records_in a.pool) k longer (suc (nodes a.job.n)) (start (problem_of a) (given a.start))
      (λ s e. unmarked (ap (λ (x : Answer). x.report.mark) (ap (respond a) passed ∙ ap (ending a) e)))

  same_answer : answer (alongside a k a.pool) ≡ answer a
  unfolding cause answer respond ending problem_of choices_of choices day_of floor_of words_of
  same_answer = by_cause (cause a) refl
    where
      by_outcome : (o : Outcome Node) → ending (alongside a k a.pool) o ≡ ending a o
      by_outcome (finished s) = refl
      by_outcome (stopped s) = refl
      by_outcome (full s) = refl
      by_outcome (unfinished s) = refl

      by_cause : (number : ℕ) → cause a ≡ number → respond (alongside a k a.pool) number ≡ respond a number
      by_cause zero e = ap (ending (alongside a k a.pool)) (same_outcome e) ∙ by_outcome (outcome a)
      by_cause (suc number) e = refl

pub unstopped_as_without : UnstoppedAsWithout written
unstopped_as_without a b x y p q one pools longer h =
    p ∙ sym (same_answer a b.budget longer (λ m. h (ap (λ (z : Answer). z.report.mark) p ∙ m)))
    ∙ ap (λ (w : List ℕ). answer (alongside a b.budget w)) pools ∙ ap answer (sym (same-call a b one)) ∙ sym q
