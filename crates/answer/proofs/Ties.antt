-- Request A.8 of the written run.
--   one_order                finished runs agree in the order
--   larger_budget_smaller    a stopped run with a larger budget shows, of equal costs, the same order or a smaller one
--   equal_start              a starting order of equal cost changes nothing but the order that a stopped run shows
use mathlib.Core.Path.{◌≡◌, refl, sym, ap, ◌∙◌, subst}
use mathlib.Core.List.{List, [], ◌∷◌}
use mathlib.Core.Logic.{inl, inr, ◌≢◌}
use mathlib.Core.Option.{Option, some}
use Prim.Native.Nat.{ℕ, suc, ◌≤◌}
use native.Mathlib.Omega.{arith}
use lib.ListN.{take}
use Rattle.sizes.specs.Sizes.{order_places}
use Rattle.lists.specs.Lists.{padded}
use Rattle.search.specs.Problem.{State, upper, start}
use Rattle.search.specs.Run.{Outcome, finished, stopped, full, held}
use Rattle.search.proofs.Laws.{Le}
use Rattle.search.proofs.Budget.{best_never_worse}
use Rattle.search.proofs.EqualStart.{with_best, TwinOutcome, both_finished, both_stopped, both_full, both_unfinished, run_twins}
use Rattle.orders.specs.Orders.{Node, NoLarger, nodes}
use Rattle.orders.specs.Pairs.{pairs_of}
use Rattle.orders.proofs.Smaller.{one_way, not_larger}
use Rattle.orders.proofs.Pairs.{orders_with_in}
use Rattle.days.specs.Days.{Day, problem}
use Rattle.records.specs.Records.{pool_words, records_in}
use Rattle.answer.specs.Call.{Call, call_of, Answer}
use Rattle.answer.specs.Checks.{cause}
use Rattle.answer.specs.Answer.{day_of, problem_of, choices_of, given, outcome, stops_of, cost_of, floor_of, report_with, words_of, ending, respond, answer}
use Rattle.answer.specs.Ends.{BudgetIsSpent, ComesTo, StoppedAt, Finishes, order_in}
use Rattle.answer.specs.Demands.{written, OneTable, EndAlike, SamePairs, Cheapest}
use Rattle.answer.specs.Budget.{ShowsOrder}
use Rattle.answer.specs.Ties.{OneOrder, LargerBudgetSmaller, SameButOrder, OtherStart, EqualStart}
use Rattle.answer.proofs.Instance.{one_day, outcome-ends, stopped_state, order_cheap, call_lawful}
use Rattle.answer.proofs.Passes.{passes}
use Rattle.answer.proofs.Known.{BestKnown, unknown, known, best_known, padded-front}
use Rattle.answer.proofs.Demand3.{cheapest_of_all, allowed_too, one_cost}
use Rattle.answer.proofs.Budget.{stopped_as_written}
use Rattle.answer.proofs.BudgetPairs.{alongside, same-call, Shows, after}

-- Of two finished runs over one table neither order is larger than the other, since each is as cheap as the other.
pub one_order : OneOrder written
one_order a b x y p q one ends pairs hx hy =
    best.has_order.zeros_past_n ∙ ap (padded order_places) (same (first_or_same a b x y p q one ends pairs hx hy) back)
    ∙ sym other.has_order.zeros_past_n
  where
    best : Cheapest a x.report
    best = cheapest_of_all a x p hx

    other : Cheapest b y.report
    other = cheapest_of_all b y q hy

    first_or_same :
        (a b : Call) (x y : Answer) → written a x → written b y → OneTable a b → EndAlike a b → SamePairs a b → Finishes x.report
        → Finishes y.report → NoLarger (order_in a x.report) (order_in b y.report)
    first_or_same a b x y p q one ends pairs hx hy =
        let theirs : Cheapest b y.report = cheapest_of_all b y q hy in
        let order : Node = order_in b y.report in
        (cheapest_of_all a x p hx).smallest order
        (orders_with_in a.job.n (pairs_of a.pairs) order (allowed_too a b (sym one.n) pairs order theirs.has_order.is_allowed))
        (ap (λ (D : Day). D.cost order) (one_day a b one ends) ∙ sym theirs.has_order.cost_is_its
        ∙ sym (one_cost a b x y p q one ends pairs hx hy))

    back : NoLarger (order_in b y.report) (order_in a x.report)
    back = first_or_same b a y x q p (record { n = sym one.n; table = sym one.table }) (sym ends) (λ r. ((pairs r).1, (pairs r).0)) hy hx

    same : {v w : Node} → NoLarger v w → NoLarger w v → v ≡ w
    same (inl e) k = e
    same (inr h) (inl e) = sym e
    same {v} {w} (inr h) (inr k) = absurd (one_way v w h k)

-- Two stopped runs of one job: the state of the larger budget comes later, and what is known there was known or goes before what was known.
module _ (a : Call) (k : ℕ) (longer : a.budget ≤ k) (pool : List ℕ) where
  abbrev a' : Call
  a' = alongside a k pool

  -- the order that a stopped run reports, of what is known
  abbrev shown : Option Node → Node
  shown best = take a.job.n (padded order_places (stops_of best))

  no_larger :
      {u v : Option Node} → cause a' ≡ 0 → BestKnown a u → BestKnown a' v → Le (problem_of a') v u → Shows u
      → cost_of (problem_of a') u ≡ cost_of (problem_of a') v → NoLarger (shown v) (shown u)
  unfolding problem_of problem padded
  no_larger passed unknown other le shows e = absurd (shows refl)
  no_larger passed (known x h) unknown le shows e = absurd (omega (arith, order_cheap a' (passes a' passed) x h.order))
  no_larger passed (known x h) (known y o) le shows e =
      rw (padded-front a.job.n x h.order, padded-front a.job.n y o.order) (not_larger y x (le.1 (sym e)))

  stopped_no_larger :
      {x y : Answer} → StoppedAt a x → StoppedAt a' y → ShowsOrder x.report → x.report.cost ≡ y.report.cost
      → NoLarger (order_in a' y.report) (order_in a x.report)
  unfolding report_with problem_of day_of
  stopped_no_larger f g = rw (f.reported, g.reported) (at f.comes g.comes)
    where
      at :
          (f : ComesTo a BudgetIsSpent) (g : ComesTo a' BudgetIsSpent) → Shows f.state.best
          → cost_of (problem_of a') f.state.best ≡ cost_of (problem_of a') g.state.best → NoLarger (shown g.state.best) (shown f.state.best)
      at f g =
          no_larger g.passed (best_known a f.passed f.steps) (best_known a' g.passed g.steps)
          (best_never_worse (problem_of a') (choices_of a') (records_in pool) (call_lawful a' (passes a' g.passed)).ties (after a k longer pool f g))

pub larger_budget_smaller : LargerBudgetSmaller written
larger_budget_smaller a b x y p q one longer mx my shows e =
    subst (λ (c : Call). NoLarger (order_in c y.report) (order_in a x.report)) (sym (same-call a b one))
    (stopped_no_larger a b.budget longer b.pool (stopped_as_written a x p mx)
    (subst (λ (c : Call). StoppedAt c y) (same-call a b one) (stopped_as_written b y q my)) shows e)

-- what a call is answered that no check refuses
answered : (c : Call) → cause c ≡ 0 → {o : Outcome Node} → outcome c ≡ o → ending c o ≡ answer c
unfolding answer respond
answered c passed r = sym (ap (respond c) passed ∙ ap (ending c) r)

-- two answers that differ in the order of a stopped run at most
abbrev Said : Answer → Answer → Type 0
Said a b = SameButOrder a b × (a.report.mark ≡ 0 → a.report.order ≡ b.report.order)

-- the same call with another starting order: its problem, its choices and its pool are those of the call
module _ (c : Call) (other : List ℕ) (starts : OtherStart c other) where
  abbrev c' : Call
  c' = record { job = c.job; table = c.table; start = other; pairs = c.pairs; budget = c.budget; pool = c.pool }

  passed_too : cause c' ≡ 0
  unfolding call_of
  passed_too = starts.passes_too

  given_some : (x : List ℕ) → x ≢ [] → given x ≡ some x
  given_some [] h = absurd (h refl)
  given_some (s ∷ x) h = refl

  same-upper : upper (problem_of c) (given c.start) ≡ upper (problem_of c) (given other)
  unfolding problem_of problem
  same-upper =
      rw (given_some c.start starts.one, given_some other starts.other) starts.same-cost

  twins : TwinOutcome (problem_of c) (outcome c) (outcome c')
  unfolding outcome problem_of choices_of day_of start
  twins =
      run_twins (problem_of c) (choices_of c) (records_in c.pool) (suc (nodes c.job.n)) (start (problem_of c) (given c.start))
      (start (problem_of c) (given other)) (record { other = given other; same = refl; cost = same-upper })

  -- what a state reports, and what one reports that differs in the order known
  alike_by :
      (number mark floor : ℕ) {cost cost' : ℕ} (order order' : List ℕ) (s : State Node) (best : Option Node) (pool : List ℕ) → cost ≡ cost'
      → SameButOrder (record { report = report_with number mark cost floor order s; pool = pool })
      (record { report = report_with number mark cost' floor order' (with_best best s); pool = pool })
  unfolding report_with
  alike_by number mark floor order order' s best pool e = record {
    number = refl;
    mark = refl;
    cost = e;
    floor = refl;
    branched = refl;
    generated = refl;
    eliminated = refl;
    active = refl;
    most = refl;
    pool = refl;
  }

  finished_alike :
      (s : State Node) (best : Option Node) → upper (problem_of c) s.best ≡ upper (problem_of c) best
      → SameButOrder (ending c (finished s)) (ending c' (finished (with_best best s)))
  unfolding ending words_of pool_words held problem_of choices_of day_of
  finished_alike s best e = alike_by 0 0 0 (stops_of s.best) (stops_of best) s best (words_of c s) e

  stopped_alike :
      (s : State Node) (best : Option Node) → cost_of (problem_of c) s.best ≡ cost_of (problem_of c) best
      → SameButOrder (ending c (stopped s)) (ending c' (stopped (with_best best s)))
  unfolding ending floor_of words_of pool_words held problem_of choices_of day_of
  stopped_alike s best e = alike_by 0 1 (floor_of c s) (stops_of s.best) (stops_of best) s best (words_of c s) e

  full_alike : (s : State Node) (best : Option Node) → SameButOrder (ending c (full s)) (ending c' (full (with_best best s)))
  unfolding ending words_of pool_words held day_of
  full_alike s best = alike_by 7 0 0 [] [] s best (words_of c s) refl

  -- while no order is known U is above every cost, and a known order's cost is not: so of two orders of one U both are known or neither is
  same-cost :
      {a b : Option Node} → BestKnown c a → BestKnown c' b → upper (problem_of c) a ≡ upper (problem_of c) b
      → cost_of (problem_of c) a ≡ cost_of (problem_of c) b
  unfolding problem_of problem
  same-cost unknown unknown e = refl
  same-cost unknown (known y k) e = absurd (omega (arith, order_cheap c (passes c starts.passes) y k.order))
  same-cost (known x h) unknown e = absurd (omega (arith, order_cheap c (passes c starts.passes) x h.order))
  same-cost (known x h) (known y k) e = e

  alike :
      {o o' : Outcome Node} → outcome c ≡ o → outcome c' ≡ o' → TwinOutcome (problem_of c) o o' → Said (ending c o) (ending c' o')
  unfolding ending report_with
  alike r r' (both_finished {s} {s'} t) = (
    rw t.same (finished_alike s t.other t.cost),
    λ m. one_order c c' (ending c (finished s)) (ending c' (finished s')) (answered c starts.passes r) (answered c' passed_too r')
        (record { n = refl; table = refl }) refl (λ p. (λ i. i, λ i. i)) (refl, refl) (refl, refl),
  )
  alike r r' (both_stopped {s} {s'} t) =
      let known : BestKnown c s.best = best_known c starts.passes (stopped_state c s r).0 in
      let other-known : BestKnown c' s'.best = best_known c' passed_too (stopped_state c' s' r').0 in (
        rw t.same (stopped_alike s t.other (same-cost known (rw t.same at other-known) t.cost)),
        λ m. absurd (omega arith),
      )
  alike r r' (both_full {s} t) = (rw t.same (full_alike s t.other), λ m. refl)
  alike r r' (both_unfinished {s} t) = absurd (outcome-ends c s r)

pub equal_start : EqualStart written
unfolding call_of
equal_start c start x y p q starts =
    subst (λ (a : Answer). Said a y) (sym (p ∙ sym (answered c starts.passes refl)))
    (subst (λ (b : Answer). Said (ending c (outcome c)) b) (sym (q ∙ sym (answered (c' c start starts) (passed_too c start starts) refl)))
    (alike c start starts refl refl (twins c start starts)))
