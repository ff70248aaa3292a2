-- Request A.3 of the written run, as far as it speaks of one call.
--   stopped_as_written, otherwise_zero, marked_iff    when the mark comes, and what stands beside it
--   exact_budget, within_budget                       how many nodes are branched
--   order_or_zeros, order_shows                       the order shown
--   floor_holds, best_exists, best_between            the floor, the best of all orders and the order shown
--   no_run_reaches                                    the largest 64-bit number
use mathlib.Core.Path.{◌≡◌, refl, sym, ◌∙◌, ap, subst}
use mathlib.Core.Bool.{Bool, false, not}
use mathlib.Core.List.Memᴰ
use mathlib.Core.List.{List, [], ◌∷◌}
use mathlib.Core.Logic.{◌⊎◌, inl, inr, ◌≢◌}
use mathlib.Core.Option.{Option}
use Prim.Native.Nat.{ℕ, ◌≤◌, ◌<◌}
use native.Mathlib.Omega.{arith}
use lib.Dec.{T}
use lib.ListN.{length, replicate, get_or}
use Rattle.sizes.specs.Sizes.{most_stops, order_places, no_budget}
use Rattle.lists.specs.Lists.{In, padded}
use Rattle.lists.proofs.Members.{in_head}
use Rattle.lists.proofs.Numbers.{least_le, least_in}
use Rattle.search.specs.Problem.{State, start}
use Rattle.search.proofs.Plain.{tree, plan_of, cut_of}
use Rattle.search.proofs.Optimal.{active_below}
use Rattle.search.proofs.Bounded.{Bounded, counts_bounded}
use Rattle.search.proofs.Budget.{steps_within, halts_exactly}
use Rattle.orders.specs.Orders.{Node, size, Order}
use Rattle.orders.specs.Pairs.{pairs_of, Pairing}
use Rattle.orders.proofs.Tree.{nodes_rise}
use Rattle.orders.proofs.Order.{order-complete}
use Rattle.orders.proofs.Pairs.{allowed_leads, leads_allowed, descends, in_orders_with, orders_with_in}
use Rattle.days.specs.Days.{problem, choices}
use Rattle.records.specs.Records.{records_in}
use Rattle.answer.specs.Call.{Call, Answer, refusal}
use Rattle.answer.specs.declared.Report.{Report}
use Rattle.answer.specs.Checks.{cause₁₁, cause}
use Rattle.answer.specs.Answer.{day_of, problem_of, choices_of, given, StateOf, stops_of, cost_of, floor_of, report_with, ending}
use Rattle.answer.specs.Ends.{ComesTo, StoppedAt, order_in, AllowedOrder, HasOrder, Ended, planned, halted, filled, refused}
use Rattle.answer.specs.Demands.{written, allowed_orders}
use Rattle.answer.specs.Budget.{MarkedIff, StoppedAsWritten, OtherwiseZero, ExactBudget, WithinBudget, ShowsOrder, OrderOrZeros, FloorHolds, BestCost, BestExists, Between, NoRunReaches}
use Rattle.answer.proofs.Passes.{Passes, pairs_pass, pairs_pairing, passes}
use Rattle.answer.proofs.Instance.{weight, call_weighs, root_light, call_pairing, call_lawful, bound_laws, selection_small, call_solvable, start_known, state_reached}
use Rattle.answer.proofs.Known.{BestKnown, unknown, known, best_known, order-reported}
use Rattle.answer.proofs.Ends.{stopped_answer}
use Rattle.answer.proofs.Demand1.{call_ends}

abbrev Zero : Report → Type 0
Zero r = (r.mark ≡ 0) × (r.floor ≡ 0)

-- The budget stopped the run, or mark and floor are 0.
stopped_or_zero : (c : Call) (a : Answer) → written c a → StoppedAt c a ⊎ Zero a.report
unfolding refusal report_with
stopped_or_zero c a e = go (call_ends c a e)
  where
    go : Ended c a → StoppedAt c a ⊎ Zero a.report
    go (planned f o) = inr (rw f.reported (refl, refl))
    go (halted f) = inl f
    go (filled f) = inr (rw f.reported (refl, refl))
    go (refused f) = inr (rw f.reported (refl, refl))

pub stopped_as_written : StoppedAsWritten written
stopped_as_written c a e m = go (stopped_or_zero c a e)
  where
    go : StoppedAt c a ⊎ Zero a.report → StoppedAt c a
    go (inl f) = f
    go (inr z) = absurd (omega arith)

pub otherwise_zero : OtherwiseZero written
unfolding report_with
otherwise_zero c a e h = go (stopped_or_zero c a e)
  where
    go : StoppedAt c a ⊎ Zero a.report → Zero a.report
    go (inl f) = absurd (h (rw f.reported))
    go (inr z) = z

pub marked_iff : MarkedIff written
unfolding ending report_with
marked_iff c a e = (λ m. (stopped_as_written c a e m).comes, λ h. ap (λ (x : Answer). x.report.mark) (e ∙ stopped_answer c h))

pub exact_budget : ExactBudget written
unfolding report_with choices_of choices
exact_budget c a e m =
    let f : StoppedAt c a = stopped_as_written c a e m in
    rw f.reported (halts_exactly (problem_of c) (choices_of c) (records_in c.pool) (given c.start) f.comes.steps f.comes.there)

-- no run makes more branchings than its budget has: each step was allowed
pub within_budget : WithinBudget written
unfolding refusal report_with choices_of choices start
within_budget c a e = at (call_ends c a e)
  where
    low : {Q : Call → State Node → Type 0} (h : ComesTo c Q) → length h.state.branched ≤ c.budget
    low h = steps_within (problem_of c) (choices_of c) (records_in c.pool) h.steps (omega arith)

    at : Ended c a → a.report.branched ≤ c.budget
    at (planned f o) = rw f.reported (low f.comes)
    at (halted f) = rw f.reported (low f.comes)
    at (filled f) = rw f.reported (low f.comes)
    at (refused f) = rw f.reported (omega arith)

-- a report with an order shows it, for each of its stops is at least 1
pub order_shows : (n : ℕ) → 1 ≤ n → (x : Node) → Order n x → get_or (padded order_places x) 0 0 ≢ 0
unfolding padded
order_shows n stop [] o e = Memᴰ.not-nil (o.every 1 (omega arith) stop)
order_shows n stop (s ∷ x) o e = omega (arith, o.only s in_head)

-- by the order known where the run stopped
pub order_or_zeros : OrderOrZeros written
unfolding report_with problem_of problem padded
order_or_zeros c a e m =
    let f : StoppedAt c a = stopped_as_written c a e m in
    rw f.reported (at (floor_of c f.comes.state) f.comes.state f.comes.state.best (best_known c f.comes.passed f.comes.steps))
  where
    stop : 1 ≤ c.job.n
    stop = (passes c (stopped_as_written c a e m).comes.passed).some

    at :
        (floor : ℕ) (s : State Node) (best : Option Node) → BestKnown c best
        → (let r = report_with 0 1 (cost_of (problem_of c) best) floor (stops_of best) s in
        (ShowsOrder r × HasOrder c r) ⊎ ((r.order ≡ replicate order_places 0) × (r.cost ≡ 0)))
    at floor s best unknown = inr (refl, refl)
    at floor s best (known x o) = inl (order_shows c.job.n stop x o.order, order-reported c 0 1 floor x s o)

-- At every state of a run the floor is at most what any order costs, for some active node's bound is.
floor_below : (c : Call) → cause c ≡ 0 → (s : State Node) → StateOf c s → (y : Node) → AllowedOrder c y → floor_of c s ≤ (day_of c).cost y
unfolding floor_of problem_of problem
floor_below c passed s steps y o =
    let ok : Passes c = passes c passed in
    let (x, m, low) =
    active_below (tree (problem_of c)) (plan_of (problem_of c) (choices_of c)) (cut_of (choices_of c)) (records_in c.pool) (size c.job.n) c.job.n
    (call_lawful c ok) (bound_laws c ok) (given c.start) (start_known c ok) (call_solvable c ok) s (state_reached c ok steps) y
    (order-complete c.job.n y o.order) (allowed_leads (call_pairing c ok) (problem_of c) (λ z. refl) y o) in
    omega (arith, least_le (choices_of c).bound s.active x m)

pub floor_holds : FloorHolds written
unfolding report_with
floor_holds c a e m y i =
    let f : StoppedAt c a = stopped_as_written c a e m in
    rw f.reported (floor_below c f.comes.passed f.comes.state f.comes.steps y (in_orders_with c.job.n (pairs_of c.pairs) y i))

-- from e an order is reached, where the pairs pass
some_allowed : (c : Call) → cause₁₁ c.job.n c.pairs ≡ false → (x : Node) × AllowedOrder c x
unfolding problem_of problem
some_allowed c passed =
    let ok : Pairing c.job.n (pairs_of c.pairs) =
    pairs_pairing (pairs_pass c.job.n c.pairs (subst (λ (b : Bool). T (not b)) (sym passed) tt)) in
    let (x, whole, leads) = descends ok (problem_of c) (λ y. refl) [] in
    (x, leads_allowed ok (problem_of c) (λ y. refl) x whole leads)

pub best_exists : BestExists
best_exists c passed = at (allowed_orders c) refl
  where
    at : (xs : List Node) → allowed_orders c ≡ xs → (v : ℕ) × BestCost c v
    at [] e =
        let (x, h) = some_allowed c passed in
        absurd (Memᴰ.not-nil (subst (λ (l : List Node). In x l) e (orders_with_in c.job.n (pairs_of c.pairs) x h)))
    at (y ∷ ys) e =
        let (x, m, q) = least_in (day_of c).cost y ys in (
          (day_of c).cost x,
          record {
            order = x;
            is_allowed = in_orders_with c.job.n (pairs_of c.pairs) x (subst (λ (l : List Node). In x l) (sym e) m);
            costs = refl;
            least = λ z i. omega (arith, least_le (day_of c).cost (y ∷ ys) z (subst (λ (l : List Node). In z l) e i));
          },
        )

pub best_between : Between written
best_between c a e m v best = (floor, λ shows. at shows (order_or_zeros c a e m))
  where
    floor : a.report.floor ≤ v
    floor = rw best.costs (floor_holds c a e m best.order (orders_with_in c.job.n (pairs_of c.pairs) best.order best.is_allowed))

    at :
        ShowsOrder a.report
        → (ShowsOrder a.report × HasOrder c a.report) ⊎ ((a.report.order ≡ replicate order_places 0) × (a.report.cost ≡ 0))
        → v ≤ a.report.cost
    at shows (inl (own, h)) =
        rw h.cost_is_its (best.least (order_in c a.report) (orders_with_in c.job.n (pairs_of c.pairs) (order_in c a.report) h.is_allowed))
    at shows (inr z) = absurd (shows (ap (λ (l : List ℕ). get_or l 0 0) z.0))

-- A run branches no more nodes than there are, and of the most stops there are far fewer.
few_branched : (c : Call) {Q : Call → State Node → Type 0} (h : ComesTo c Q) → length h.state.branched < no_budget
few_branched c h =
    let ok : Passes c = passes c h.passed in
    let counts : Bounded (weight c (problem_of c).root) h.state =
    counts_bounded (problem_of c) (choices_of c) (records_in c.pool) (call_weighs c) (given c.start) (selection_small c ok) h.steps in
    omega (arith, root_light c, nodes_rise c.job.n most_stops ok.priced.few)

pub no_run_reaches : NoRunReaches written
unfolding refusal report_with
no_run_reaches c a e = (few, λ whole. (otherwise_zero c a e (λ m. omega (arith, few, exact_budget c a e m))).0)
  where
    at : Ended c a → a.report.branched < no_budget
    at (planned f o) = rw f.reported (few_branched c f.comes)
    at (halted f) = rw f.reported (few_branched c f.comes)
    at (filled f) = rw f.reported (few_branched c f.comes)
    at (refused f) = rw f.reported (omega arith)

    few : a.report.branched < no_budget
    few = at (call_ends c a e)
