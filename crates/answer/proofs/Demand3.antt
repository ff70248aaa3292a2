-- Demand 3 of the written run, the first half: finished runs over one table and with the same pairs report one cost, that of a cheapest order of those
-- that respect them, and the smallest of these (request A.8). A run that finishes is a call whose answer has number 0 and mark 0; nothing else is
-- assumed of the calls.
--   Solved, solved    the state of a finished run knows an order; none is cheaper, and none that costs the same is smaller
use mathlib.Core.Path.{◌≡◌, refl, sym, ◌∙◌, ap, subst}
use mathlib.Core.Option.{Option, some}
use Prim.Native.Nat.{ℕ, ◌≤◌}
use lib.Dec.{T}
use native.Mathlib.Nat.{le_antisymm}
use Rattle.search.specs.Problem.{State, upper}
use Rattle.search.proofs.Laws.{Le}
use Rattle.search.proofs.Plain.{tree, plan_of, cut_of}
use Rattle.search.proofs.Optimal.{ended_known, ended_least}
use Rattle.lists.specs.Lists.{In}
use Rattle.orders.specs.Orders.{Node, size, Order}
use Rattle.orders.proofs.Smaller.{not_larger}
use Rattle.orders.proofs.Order.{order-complete}
use Rattle.orders.proofs.Orders.{orders_in, in_orders, distinct-orders, length-orders}
use Rattle.orders.specs.Pairs.{pairs_of}
use Rattle.orders.proofs.Pairs.{allowed_leads, leads_allowed, in_orders_with, orders_with_in, distinct-orders_with, respects-same}
use Rattle.days.specs.Days.{Day, problem}
use Rattle.records.specs.Records.{records_in}
use Rattle.answer.specs.Call.{Call, Answer}
use Rattle.answer.specs.Answer.{problem_of, choices_of, given, stops_of, report_with, finished_report, ending, answer}
use Rattle.answer.specs.Ends.{Finishes, order_in, AllowedOrder}
use Rattle.answer.specs.Demands.{written, OneTable, EndAlike, SamePairs, OneCost, allowed_orders, Cheapest, CheapestOfAll, OrdersAreAll, AllowedAreAll}
use Rattle.answer.proofs.Passes.{Passes, passes}
use Rattle.answer.proofs.Instance.{one_day, call_pairing, finished_state, state_reached, finish_stops, call_lawful, bound_laws, call_manner, call_solvable, start_known}
use Rattle.answer.proofs.Ending.{Finished, finishes_finished}
use Rattle.answer.proofs.Known.{padded-front, order-reported}

-- the state of a finished run knows an order, and it goes before every other
pub record Solved (c : Call) (s : State Node) : Type 0 where
  pub x : Node
  pub best : s.best ≡ some x
  pub allowed : AllowedOrder c x
  pub first : (y : Node) → AllowedOrder c y → Le (problem_of c) (some x) (some y)

pub solved : (c : Call) (f : Finished c) → Solved c f.state
unfolding problem_of problem
solved c f =
    let ok : Passes c = passes c f.passed in
    let (steps, end) = finished_state c f.state f.ran in
    let (x, known, whole, leads) =
    ended_known (tree (problem_of c)) (plan_of (problem_of c) (choices_of c)) (cut_of (choices_of c)) (records_in c.pool) (size c.job.n) c.job.n
    (call_lawful c ok) (bound_laws c ok) (given c.start) (start_known c ok) (call_solvable c ok) (call_manner c ok)
    f.state (state_reached c ok steps) (finish_stops c ok f.state end) in
    record {
      x = x;
      best = known;
      allowed = leads_allowed (call_pairing c ok) (problem_of c) (λ y. refl) x whole leads;
      first = λ y a.
          subst (λ (b : Option Node). Le (problem_of c) b (some y)) known
          (ended_least (tree (problem_of c)) (plan_of (problem_of c) (choices_of c)) (cut_of (choices_of c)) (records_in c.pool) (size c.job.n) c.job.n
          (call_lawful c ok) (bound_laws c ok) (given c.start) (start_known c ok) (call_manner c ok)
          f.state (state_reached c ok steps) (finish_stops c ok f.state end) y (order-complete c.job.n y a.order)
          (allowed_leads (call_pairing c ok) (problem_of c) (λ z. refl) y a));
    }

-- a solved state's report
solved_report : (c : Call) (s : State Node) → Solved c s → Cheapest c (finished_report c s)
unfolding report_with problem_of problem
solved_report c s v =
    subst (λ (b : Option Node). Cheapest c (report_with 0 0 (upper (problem_of c) b) 0 (stops_of b) s)) (sym v.best)
    (record {
      has_order = order-reported c 0 0 0 v.x s v.allowed;
      least = λ y m. (v.first y (listed y m)).0;
      smallest = λ y m e. rw (padded-front c.job.n v.x v.allowed.order) (not_larger v.x y ((v.first y (listed y m)).1 (sym e)));
    })
  where
    listed : (y : Node) → In y (allowed_orders c) → AllowedOrder c y
    listed y m = in_orders_with c.job.n (pairs_of c.pairs) y m

pub answer-cheapest : (c : Call) → Finishes (answer c).report → Cheapest c (answer c).report
unfolding ending
answer-cheapest c h =
    let f : Finished c = finishes_finished c h in
    subst (λ (a : Answer). Cheapest c a.report) (sym f.answered) (solved_report c f.state (solved c f))

pub cheapest_of_all : CheapestOfAll written
cheapest_of_all c a e h =
    subst (λ (x : Answer). Cheapest c x.report) (sym e) (answer-cheapest c (subst (λ (x : Answer). Finishes x.report) e h))

-- an order that respects the pairs of one of two calls, of one n and with the same pairs, respects those of the other
pub allowed_too : (a b : Call) → b.job.n ≡ a.job.n → SamePairs a b → (x : Node) → AllowedOrder b x → AllowedOrder a x
allowed_too a b e same x h = record {
  order = subst (λ (k : ℕ). Order k x) e h.order;
  respected = subst T (sym (respects-same (pairs_of a.pairs) (pairs_of b.pairs) same x)) h.respected;
}

-- one of two runs over one table costs at most as much as the other, so by symmetry they cost the same
pub one_cost : OneCost written
one_cost a b x y p q one ends pairs hx hy =
    le_antisymm (below a b x y p q one ends pairs hx hy)
    (below b a y x q p (record { n = sym one.n; table = sym one.table }) (sym ends) (λ r. ((pairs r).1, (pairs r).0)) hy hx)
  where
    below :
        (a b : Call) (x y : Answer) → written a x → written b y → OneTable a b → EndAlike a b → SamePairs a b → Finishes x.report
        → Finishes y.report → x.report.cost ≤ y.report.cost
    below a b x y p q one ends pairs hx hy =
        let best : Cheapest a x.report = cheapest_of_all a x p hx in
        let other : Cheapest b y.report = cheapest_of_all b y q hy in
        let order : Node = order_in b y.report in
        subst (λ (v : ℕ). x.report.cost ≤ v) (ap (λ (D : Day). D.cost order) (one_day a b one ends) ∙ sym other.has_order.cost_is_its)
        (best.least order
        (orders_with_in a.job.n (pairs_of a.pairs) order (allowed_too a b (sym one.n) pairs order other.has_order.is_allowed)))

pub orders_are_all : OrdersAreAll
orders_are_all n = record { entries = length-orders n; once = distinct-orders n; just_these = λ x. (in_orders n x, orders_in n x) }

pub allowed_are_all : AllowedAreAll
allowed_are_all n pairs =
    record { once = distinct-orders_with n pairs; just_these = λ x. (in_orders_with n pairs x, orders_with_in n pairs x) }
