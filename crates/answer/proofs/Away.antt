-- Request A.5 of the written run, a theorem for each type of specs/Away.
use mathlib.Core.Path.{◌≡◌, refl, sym, ap, ◌∙◌, subst}
use mathlib.Core.Bool.{false}
use mathlib.Core.List.{List}
use mathlib.Core.Logic.{inl, inr}
use Prim.Native.Nat.{ℕ, zero, suc, ◌≤◌}
use native.Mathlib.Omega.{arith}
use borrow.Author.Tests.{le-ltb}
use Rattle.lists.specs.Lists.{In}
use Rattle.orders.specs.Orders.{Node, Order}
use Rattle.orders.proofs.Order.{partial_order}
use Rattle.orders.specs.Pairs.{pairs_of}
use Rattle.orders.proofs.Pairs.{in_orders_with, orders_with_in}
use Rattle.days.specs.Days.{Day, problem}
use Rattle.stops.specs.Tables.{entry, rows}
use Rattle.stops.specs.Bounds.{ends_away}
use Rattle.stops.specs.Stops.{day, day_on}
use Rattle.stops.specs.Away.{day_away, day_away_on}
use Rattle.stops.proofs.Away.{away_path, away_bound, away_dominates, away_cost, path_below, unread_rows}
use Rattle.answer.specs.Call.{Call, call_of, Answer}
use Rattle.answer.specs.Checks.{no_such_bound, cause₄, cause}
use Rattle.answer.specs.Answer.{day_of, problem_of, answer}
use Rattle.answer.specs.Ends.{order_in, AllowedOrder}
use Rattle.answer.specs.Demands.{written, OneTable, EndAlike, AsClose, allowed_orders, Cheapest}
use Rattle.answer.specs.OnDay.{answer_on}
use Rattle.answer.specs.Away.{home_day_of, away_day_of, EndsAway, LetsBoundsPass, FiguresAway, AnswersAway, BoundExactAway, ComparedEndAlike, CheapestWithoutLegHome, NoDearerAway, LegsHomeUnread}
use Rattle.answer.proofs.Passes.{choices_pass, passes}
use Rattle.answer.proofs.Instance.{closer_ends}
use Rattle.answer.proofs.Bounds.{bound_is_cost}
use Rattle.answer.proofs.Demand3.{allowed_too, cheapest_of_all}
use Rattle.answer.proofs.OnDay.{on_its_day, figures-decide}
use Rattle.answer.proofs.Charges.{number_0_passes}

pub lets_bounds_pass : LetsBoundsPass
unfolding cause₄ no_such_bound
lets_bounds_pass job = (
  λ e. choices_pass job (rw e tt),
  λ h. rw (le-ltb 3 job.selection h.0, le-ltb 15 job.rules h.1, le-ltb 3 job.bound h.2) refl,
)

pub figures_away : FiguresAway
unfolding away_day_of day_of
figures_away c e ends =
    let ok = passes c e in
    let n : ℕ = c.job.n in
    rw ends
    (record {
      paths = λ x p. sym (away_path n ok.some ok.priced.few c.table x p);
      bounds = λ k x p. sym (away_bound n ok.some ok.priced.few c.table x p k);
      dominances = λ y z p q. sym (away_dominates n ok.some ok.priced.few c.table y z p q);
      orders-cost = λ x o. sym (away_cost n ok.some ok.priced.few c.table x o);
    })

pub answers_away : AnswersAway written
answers_away c a e ends = e ∙ go (cause c) refl
  where
    go : (k : ℕ) → cause c ≡ k → answer c ≡ answer_on (away_day_of c) c k
    go zero z = figures-decide c z (away_day_of c) (figures_away c z ends)
    go (suc k) z = on_its_day c ∙ ap (answer_on (day_of c) c) z

-- the path cost, and what an order costs, as worded, by the day that ends at home
away_order_cost : (c : Call) (x : Node) → (away_day_of c).cost x ≡ (home_day_of c).path x
unfolding away_day_of home_day_of day_away_on day_away day_on day
away_order_cost c x = refl

own-cost : (c : Call) → cause c ≡ 0 → EndsAway c → (x : Node) → Order c.job.n x → (day_of c).cost x ≡ (home_day_of c).path x
own-cost c e ends x o = sym ((figures_away c e ends).orders-cost x o) ∙ away_order_cost c x

pub bound_exact_away : BoundExactAway
unfolding problem_of problem
bound_exact_away c e ends x p whole =
    bound_is_cost c e x whole
    ∙ own-cost c e ends x (partial_order c.job.n x p whole)

pub compared_end_alike : ComparedEndAlike
compared_end_alike a b favours = go favours.bound
  where
    go : AsClose a.job b.job → EndAlike a b
    go (inl e) = ap ends_away e
    go (inr h) = closer_ends a.job.bound b.job.bound h.1

pub cheapest_without_leg_home : CheapestWithoutLegHome written
cheapest_without_leg_home c a e ends h = record {
  is_allowed = best.has_order.is_allowed;
  cost_is = best.has_order.cost_is_its ∙ own-cost c passed ends (order_in c a.report) best.has_order.is_allowed.order;
  least = λ y m. subst (λ (v : ℕ). a.report.cost ≤ v) (costs y m) (best.least y m);
  smallest = λ y m same. best.smallest y m (costs y m ∙ same);
}
  where
    best : Cheapest c a.report
    best = cheapest_of_all c a e h

    passed : cause c ≡ 0
    passed = number_0_passes c (subst (λ (x : Answer). x.report.number ≡ 0) e h.0)

    costs : (y : Node) → In y (allowed_orders c) → (day_of c).cost y ≡ (home_day_of c).path y
    costs y m = own-cost c passed ends y (in_orders_with c.job.n (pairs_of c.pairs) y m).order

-- an order that ends at home costs its path and its leg home
home_path_below : (c : Call) (x : Node) → (home_day_of c).path x ≤ (home_day_of c).cost x
unfolding home_day_of
home_path_below c x = path_below c.job.n (rows c.job.n false c.table) x

home_days : (a b : Call) → OneTable a b → ends_away b.job.bound ≡ false → home_day_of a ≡ day_of b
unfolding home_day_of day_of
home_days a b one home = λ i. day_on (one.n i) (rows (one.n i) (sym home i) (one.table i))

pub no_dearer_away : NoDearerAway written
no_dearer_away a b x y p q one pairs ends home hx hy =
    let best = cheapest_without_leg_home a x p ends hx in
    let other = (cheapest_of_all b y q hy).has_order in
    let order : Node = order_in b y.report in
    let own : AllowedOrder a order = allowed_too a b (sym one.n) pairs order other.is_allowed in
    omega (
      arith,
      best.least order (orders_with_in a.job.n (pairs_of a.pairs) order own),
      home_path_below a order,
      ap (λ (D : Day). D.cost order) (home_days a b one home),
      other.cost_is_its,
    )

-- the call over another table
abbrev over : Call → List ℕ → Call
over c table = call_of c.job table c.start c.pairs c.budget c.pool

unread_day :
    (c : Call) (table : List ℕ) → EndsAway c
    → ((i j : ℕ) → i ≤ c.job.n → 1 ≤ j → j ≤ c.job.n → entry c.job.n c.table i j ≡ entry c.job.n table i j)
    → day_of c ≡ day_of (over c table)
unfolding day_of call_of
unread_day c table ends alike = rw ends (ap (day_on c.job.n) (unread_rows c.job.n c.table table alike))

pub legs_home_unread : LegsHomeUnread written
unfolding call_of
legs_home_unread c table x y p q ends same alike =
    p ∙ on_its_day c ∙ ap (answer_on (day_of c) c) same ∙ go (cause (over c table)) ∙ sym (q ∙ on_its_day (over c table))
  where
    go : (k : ℕ) → answer_on (day_of c) c k ≡ answer_on (day_of (over c table)) (over c table) k
    go zero = ap (λ (D : Day). answer_on D c 0) (unread_day c table ends alike)
    go (suc k) = refl
