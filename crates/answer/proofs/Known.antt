-- At every state of a call's run the order known, if one is, is an order of the n stops that respects the pairs (`best_known`), and a report with it has
-- that order and its cost (`order-reported`): its first n places hold it (`padded-front`).
use mathlib.Core.Path.{◌≡◌, refl, sym, ap, subst}
use mathlib.Core.Option.{Option, none, some}
use Prim.Native.Nat.{ℕ, ◌-◌}
use lib.ListN.{length, take, replicate}
use lib.Seq.{take_at}
use Rattle.sizes.specs.Sizes.{order_places}
use Rattle.lists.specs.Lists.{padded}
use Rattle.search.specs.Problem.{State}
use Rattle.search.proofs.Laws.{KnownIn, unknown as unknown_in, known as known_in}
use Rattle.search.proofs.Plain.{tree, plan_of, cut_of}
use Rattle.search.proofs.Optimal.{reached_known}
use Rattle.orders.specs.Orders.{Node, size, Order}
use Rattle.orders.proofs.Order.{order-length}
use Rattle.orders.proofs.Pairs.{leads_allowed}
use Rattle.days.specs.Days.{problem}
use Rattle.records.specs.Records.{records_in}
use Rattle.answer.specs.Call.{Call}
use Rattle.answer.specs.Checks.{cause}
use Rattle.answer.specs.Answer.{day_of, problem_of, choices_of, given, StateOf, report_with}
use Rattle.answer.specs.Ends.{AllowedOrder, HasOrder}
use Rattle.answer.proofs.Passes.{Passes, passes}
use Rattle.answer.proofs.Instance.{call_pairing, call_lawful, bound_laws, start_known, state_reached}

pub data BestKnown (c : Call) : Option Node → Type 0 where
  unknown : BestKnown c none
  known : (x : Node) → AllowedOrder c x → BestKnown c (some x)

pub known_order : {c : Call} {x : Node} → BestKnown c (some x) → AllowedOrder c x
known_order (known x a) = a

pub best_known : (c : Call) → cause c ≡ 0 → {s : State Node} → StateOf c s → BestKnown c s.best
unfolding problem_of problem
best_known c passed {s} steps =
    let ok : Passes c = passes c passed in
    at s.best
    (reached_known (tree (problem_of c)) (plan_of (problem_of c) (choices_of c)) (cut_of (choices_of c)) (records_in c.pool) (size c.job.n) c.job.n
    (call_lawful c ok) (bound_laws c ok) (given c.start) (start_known c ok) s (state_reached c ok steps))
  where
    at : (best : Option Node) → KnownIn (problem_of c) best → BestKnown c best
    at best unknown_in = unknown
    at best (known_in x whole leads) = known x (leads_allowed (call_pairing c (passes c passed)) (problem_of c) (λ y. refl) x whole leads)

-- a report's first n places hold its order
pub padded-front : (n : ℕ) (x : Node) → Order n x → take n (padded order_places x) ≡ x
unfolding padded
padded-front n x o = take_at x (replicate (order_places - length x) 0) n (order-length n x o)

pub order-reported :
    (c : Call) (number mark floor : ℕ) (x : Node) (s : State Node) → AllowedOrder c x
    → HasOrder c (report_with number mark ((day_of c).cost x) floor x s)
unfolding report_with
order-reported c number mark floor x s a =
    let front : take c.job.n (padded order_places x) ≡ x = padded-front c.job.n x a.order in
    record { is_allowed = subst (AllowedOrder c) (sym front) a; zeros_past_n = ap (padded order_places) (sym front); cost_is_its = ap (day_of c).cost (sym front) }
