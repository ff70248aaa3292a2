-- The goals of `improve` that the search leaves.
use mathlib.Core.Path.{◌≡◌, ◌∙◌}
use native.Mathlib.Omega.{arith}
use Rattle.first_order.specs.Code.{made}
use Rattle.first_order.proofs.ExchangeLaws.{swap-exchanged, reckonable, improving_asks, improving_again, improving_ends}
use Rattle.first_order.proofs.terms.Terms.improve.Goals as goal
use Rattle.first_order.proofs.terms.Terms.improve.Goals.{After-swap}

pub order_cost-cost-requires : goal.order_cost-cost-requires
order_cost-cost-requires c = reckonable c.args.self.now c.requires.order

-- the best exchange is made
made_now : (c : After-swap) → c.swap.new.self ≡ made c.loop-found.x c.loop-found.found
made_now c =
    let m = c.loop-found.invariant.found in
    c.swap.ensures.after ∙ swap-exchanged _ _ _ m.first m.second

pub best_exchange-found-requires-in-loop-found : goal.best_exchange-found-requires-in-loop-found
best_exchange-found-requires-in-loop-found c =
    rw (made_now (goal.at.best_exchange-found-requires-in-loop-found c).After-swap) (improving_asks c.loop-found.invariant)

pub loop-found-preserved : goal.loop-found-preserved
loop-found-preserved c =
    let best = c.best_exchange-found-in-loop-found in
    let is = made_now (goal.at.loop-found-preserved c).After-swap in
    improving_again c.loop-found.invariant best.new.x best.result (best.ensures.0 ∙ is) (rw is at best.ensures.1)
    (omega (arith, c.loop-found-test.true))

pub returns : goal.returns
returns c =
    (rw c.best_exchange-found.ensures.0 at (improving_ends c.loop-found.invariant (omega (arith, c.loop-found-test.false))), c.loop-found.invariant.costs)
