-- `exchange_cost` meets its contract: the order whose cost it takes is the exchanged one, and made again the exchange is undone.
use mathlib.Core.Path.{◌≡◌, ◌∙◌}
use native.Mathlib.Omega.{arith}
use Rattle.first_answer.specs.Exchanges.{exchanged}
use Rattle.first_answer.proofs.Exchanged.{exchanged-length, exchanged-order, exchanged_twice}
use Rattle.first_order.proofs.ExchangeLaws.{swap-exchanged}
use Rattle.first_order.proofs.terms.Terms.exchange_cost.Goals as goal
use Rattle.first_order.proofs.terms.Terms.exchange_cost.Goals.{After-swap}

-- the order whose cost is taken is the exchanged one
there : (c : After-swap) → let a = c.args in c.swap.new.self ≡ exchanged a.x.now a.p a.q
there c =
    let a = c.args in
    c.swap.ensures.after ∙ swap-exchanged a.x.now a.p a.q c.requires.1.0 c.requires.1.1

pub allowed_cost-cost-requires : goal.allowed_cost-cost-requires
allowed_cost-cost-requires c =
    let a = c.args in
    let pre = c.requires in
    rw (there (goal.at.allowed_cost-cost-requires c).After-swap) (exchanged-order a.x.now a.p a.q pre.1.0 pre.1.1 a.self.now.n pre.0)

pub returns : goal.returns
returns c =
    let a = c.args in
    let pre = c.requires in
    let is = there (goal.at.returns c).After-swap in
    let long = exchanged-length a.x.now a.p a.q in (
      rw is at c.allowed_cost-cost.ensures,
      c.swap-2.ensures.after
          ∙ rw is (swap-exchanged _ a.p a.q (omega (arith, long)) (omega (arith, long)) ∙ exchanged_twice a.x.now a.p a.q pre.1.0 pre.1.1),
    )
