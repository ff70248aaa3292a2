-- The goals of `best_with` that the search leaves.
use mathlib.Core.Path.{◌∙◌}
use Rattle.first_order.proofs.ExchangeLaws.{behind_tried, behind-ends}
use Rattle.first_order.proofs.terms.Terms.best_with.Goals as goal

pub loop-q-preserved : goal.loop-q-preserved
loop-q-preserved c =
    let own = c.exchange_cost-cost in
    let now = c.loop-q in (
      own.ensures.1 ∙ now.invariant.0,
      behind_tried c.args.p now.q own.result now.invariant.1 c.requires.1.0 c.loop-q-test.true (cc) c.better-found.ensures,
    )

pub returns : goal.returns
returns c =
    let l = c.loop-q in
    (l.invariant.0, behind-ends c.args.p l.q l.invariant.1 c.loop-q-test.false)
