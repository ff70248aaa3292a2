-- The goals of `best_exchange` that the search leaves.
use mathlib.Core.Path.{refl, ◌∙◌}
use Rattle.first_order.proofs.ExchangeLaws.{all_start, all_tried, all_end}
use Rattle.first_order.proofs.terms.Terms.best_exchange.Goals as goal

pub loop-p-init : goal.loop-p-init
loop-p-init c = (refl, all_start c.args.self.now _ c.requires.0 c.args.own c.requires.1)

pub loop-p-preserved : goal.loop-p-preserved
loop-p-preserved c =
    let best = c.best_with-found in
    let now = c.loop-p in
    (best.ensures.0 ∙ now.invariant.0, all_tried now.p now.invariant.1 c.loop-p-test.true (rw now.invariant.0 at best.ensures.1))

pub returns : goal.returns
returns c =
    let l = c.loop-p in
    (l.invariant.0, all_end c.args.self.now _ l.p l.invariant.1 c.loop-p-test.false c.requires.0)
