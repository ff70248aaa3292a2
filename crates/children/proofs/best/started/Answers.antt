-- The goals of `best::started` that the search leaves.
use mathlib.Core.Path.{sym, ◌∙◌}
use borrow.Author.Tests.{eqb-true, eqb-false}
use Rattle.orders.specs.Orders.{Order}
use Rattle.orders.proofs.Order.{order_partial}
use Rattle.stops.proofs.Paths.{partial_reckonable}
use Rattle.stops.proofs.StopsWalk.{cost-day}
use Rattle.children.specs.Code.{Rows, encode_of}
use Rattle.children.proofs.FlownLaws.{empty_best, Flown, flown-none, flown_more, flown_wide, flown_best, order-given}
use Rattle.children.proofs.best.started.Goals as goal
use Rattle.children.proofs.best.started.Goals.{At-loop-s}

rows : (c : At-loop-s) → Rows c.args.setting c.args.t
rows c = c.requires.0

order : (c : At-loop-s) → Order c.args.setting.n c.args.start.now
order c = order-given _ _ c.requires.1 (eqb-false _ 0 (sym c.is_empty.ensures ∙ c.if-is_empty.false))

flown : (c : At-loop-s) → let a = c.args in Flown a.setting.n a.start.now c.loop-s.s-index c.loop-s.x
flown c = c.loop-s.invariant _ (rows c).few (order c)

pub returns-then-is_empty : goal.returns-then-is_empty
returns-then-is_empty c = let a = c.args in empty_best (encode_of a.setting a.t) a.start.now (eqb-true _ 0 (sym c.is_empty.ensures ∙ c.if-is_empty.true))

pub loop-s-preserved : goal.loop-s-preserved
loop-s-preserved c n few o =
    rw (c.extended-x.ensures, c.from.ensures) (flown_more few o (c.loop-s.invariant n few o) c.loop-s-test.true)

pub returns : goal.returns
returns c =
    let n = c.args.setting.n in
    flown_best (rows (goal.at.returns c).At-loop-s) (order (goal.at.returns c).At-loop-s) (flown (goal.at.returns c).At-loop-s) c.loop-s-test.false (c.order_cost.ensures ∙ cost-day n _ _)

pub loop-s-init : goal.loop-s-init
loop-s-init c n few o = flown-none n _ c.empty-x.ensures

pub extended-x-requires : goal.extended-x-requires
extended-x-requires c = rw c.from.ensures (flown_wide (rows (goal.at.extended-x-requires c).At-loop-s).few (order (goal.at.extended-x-requires c).At-loop-s) (flown (goal.at.extended-x-requires c).At-loop-s) c.loop-s-test.true)

pub order_cost-requires : goal.order_cost-requires
order_cost-requires c = partial_reckonable (rows (goal.at.order_cost-requires c).At-loop-s).few (rows (goal.at.order_cost-requires c).At-loop-s).cheap (order_partial _ _ (order (goal.at.order_cost-requires c).At-loop-s))
