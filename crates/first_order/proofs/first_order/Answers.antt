-- `first_order` meets its contract: a refusal is the answer where checks 1 to 4 and 11 find a cause; where they find none, what is made is.
use mathlib.Core.Path.{◌≡◌, sym}
use lib.ListN.{length, take}
use Rattle.answer.proofs.Passes.{TablePasses, PairsPass, first_passed}
use Rattle.first_order.proofs.FirstLaws.{zeros, zeros-front, refused-first, made-first}
use Rattle.first_order.proofs.first_order.Goals as goal
use Rattle.first_order.proofs.first_order.Goals.{In_default}

passed : (c : In_default) → let a = c.args in TablePasses a.n a.table.now × PairsPass a.n a.pairs.now
passed c =
    let a = c.args in
    first_passed a.n a.bound a.table.now a.pairs.now (sym c.in_default.ensures)

-- the places that are lent for the order
lent : (c : In_default) → let n = c.args.n in length (take n zeros) ≡ n
lent c = sym (zeros-front _ (passed c).0.priced.few)

pub returns-in-Err : goal.returns-in-Err
returns-in-Err c = rw c.from.ensures (refused-first _ _ _ _ c.in-Err.refusal c.in-Err.ensures)

pub slice_bounds-order-end : goal.slice_bounds-order-end
slice_bounds-order-end c = (passed (goal.at.slice_bounds-order-end c).In_default).0.priced.few

pub slice_bounds-make_from-end : goal.slice_bounds-make_from-end
unfolding zeros
slice_bounds-make_from-end c = sym (lent (goal.at.slice_bounds-make_from-end c).In_default)

pub make_from-cost-requires : goal.make_from-cost-requires
unfolding zeros
make_from-cost-requires c = rw (lent (goal.at.make_from-cost-requires c).In_default) (sym c.in_default.ensures)

pub returns : goal.returns
unfolding zeros
returns c =
    let lent = lent (goal.at.returns c).In_default in
    made-first _ _ _ _ c.in_default.ensures _ (rw lent at c.make_from-cost.ensures.0) (rw lent at c.make_from-cost.ensures.1)
