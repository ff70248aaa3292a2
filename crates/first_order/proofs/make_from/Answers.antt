-- `make_from` meets its contract: what passes has rows and pairs that `make` takes.
use lib.ListN.{length}
use Rattle.answer.proofs.Passes.{TablePasses, PairsPass, first_passed}
use Rattle.stops.proofs.LegTable.{rows_cheap}
use Rattle.first_order.proofs.FirstLaws.{file_asks, makes-first}
use Rattle.first_order.proofs.make_from.Goals as goal
use Rattle.first_order.proofs.make_from.Goals.{Start}

passed : (c : Start) → let a = c.args in TablePasses (length a.x.now) a.table.now × PairsPass (length a.x.now) a.pairs.now
passed c =
    let a = c.args in
    first_passed (length a.x.now) a.bound a.table.now a.pairs.now c.requires

pub rows-t-requires : goal.rows-t-requires
rows-t-requires c = (passed (goal.at.rows-t-requires c).Start).0.priced

pub precedence_of-requires : goal.precedence_of-requires
precedence_of-requires c =
    let (table, pairs) = passed (goal.at.precedence_of-requires c).Start in
    (file_asks table.priced.few pairs).0

pub make-requires : goal.make-requires
make-requires c =
    let (table, pairs) = passed (goal.at.make-requires c).Start in (
      rw c.rows-t.ensures (rows_cheap _ _ table.priced _),
      (table.some, (table.priced.few, rw c.precedence_of.ensures (file_asks table.priced.few pairs).1)),
    )

pub returns : goal.returns
returns c =
    let a = c.args in
    makes-first (length a.x.now) a.bound a.table.now a.pairs.now c.requires c.rows-t.ensures c.precedence_of.ensures _ c.make.ensures.0 c.make.ensures.1
