-- `choose` meets its contract: each selection is what the function that it calls ensures.
use native.Mathlib.Omega.{arith}
use Rattle.records.specs.Code.{records}
use Rattle.blocks.proofs.SelectLaws.{some_live}
use Rattle.selection.proofs.ChooseLaws.{chosen_first}
use Rattle.selection.proofs.choose.Goals as goal

pub earliest-requires : goal.earliest-requires
earliest-requires c =
    let (blocked, small) = c.requires.1 (omega (arith, c.in-2.is)) in
    (blocked, (small, (omega arith, some_live (records c.args.w.now) c.args.p.used c.requires.0.0 c.requires.0.1)))

pub returns-in-2 : goal.returns-in-2
returns-in-2 c =
    rw c.in-2.is
    (chosen_first (records c.args.w.now) c.args.p.used c.requires.0.0 c.args.n c.earliest.result c.earliest.ensures)
