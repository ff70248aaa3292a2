-- The goals of `table::small_charges` that the search leaves.
use native.Mathlib.Omega.{arith}
use Rattle.stops.proofs.RowLaws.{charge_finds, charge_skips, charges_end}
use Rattle.stops.proofs.table.small_charges.Goals as goal

pub charge-requires : goal.charge-requires
charge-requires c = let p = c.requires in (p.0, (p.1, omega arith))

pub returns-then-charge-gt-DEAREST_CHARGE : goal.returns-then-charge-gt-DEAREST_CHARGE
returns-then-charge-gt-DEAREST_CHARGE c =
    let a = c.args in
    charge_finds a.n a.table.now c.loop-j.j c.loop-j.invariant (omega arith) (omega (arith, c.charge.ensures))

pub loop-j-preserved : goal.loop-j-preserved
loop-j-preserved c =
    let a = c.args in
    charge_skips a.n a.table.now c.loop-j.j c.loop-j.invariant (omega arith) (omega (arith, c.charge.ensures))

pub returns : goal.returns
returns c =
    let a = c.args in
    charges_end a.n a.table.now c.loop-j.j c.loop-j.invariant (omega arith)
