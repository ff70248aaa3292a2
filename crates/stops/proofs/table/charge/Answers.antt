-- `stops::table::charge` meets its contract: the charge is the number on the diagonal.
use native.Mathlib.Omega.{arith}
use Rattle.stops.specs.Tables.{charge}
use Rattle.stops.proofs.table.charge.Goals as goal

pub entry-requires : goal.entry-requires
entry-requires c = let p = c.requires in (p.0, (p.1.0, (omega (arith, p.1.1), omega (arith, p.1.1))))

pub returns : goal.returns
unfolding charge
returns c = c.entry.ensures
