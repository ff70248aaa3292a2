-- `put_order` meets its contract: the name, the stops and the line's end.
use native.Mathlib.Omega.{arith}
use Rattle.std.proofs.lemmas.Grind.{common_steps}
use Rattle.report_format.specs.Text.{line}
use Rattle.printing.proofs.lines.put_order.Goals as goal

pub returns : goal.returns
unfolding line
returns c = grind (arith, common_steps)
