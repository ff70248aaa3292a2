-- `put_answer` meets its contract: two lines, one behind the other.
use native.Mathlib.Omega.{arith}
use Rattle.std.proofs.lemmas.Grind.{common_steps}
use Rattle.report_format.specs.Text.{line}
use Rattle.report_format.specs.Printed.{answer_lines}
use Rattle.printing.proofs.lines.put_answer.Goals as goal

pub returns : goal.returns
unfolding answer_lines line
returns c = grind (arith, common_steps)
