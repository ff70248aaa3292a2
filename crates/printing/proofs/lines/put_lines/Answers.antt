-- `put_lines` meets its contract: the lines of a stopped run, or the order and behind it the counts.
use mathlib.Core.Path.{◌≡◌}
use mathlib.Core.Logic.{◌≢◌}
use native.Mathlib.Omega.{arith}
use Rattle.report_format.specs.Printed.{seven_lines}
use Rattle.printing.proofs.PrintedLaws.{lines_seven, lines_stopped}
use Rattle.printing.proofs.lines.put_lines.Goals as goal

pub returns-then-r-ne0 : goal.returns-then-r-ne0
returns-then-r-ne0 c =
    let stopped : c.args.r.mark ≢ 0 = omega arith in
    rw (lines_stopped _ c.args.count c.args.r stopped) c.put_stopped.ensures

pub returns : goal.returns
unfolding seven_lines
returns c =
    let finished : c.args.r.mark ≡ 0 = omega arith in
    rw (lines_seven _ c.args.count c.args.r finished, c.put_counts.ensures.0, c.put_answer.ensures.0, c.requires.1)
