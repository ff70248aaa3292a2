-- `put_known` meets its contract: nothing where the order's first place is 0, and the lines of the order otherwise.
use mathlib.Core.Path.{◌≡◌, sym}
use mathlib.Core.List.{append-nil}
use mathlib.Core.Logic.{◌≢◌}
use native.Mathlib.Omega.{arith}
use lib.ListN.{get_or}
use Rattle.report_format.specs.Printed.{known_lines}
use Rattle.printing.proofs.PrintedLaws.{known_lines_lem}
use Rattle.printing.proofs.lines.put_known.Goals as goal

pub returns-then-r-ne0 : goal.returns-then-r-ne0
returns-then-r-ne0 c =
    let some : get_or c.args.r.order 0 0 ≢ 0 = c.if-r-ne0.true in
    rw (known_lines_lem _ c.args.count c.args.r some) c.put_answer.ensures

pub returns-else-r-ne0 : goal.returns-else-r-ne0
unfolding known_lines
returns-else-r-ne0 c =
    let none : get_or c.args.r.order 0 0 ≡ 0 = c.if-r-ne0.false in
    (rw none (sym (append-nil _)), omega arith)
