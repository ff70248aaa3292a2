-- `put_stopped` meets its contract: the order, the counts, the mark and the floor, one behind the other.
use Rattle.report_format.specs.Text.{line}
use Rattle.report_format.specs.Printed.{stopped_lines}
use Rattle.printing.proofs.lines.put_stopped.Goals as goal

pub returns : goal.returns
unfolding stopped_lines line
returns c =
    rw (c.put_line-2.ensures.0, c.put_line.ensures.0, c.put_counts.ensures.0, c.put_known.ensures.0, c.requires.1, c.from.ensures, c.from-2.ensures)
