-- `put_stops` meets its contract. The loop's invariant: the stops in front of the index are written.
use Prim.Native.Nat.{◌*◌}
use lib.ListN.{take}
use Rattle.report_format.specs.Text.{spaced}
use Rattle.printing.specs.Code.{Appended, decimal_room}
use Rattle.printing.proofs.lines.put_stops.Given as goal

abbrev pub invariant-loop-s : goal.invariant-loop-s
invariant-loop-s l = Appended l.initial.draft (spaced (take l.s-index l.stops)) (decimal_room * l.s-index) l.draft
