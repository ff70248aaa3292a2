-- `resize` meets its contract. The loop's invariant: the records with the sizes put back from i on are the records at entry with the sizes
-- put back from `from` on.
use mathlib.Core.Path.{◌≡◌}
use Rattle.records.specs.Code.{records}
use Rattle.lanes.specs.Code.{sized}
use Rattle.lanes.proofs.SqueezeLaws.{changed}
use Rattle.lanes.proofs.squeeze.resize.Given as goal

abbrev pub invariant-loop-i : goal.invariant-loop-i
invariant-loop-i l = changed sized l.i l.to (records l.w) ≡ changed sized l.from l.to (records l.initial.w)
