-- `staying` meets its contract. The loop's invariant: `stay` counts those of the records from `from` to i.
use mathlib.Core.Path.{◌≡◌}
use Prim.Native.Nat.{◌≤◌}
use Rattle.records.specs.Code.{records, slots}
use Rattle.replacement.proofs.FitLaws.{staying_in}
use Rattle.replacement.proofs.fits.staying.Given as goal

abbrev pub invariant-loop-i : goal.invariant-loop-i
invariant-loop-i l =
    (l.stay ≤ l.i) × (l.stay ≡ staying_in l.change.limit (slots l.change.taking (records l.kids)) (records l.w) l.from l.i)
