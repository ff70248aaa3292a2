-- `unbeaten` meets its contract. The loop's invariant: whether a child dominates the record lies with the stops left.
use mathlib.Core.Path.{◌≡◌}
use lib.ListN.{get_or}
use Rattle.stops.specs.Code.{empty_record}
use Rattle.records.specs.Code.{records, slots}
use Rattle.lanes.specs.Code.{sized}
use Rattle.replacement.specs.Code.{is_beaten}
use Rattle.replacement.proofs.fits.unbeaten.Given as goal

abbrev pub invariant-loop-s : goal.invariant-loop-s
invariant-loop-s l =
    let x = sized (get_or (records l.w) l.i empty_record) in
    is_beaten (slots l.s-iterator.left (records l.kids)) x ≡ is_beaten (slots l.taking (records l.kids)) x
