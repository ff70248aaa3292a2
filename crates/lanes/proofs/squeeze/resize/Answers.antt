-- The goals of `squeeze::resize` that the search leaves.
use mathlib.Core.Path.{◌≡◌, ◌∙◌}
use native.Mathlib.Omega.{arith}
use lib.ListN.{set, get_or}
use Rattle.stops.specs.Code.{empty_record}
use Rattle.records.specs.Code.{records}
use Rattle.records.proofs.ViewLaws.{same-records}
use Rattle.lanes.specs.Code.{sized}
use Rattle.lanes.proofs.SqueezeLaws.{change_again}
use Rattle.lanes.proofs.squeeze.resize.Goals as goal

pub store-requires : goal.store-requires
store-requires c = omega (arith, same-records c.args.w.now c.loop-i.w (omega arith))

pub loop-i-preserved : goal.loop-i-preserved
loop-i-preserved c =
    let s = c.loop-i in
    let stored : records c.store.new.w ≡ set (records s.w) s.i (sized (get_or (records s.w) s.i empty_record)) = cc in
    change_again sized _ c.args.to (records s.w) _ empty_record (omega arith) (omega (arith, same-records c.args.w.now s.w (omega arith))) stored
    ∙ s.invariant
