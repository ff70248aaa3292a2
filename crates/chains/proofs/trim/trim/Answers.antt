-- The goal of `trim::trim` that the search leaves.
use mathlib.Core.Path.{◌≡◌}
use mathlib.Core.Bool.{false}
use Prim.Native.Nat.{◌-◌}
use lib.ListN.{get_or}
use Rattle.stops.specs.Code.{empty_record}
use Rattle.records.specs.Code.{records}
use Rattle.lanes.specs.Code.{is_live}
use Rattle.chains.proofs.TrimLaws.{trimmed_one}
use Rattle.chains.proofs.trim.trim.Goals as goal

pub loop-i-preserved : goal.loop-i-preserved
loop-i-preserved c =
    let l = records c.args.w.now in
    let dead : is_live (get_or l (c.loop-i.i - 1) empty_record) ≡ false = cc in
    trimmed_one l _ _ _ c.requires.0 _ c.loop-i.invariant c.loop-i-test.true dead _ c.unlink.ensures
