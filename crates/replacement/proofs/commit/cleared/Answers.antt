-- `cleared` meets its contract: the nodes that are left are those that no child dominates, and what is taken off the end is gone.
use mathlib.Core.Path.{◌≡◌, sym, ◌∙◌}
use Prim.Native.Nat.{suc, ◌+◌}
use native.Mathlib.Omega.{arith}
use lib.ListN.{length}
use Rattle.records.specs.Code.{records}
use Rattle.lanes.specs.Code.{live_of}
use Rattle.replacement.proofs.ClearLaws.{taking_slots, left_few, kept-cleared}
use Rattle.replacement.proofs.commit.cleared.Goals as goal
use Rattle.replacement.proofs.commit.cleared.Goals.{After-strike_all-lost}

pub strike_all-lost-requires : goal.strike_all-lost-requires
strike_all-lost-requires c =
    (c.leave.ensures.1, taking_slots c.requires.1)

-- how many nodes are left, seen from behind `strike_all`
few :
    (c : After-strike_all-lost)
    → let a = c.args in
    suc (c.strike_all-lost.result + length (live_of a.p.used (records c.strike_all-lost.new.w))) ≡ a.p.active
few c =
    let a = c.args in
    let change = c.requires.1 in
    left_few (records a.w.now) a.p a.i change.inside (omega (arith, c.requires.0.whole, c.requires.0.fits)) change.live c.leave.ensures.0 c.strike_all-lost.ensures.1
    ∙ sym change.counted

pub returns : goal.returns
returns c =
    let a = c.args in
    let change = c.requires.1 in
    kept-cleared (records a.w.now) a.p a.i change.inside (omega (arith, c.requires.0.whole, c.requires.0.fits)) change.live c.leave.ensures.0
    c.strike_all-lost.ensures.1 _ _ c.trim-used.result change.counted c.strike_all-lost.ensures.0
    (rw c.active_lane.ensures at c.trim-used.ensures)

pub overflow_sub-result : goal.overflow_sub-result
overflow_sub-result c = omega (arith, few (goal.at.overflow_sub-result c).After-strike_all-lost)

pub overflow_sub-result-2 : goal.overflow_sub-result-2
overflow_sub-result-2 c = omega (arith, few (goal.at.overflow_sub-result-2 c).After-strike_all-lost)
