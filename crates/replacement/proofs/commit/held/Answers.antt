-- `held` meets its contract: the branched node joins the far end's lane, and the active lane is as it was.
use mathlib.Core.Path.{◌≡◌, refl, subst}
use Prim.Native.Nat.{◌+◌}
use lib.ListN.{set}
use Rattle.records.specs.Code.{records}
use Rattle.lanes.specs.Code.{place_of}
use Rattle.lanes.specs.declared.Lane.{Lane}
use Rattle.lanes.specs.Layouts.{far_lane}
use Rattle.chains.specs.Code.{joined_of, index_with}
use Rattle.replacement.proofs.HeldLaws.{held_laid, held-nodes, held-far, one_held}
use Rattle.replacement.proofs.commit.held.Goals as goal
use Rattle.replacement.proofs.commit.held.Goals.{After-hold, Else-far-eq0}

more : (c : Else-far-eq0) → let a = c.args in a.far ≡ a.p.far + 1
more c = one_held c.args.p c.args.far c.requires.1.1 c.if-far-eq0.false

-- what `hold` ensures of the lane
stored :
    (c : After-hold)
    → let a = c.args in
    let l = far_lane a.p in
    (records c.hold.new.w ≡ set (records a.w.now) (place_of l.end (l.count + 1)) (joined_of l a.index.now a.b))
    × (c.hold.new.index ≡ index_with l (l.count + 1) a.index.now a.b)
stored c =
    let a = c.args in
    subst
    (λ (l : Lane).
    (records c.hold.new.w ≡ set (records a.w.now) (place_of l.end (l.count + 1)) (joined_of l a.index.now a.b))
    × (c.hold.new.index ≡ index_with l (l.count + 1) a.index.now a.b))
    c.far_lane.ensures
    c.hold.ensures

pub returns : goal.returns
returns c =
    let a = c.args in
    let recs = records a.w.now in
    let index = a.index.now in
    let laid = c.requires.0.0 in
    let room = c.requires.1.0 in
    let recs' = records c.hold.new.w in
    let index' = c.hold.new.index in
    let s = stored (goal.at.returns c).After-hold in
    let b = c.requires.0.1 in (
      (
        held_laid recs a.p index a.far laid (more (goal.at.returns c).Else-far-eq0) room recs' index' a.b s.0 s.1 b,
        record { capacity = refl; ranked = refl; linked = refl; far_linked = refl },
      ),
      (
        (refl, refl),
        (
          held-nodes recs a.p index a.far laid (more (goal.at.returns c).Else-far-eq0) room recs' index' a.b s.0 s.1 b,
          (refl, held-far recs a.p index a.far laid (more (goal.at.returns c).Else-far-eq0) room recs' index' a.b s.0 s.1 b),
        ),
      ),
    )
