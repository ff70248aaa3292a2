-- `squeezed` meets its contract: what is left of the lane is linked and ranked, and the far end is as it was.
use mathlib.Core.Path.{refl, subst}
use lib.Dec.{T}
use Rattle.records.specs.Code.{records}
use Rattle.lanes.specs.declared.Lane.{Lane}
use Rattle.lanes.specs.Layouts.{active_lane}
use Rattle.chains.specs.Code.{Chained, Relinked, Only}
use Rattle.replacement.proofs.TidyLaws.{numbered, rerankable, squeezed_kept}
use Rattle.replacement.proofs.commit.squeezed.Goals as goal
use Rattle.replacement.proofs.commit.squeezed.Goals.{After-relink}

-- what `relink` ensures of the lane
relinked :
    (c : After-relink)
    → let a = c.args in
    let l = active_lane (numbered a.p c.squeeze-used.result c.squeeze-used.result) in
    (T l.linked → Chained (records c.relink.new.w) l c.relink.new.index)
    × (Only l.heads a.index.now c.relink.new.index × Relinked (records c.squeeze-used.new.w) l (records c.relink.new.w))
relinked c =
    let a = c.args in
    subst
    (λ (l : Lane).
    (T l.linked → Chained (records c.relink.new.w) l c.relink.new.index)
    × (Only l.heads a.index.now c.relink.new.index × Relinked (records c.squeeze-used.new.w) l (records c.relink.new.w)))
    c.active_lane.ensures
    c.relink.ensures

pub reranked-requires : goal.reranked-requires
reranked-requires c =
    let a = c.args in
    let r = relinked (goal.at.reranked-requires c).After-relink in
    rerankable (records a.w.now) (records c.squeeze-used.new.w) a.p a.index.now a.limit c.squeeze-used.result c.requires.0
    c.squeeze-used.ensures (records c.relink.new.w) c.relink.new.index r.1.0 r.1.1

pub returns : goal.returns
returns c =
    let a = c.args in
    let r = relinked (goal.at.returns c).After-relink in (
      squeezed_kept (records a.w.now) (records c.squeeze-used.new.w) a.p a.index.now a.limit c.squeeze-used.result c.requires.0
          c.squeeze-used.ensures (records c.relink.new.w) c.relink.new.index r.1.0 r.1.1 c.requires.1 _
          r.0 c.reranked.ensures.0 c.reranked.ensures.1,
      refl,
    )
