-- The goals of `fits::unbeaten` that the search leaves.
use mathlib.Core.Path.{◌≡◌, sym, ◌∙◌}
use lib.ListN.{get_or}
use Rattle.stops.specs.Code.{empty_record, rec_dominates}
use Rattle.records.specs.Code.{records, in_slot}
use Rattle.lanes.specs.Code.{sized}
use Rattle.replacement.proofs.FitLaws.{beaten_none, beaten_here, beaten_later}
use Rattle.replacement.proofs.fits.unbeaten.Goals as goal
use Rattle.replacement.proofs.fits.unbeaten.Goals.{After-beaten}

-- what `beaten` says
tested :
    (c : After-beaten)
    → c.beaten.result ≡ rec_dominates (in_slot (records c.args.kids.now) c.in-Some.s) (sized (get_or (records c.args.w.now) c.args.i empty_record))
unfolding in_slot
tested c = cc

pub returns-then-beaten : goal.returns-then-beaten
returns-then-beaten c =
    let a = c.args in
    let x = sized (get_or (records a.w.now) a.i empty_record) in
    let found = beaten_here (records a.kids.now) x c.in-Some.ensures.steps.0 (sym (tested (goal.at.returns-then-beaten c).After-beaten) ∙ c.if-beaten.true) in
    rw (← c.loop-s.invariant, found)

pub loop-s-preserved : goal.loop-s-preserved
loop-s-preserved c =
    let a = c.args in
    let x = sized (get_or (records a.w.now) a.i empty_record) in
    let on = beaten_later (records a.kids.now) x c.in-Some.ensures.steps.0 (sym (tested (goal.at.loop-s-preserved c).After-beaten) ∙ c.if-beaten.false) in
    rw (c.in-Some.ensures.steps.1, ← on) c.loop-s.invariant

pub returns : goal.returns
returns c =
    let a = c.args in
    rw (← c.loop-s.invariant, c.in-None.ensures.steps, beaten_none (records a.kids.now) (sized (get_or (records a.w.now) a.i empty_record)))
