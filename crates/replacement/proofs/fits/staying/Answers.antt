-- The goals of `fits::staying` that the search leaves.
use mathlib.Core.Path.{◌≡◌, sym, ap, ◌∙◌}
use mathlib.Core.Bool.{Bool}
use mir.Val.{bool_byte}
use native.Mathlib.Omega.{arith}
use lib.ListN.{get_or}
use Rattle.stops.specs.Code.{empty_record}
use Rattle.records.specs.Code.{records, slots}
use Rattle.lanes.specs.Code.{sized}
use Rattle.replacement.specs.Code.{is_staying}
use Rattle.replacement.proofs.FitLaws.{one_or_none, staying-none, staying_more}
use Rattle.replacement.proofs.fits.staying.Goals as goal
use Rattle.replacement.proofs.fits.staying.Goals.{After-from-stay}

pub loop-i-init : goal.loop-i-init
loop-i-init c =
    let a = c.args in
    (omega arith, sym (staying-none a.change.limit (slots a.change.taking (records a.kids.now)) (records a.w.now) c.requires.1.1 a.from))

-- whether the record at i stays
abbrev staying_at : After-from-stay → Bool
staying_at c =
    let a = c.args in
    is_staying a.change.limit (slots a.change.taking (records a.kids.now)) (sized (get_or (records a.w.now) c.loop-i.i empty_record))

one : (c : After-from-stay) → c.from-stay.result ≡ bool_byte (staying_at c)
one c = c.from-stay.ensures ∙ ap bool_byte c.stays.ensures

pub loop-i-preserved : goal.loop-i-preserved
loop-i-preserved c =
    let a = c.args in
    let one = one (goal.at.loop-i-preserved c).After-from-stay in
    let few = one_or_none (staying_at (goal.at.loop-i-preserved c).After-from-stay) in
    let more =
    staying_more a.change.limit (slots a.change.taking (records a.kids.now)) (records a.w.now) c.requires.1.1 a.from c.loop-i.i
    c.loop-i.auto.i (omega (arith, c.loop-i-test.true, c.requires.0.1)) in
    (omega (arith, one, few, c.loop-i.invariant.0), omega (arith, more, one, c.loop-i.invariant.1))
