-- `extend::extended_of` meets its contract: where the stop does not fit the record is as it was, and where it fits `extended` makes the
-- longer one (`ExtendLaws`).
use mathlib.Core.Path.{refl, sym, ◌∙◌, subst}
use lib.Dec.{T}
use Rattle.node_answers.specs.Answers.{extension}
use Rattle.node_answers.proofs.LongerLaws.{Fits, fits_parts}
use Rattle.inspection.specs.Code.{of_six}
use Rattle.inspection.proofs.ExtendLaws.{fits_wide, fits-extended}
use Rattle.inspection.proofs.extend.extended_of.Goals as goal
use Rattle.inspection.proofs.extend.extended_of.Goals.{Then-fits}

pub returns-else-fits : goal.returns-else-fits
unfolding extension of_six
returns-else-fits c =
    let r = c.fits_on-fits in
    rw (← r.ensures, c.if-fits.false) refl

-- it fits
parts :
    (c : Then-fits) →
    Fits (of_six c.args.size c.args.set c.args.path c.args.bound c.args.first c.args.second) c.args.added.stop c.args.added.leg
unfolding of_six
parts c =
    fits_parts _ c.args.added.stop c.args.added.leg (subst T (sym c.if-fits.true ∙ c.fits_on-fits.ensures) tt)

pub extended-after-requires : goal.extended-after-requires
unfolding of_six
extended-after-requires c = fits_wide (parts (goal.at.extended-after-requires c).Then-fits)

pub returns-then-fits : goal.returns-then-fits
unfolding extension of_six
returns-then-fits c =
    let p = parts (goal.at.returns-then-fits c).Then-fits in
    rw (c.extended-after.ensures, fits-extended p, ← c.fits_on-fits.ensures, c.if-fits.true) refl
