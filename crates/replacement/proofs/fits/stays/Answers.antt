-- `stays` meets its contract: the bound is read where it stands, and `unbeaten` decides for a record up to the limit.
use mathlib.Core.Path.{◌∙◌}
use native.Mathlib.Omega.{arith}
use borrow.Author.Tests.{lt-leb}
use lib.ListN.{get_or}
use Rattle.stops.specs.Code.{empty_record}
use Rattle.records.specs.Code.{records, slots}
use Rattle.replacement.proofs.FitLaws.{stays_not, stays_else}
use Rattle.replacement.proofs.fits.stays.Goals as goal

pub returns-else-bound_at-change : goal.returns-else-bound_at-change
returns-else-bound_at-change c =
    let a = c.args in
    lt-leb c.bound_at.result a.change.limit (omega arith)
    ∙ stays_not a.change.limit (slots a.change.taking (records a.kids.now)) (get_or (records a.w.now) a.i empty_record) (omega arith)

pub returns-then-bound_at-change : goal.returns-then-bound_at-change
returns-then-bound_at-change c =
    let a = c.args in
    c.unbeaten.ensures
    ∙ stays_else a.change.limit (slots a.change.taking (records a.kids.now)) (get_or (records a.w.now) a.i empty_record) (omega arith)
