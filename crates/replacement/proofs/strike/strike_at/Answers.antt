-- `strike_at` meets its contract: a record that is gone, or that the child does not dominate, stays as it is.
use mathlib.Core.Path.{sym, ◌∙◌}
use lib.ListN.{get_or}
use Rattle.stops.specs.Code.{empty_record, rec_dominates}
use Rattle.records.specs.Code.{records}
use Rattle.replacement.proofs.StrikeLaws.{stays_gone, stays_spared, leaves}
use Rattle.replacement.proofs.strike.strike_at.Goals as goal

pub returns-then-not-live : goal.returns-then-not-live
returns-then-not-live c =
    let a = c.args in
    (c.requires.0.0, stays_gone _ (records a.w.now) a.i (sym c.live.ensures ∙ c.if-not-live.true))

pub returns-then-not-beaten : goal.returns-then-not-beaten
returns-then-not-beaten c =
    let a = c.args in
    let kid = get_or (records a.kids.now) a.k empty_record in (
      c.requires.0.0,
      stays_spared (rec_dominates kid) (records a.w.now) a.i (sym c.beaten.ensures ∙ c.if-not-beaten.true),
    )

pub returns : goal.returns
returns c =
    let a = c.args in
    let kid = get_or (records a.kids.now) a.k empty_record in (
      c.leave.ensures.1,
      leaves (rec_dominates kid) (records a.w.now) a.i _ (sym c.live.ensures ∙ c.if-not-live.false)
          (sym c.beaten.ensures ∙ c.if-not-beaten.false) c.leave.ensures.0,
    )
