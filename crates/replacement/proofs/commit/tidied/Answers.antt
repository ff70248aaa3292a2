-- `tidied` meets its contract: where squeezing is not due, no node is above the limit and there is room.
use native.Mathlib.Omega.{arith}
use Rattle.records.specs.Code.{records}
use Rattle.records.proofs.ViewLaws.{length-records}
use Rattle.lanes.proofs.LiveLaws.{live_few}
use Rattle.replacement.proofs.TidyLaws.{tidy_kept}
use Rattle.replacement.proofs.commit.tidied.Goals as goal

pub due-requires : goal.due-requires
due-requires c =
    let a = c.args in
    let laid = c.requires.0.0 in (
      omega (arith, c.requires.0.1, live_few (records a.w.now) a.p.used),
      (laid.fits, (omega (arith, laid.whole, length-records a.w.now, c.requires.1.1.1.1), c.requires.1.1.0)),
    )

pub returns : goal.returns
returns c =
    let a = c.args in
    let h = c.requires in
    let no = c.due.ensures c.if-due.false in (
      tidy_kept (records a.w.now) a.p a.index.now a.change.limit h.0.0 h.0.1 (h.1.1.1.0 no.0),
      no.1,
    )
