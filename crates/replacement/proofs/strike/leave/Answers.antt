-- `leave` meets its contract: links and keys are as they were, and the minimum of the record's block is found anew where they are kept.
use Rattle.records.specs.Code.{records}
use Rattle.blocks.proofs.KeepLaws.{same_none}
use Rattle.replacement.proofs.StrikeLaws.{laid_marked}
use Rattle.replacement.proofs.strike.leave.Goals as goal

pub returns-then-p : goal.returns-then-p
returns-then-p c =
    let a = c.args in
    let found = c.kill.ensures in (
      found.0,
      laid_marked (records a.w.now) _ a.p a.index.now _ a.i c.requires.1 found.0 found.1.1
          (λ t. record { minima = found.1.0; reach = (c.requires.0.ranks t).reach }) c.requires.0,
    )

pub returns : goal.returns
returns c =
    let a = c.args in (
      c.mark.ensures,
      laid_marked (records a.w.now) _ a.p a.index.now _ a.i c.requires.1 c.mark.ensures (same_none a.index.now)
          (λ t. absurd (rw c.if-p.false at t)) c.requires.0,
    )
