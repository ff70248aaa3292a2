-- The goals of `lines::put_stops` that the search leaves.
use mathlib.Core.Path.{sym}
use mathlib.Core.List.{append-nil, append_assoc}
use native.Mathlib.Omega.{arith}
use Rattle.report_format.specs.Text.{spaced}
use Rattle.printing.proofs.DraftLaws.{spaced-next}
use Rattle.printing.proofs.lines.put_stops.Goals as goal

pub loop-s-init : goal.loop-s-init
unfolding spaced
loop-s-init c = (sym (append-nil _), omega arith)

pub loop-s-preserved : goal.loop-s-preserved
loop-s-preserved c =
    let at = c.loop-s in
    let next = spaced-next c.args.stops.now at.s-index (omega arith) in
    (rw (c.put_decimal.ensures.0, at.invariant.0, c.from.ensures, next) (append_assoc c.args.draft.now _ _), omega arith)
