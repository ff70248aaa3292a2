-- The goals of `ready` that the search leaves.
use mathlib.Core.Path.{sym}
use Rattle.orders.proofs.Pairs.{ready-none}
use Rattle.pairs.proofs.PairLaws.{paired, unpaired, waits_some, waits-none}
use Rattle.pairs.proofs.LoopLaws.{readying_starts, readying_keeps, readying_passes, readying_ends}
use Rattle.pairs.proofs.ready.Goals as goal

pub returns-in_default : goal.returns-in_default
returns-in_default c = record { small = c.requires; stops = rw (unpaired c.args.precedence c.in_default.is) (sym (ready-none _)) }

pub loop-s-init : goal.loop-s-init
loop-s-init c =
    rw (c.into_iter-s-iterator.ensures.into_iter_gives, c.stops_of-s-items.ensures) (readying_starts _ _ c.requires)

pub loop-s-preserved-then-before-s-eq0 : goal.loop-s-preserved-then-before-s-eq0
loop-s-preserved-then-before-s-eq0 c =
    let (o, left) = c.in-Some-s.ensures.steps in
    readying_keeps c.loop-s.invariant o (waits-none _ _ c.requires _ o.some o.few c.if-before-s-eq0.true) c.with-found.ensures left

pub loop-s-preserved : goal.loop-s-preserved
loop-s-preserved c =
    let (o, left) = c.in-Some-s.ensures.steps in
    readying_passes c.loop-s.invariant o (waits_some _ _ c.requires _ o.some o.few c.if-before-s-eq0.false) left

pub returns : goal.returns
returns c =
    let l = c.loop-s.invariant in
    record { small = l.found_small; stops = rw (paired c.args.precedence c.in-Some.is) (readying_ends l c.in-None.ensures.steps) }
