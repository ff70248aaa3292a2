-- The goals of `join::relink` that the search leaves.
use mathlib.Core.Path.{◌≡◌}
use mathlib.Core.Bool.{true}
use native.Mathlib.Omega.{arith}
use borrow.Author.Tests.{not-false}
use lib.Dec.{T}
use Rattle.records.specs.Code.{records}
use Rattle.chains.proofs.RelinkLaws.{relinking_starts, relinking_again}
use Rattle.chains.proofs.join.relink.Goals as goal
use Rattle.chains.proofs.join.relink.Goals.{Else-not-p}

on : (c : Else-not-p) → T c.args.p.linked
on c = let e : c.args.p.linked ≡ true = not-false _ c.if-not-p.false in rw e tt

pub loop-k-init : goal.loop-k-init
loop-k-init c =
    let clear = c.clear in
    let fits = (c.requires.1 (on (goal.at.loop-k-init c).Else-not-p)).1 in
    relinking_starts (records c.args.w.now) c.args.p clear.new.index (omega (arith, clear.ensures.1.same_length)) clear.ensures.0

pub loop-k-preserved : goal.loop-k-preserved
loop-k-preserved c =
    relinking_again c.loop-k.invariant (on (goal.at.loop-k-preserved c).Else-not-p) c.requires.0 c.loop-k-test.true c.place-i.ensures c.sized_at-x.ensures
    c.joined.ensures.0 c.store.ensures c.joined.ensures.1
