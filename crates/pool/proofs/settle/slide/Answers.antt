-- The goals of `settle::slide` that the search leaves.
use mathlib.Core.Path.{refl}
use native.Mathlib.Omega.{arith}
use Rattle.records.specs.Code.{records, always}
use Rattle.records.proofs.SiftLaws.{sifted_passes, sifted_still}
use Rattle.pool.proofs.settle.slide.Goals as goal

pub returns-then-at-from : goal.returns-then-at-from
returns-then-at-from c =
    let a = c.args in
    rw c.if-at-from.true (sifted_still (records a.w.now) a.from a.to (omega arith) (omega arith))

pub loop-i-preserved : goal.loop-i-preserved
unfolding always
loop-i-preserved c =
    let before = c.loop-i.invariant.1 in
    let x = c.load-x.result in
    (omega arith, sifted_passes _ _ _ _ _ _ _ before (omega arith) (omega arith) (omega arith) x (cc) refl _ c.store.ensures)
