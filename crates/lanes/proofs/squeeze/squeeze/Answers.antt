-- The goals of `squeeze::squeeze` that the search leaves.
use native.Mathlib.Omega.{arith}
use Rattle.records.proofs.SiftLaws.{sifted_within}
use Rattle.lanes.proofs.SqueezeLaws.{sifted_kept}
use Rattle.lanes.proofs.squeeze.squeeze.Goals as goal

pub kept-next-requires : goal.kept-next-requires
kept-next-requires c =
    let sifted = c.loop-i.invariant in
    (sifted_within _ _ _ _ _ _ _ sifted (omega arith) (omega arith) (omega arith), omega (arith, sifted.same_length))

pub loop-i-preserved : goal.loop-i-preserved
loop-i-preserved c =
    let ensured = c.kept-next.ensures in
    sifted_kept _ _ _ _ _ c.loop-i.invariant (omega arith) _ _ ensured.0 ensured.1
