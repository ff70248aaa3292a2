-- The goals of `find::least` that the search leaves.
use Prim.Native.Nat.{◌≤◌, ◌<◌}
use native.Mathlib.Omega.{arith}
use lib.ListN.{length-take}
use lib.Seq.{get_or-take}
use Rattle.lanes.specs.Sizes.{blocks}
use Rattle.blocks.proofs.FindLaws.{least_to_more}
use Rattle.blocks.proofs.find.least.Goals as goal

pub loop-bound-preserved : goal.loop-bound-preserved
loop-bound-preserved c =
    let loop = c.loop-bound in
    let i = c.args.index.now in
    let few : c.blocks_of.result ≤ blocks = c.blocks_of.ensures.1 c.requires.1.0 in
    let here : loop.bound-index < c.blocks_of.result = omega (arith, length-take c.blocks_of.result i) in
    let inside : loop.bound-index < blocks = omega arith in
    λ recs b.
    least_to_more b loop.bound-index loop.low c.min-low.result inside (loop.invariant recs b)
    (rw (← get_or-take c.blocks_of.result i loop.bound-index 0 here) c.min-low.ensures)
