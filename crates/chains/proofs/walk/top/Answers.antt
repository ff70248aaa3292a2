-- `top` meets its contract: the head is read where it stands in the index.
use Prim.Native.Nat.{◌+◌, ◌<◌}
use native.Mathlib.Omega.{arith}
use lib.ListN.{length}
use Rattle.chains.proofs.walk.top.Goals as goal
use Rattle.chains.proofs.walk.top.Goals.{After-bucket}

-- a linked lane has its heads in the index
inside : (c : After-bucket) → c.args.p.heads + c.bucket.result < length c.args.index.now
inside c = let room = c.requires (rw c.if-p.true tt) in omega (arith, c.bucket.ensures.1)

pub overflow_cast-result : goal.overflow_cast-result
overflow_cast-result c = omega (arith, c.shared_slice_known-then-p-1.given (c.args.p.heads + c.bucket.result))

pub returns-then-p : goal.returns-then-p
returns-then-p c = rw (c.if-p.true, ← c.bucket.ensures.0)

pub overflow_add-result : goal.overflow_add-result
overflow_add-result c = omega (arith, inside (goal.at.overflow_add-result c).After-bucket)

pub offset_bounds-index-p : goal.offset_bounds-index-p
offset_bounds-index-p c = omega (arith, inside (goal.at.offset_bounds-index-p c).After-bucket)

pub bounds-index-p : goal.bounds-index-p
bounds-index-p c = inside (goal.at.bounds-index-p c).After-bucket
