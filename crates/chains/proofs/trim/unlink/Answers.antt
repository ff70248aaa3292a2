-- `unlink` meets its contract: in a lane that is linked the head of the record's bucket becomes its link.
use Prim.Native.Nat.{◌+◌, ◌≤◌}
use native.Mathlib.Omega.{arith}
use lib.ListN.{length}
use Rattle.lanes.specs.Sizes.{heads}
use Rattle.chains.proofs.trim.unlink.Goals as goal
use Rattle.chains.proofs.trim.unlink.Goals.{Then-p}

-- the index has the lane's heads
room : (c : Then-p) → let a = c.args in a.p.heads + heads ≤ length a.index.now
room c = c.requires.1 (rw c.if-p.true tt)

pub returns-then-p : goal.returns-then-p
returns-then-p c =
    rw (c.if-p.true, c.size_at.ensures, c.bucket.ensures.0, c.sized_at.ensures)

pub overflow_add-h : goal.overflow_add-h
overflow_add-h c = let r = room (goal.at.overflow_add-h c).Then-p in omega (arith, c.bucket.ensures.1)

pub offset_bounds-index-h : goal.offset_bounds-index-h
offset_bounds-index-h c = let r = room (goal.at.offset_bounds-index-h c).Then-p in omega (arith, c.bucket.ensures.1)

pub bounds-index-h : goal.bounds-index-h
bounds-index-h c = let r = room (goal.at.bounds-index-h c).Then-p in omega (arith, c.bucket.ensures.1)

pub returns-else-p : goal.returns-else-p
returns-else-p c = rw c.if-p.false
