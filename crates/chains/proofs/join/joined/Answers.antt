-- `joined` meets its contract: in a lane that is linked the head of the record's bucket becomes its link, and its number the head.
use mathlib.Core.Path.{◌≡◌}
use mathlib.Core.Bool.{true, false}
use Prim.Native.Nat.{◌+◌, ◌<◌, ◌≤◌, ◌^◌}
use native.Mathlib.Omega.{arith}
use borrow.Author.Tests.{not-true, not-false}
use lib.ListN.{length}
use Rattle.lanes.specs.Sizes.{heads}
use Rattle.chains.specs.Code.{linked_to, joined_of, index_with}
use Rattle.chains.proofs.join.joined.Goals as goal
use Rattle.chains.proofs.join.joined.Goals.{Else-not-p}

pub returns-then-not-p : goal.returns-then-not-p
unfolding joined_of index_with
returns-then-not-p c =
    let loose : c.args.p.linked ≡ false = not-true _ c.if-not-p.true in
    (rw loose, rw loose)

linked : (c : Else-not-p) → c.args.p.linked ≡ true
linked c = not-false _ c.if-not-p.false

-- the number fits a word, and the index has the lane's heads
room :
    (c : Else-not-p) → let a = c.args in (a.c < 2 ^ 32) × (a.p.heads + heads ≤ length a.index.now)
room c = c.requires (rw (linked c) tt)

pub returns : goal.returns
unfolding joined_of index_with linked_to
returns c =
    let on = linked (goal.at.returns c).Else-not-p in
    (rw (on, c.bucket.ensures.0), rw (on, c.bucket.ensures.0))

pub overflow_add-h : goal.overflow_add-h
overflow_add-h c = let r = room (goal.at.overflow_add-h c).Else-not-p in omega (arith, c.bucket.ensures.1)

pub offset_bounds-index-h : goal.offset_bounds-index-h
offset_bounds-index-h c = let r = room (goal.at.offset_bounds-index-h c).Else-not-p in omega (arith, c.bucket.ensures.1)

pub bounds-index-h : goal.bounds-index-h
bounds-index-h c = let r = room (goal.at.bounds-index-h c).Else-not-p in omega (arith, c.bucket.ensures.1)

pub overflow_cast-index : goal.overflow_cast-index
overflow_cast-index c = let r = room (goal.at.overflow_cast-index c).Else-not-p in omega arith

pub offset_bounds-index-h-2 : goal.offset_bounds-index-h-2
offset_bounds-index-h-2 c = let r = room (goal.at.offset_bounds-index-h-2 c).Else-not-p in omega (arith, c.bucket.ensures.1)

pub bounds-index-h-2 : goal.bounds-index-h-2
bounds-index-h-2 c = let r = room (goal.at.bounds-index-h-2 c).Else-not-p in omega (arith, c.bucket.ensures.1)
