-- The goals of `join::write` that the search leaves.
use Prim.Native.Nat.{◌<◌}
use native.Mathlib.Omega.{arith}
use lib.ListN.{length}
use Rattle.records.specs.Code.{records, slots}
use Rattle.chains.proofs.JoinLaws.{joining_room, joining_again, joining_ends}
use Rattle.chains.proofs.join.write.Goals as goal
use Rattle.chains.proofs.join.write.Goals.{In-Some}

-- one more child is among them all
room :
    (c : In-Some)
    → c.loop-s.k < length (slots c.args.alive (records c.args.kids.now))
room c = joining_room c.loop-s.invariant c.in-Some.ensures.steps.0

pub joined-requires : goal.joined-requires
joined-requires c t =
    let p = c.requires.1.1 t in
    (omega (arith, room (goal.at.joined-requires c).In-Some), omega arith)

pub store-requires : goal.store-requires
store-requires c =
    omega (arith, room (goal.at.store-requires c).In-Some, c.loop-s.invariant.long, c.requires.0.1)

pub overflow_add-k : goal.overflow_add-k
overflow_add-k c =
    omega (arith, room (goal.at.overflow_add-k c).In-Some, c.requires.1.0)

pub loop-s-preserved : goal.loop-s-preserved
loop-s-preserved c =
    joining_again c.loop-s.invariant c.in-Some.ensures.steps.0 c.requires.0.1 c.in-Some.ensures.steps.1
    c.slot.ensures c.load-x.ensures c.joined.ensures.0 c.store.ensures c.joined.ensures.1

pub returns : goal.returns
returns c = joining_ends c.loop-s.invariant c.in-None.ensures.steps

pub overflow_add-p-in-loop-s : goal.overflow_add-p-in-loop-s
overflow_add-p-in-loop-s c = omega (arith, room (goal.at.overflow_add-p-in-loop-s c).In-Some, c.requires.1.0)
