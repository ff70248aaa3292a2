-- The goals of `settle::turn` that the search leaves.
use mathlib.Core.Path.{◌≡◌, sym, ap, ◌∙◌}
use Prim.Native.Nat.{◌+◌, ◌-◌}
use native.Mathlib.Omega.{arith}
use lib.ListN.{length, length-set}
use Rattle.stops.specs.Code.{empty_record}
use Rattle.records.specs.Code.{records}
use Rattle.records.proofs.ViewLaws.{same-records}
use Rattle.pool.proofs.SettleLaws.{turn_again, turn_ends}
use Rattle.pool.proofs.settle.turn.Goals as goal
use Rattle.pool.proofs.settle.turn.Goals.{At-loop-k}

-- there are as many records as before
long : (c : At-loop-k) → length (records c.loop-k.w) ≡ length (records c.args.w.now)
long c = same-records c.args.w.now c.loop-k.w (omega arith)

pub load-y-requires : goal.load-y-requires
load-y-requires c = omega (arith, long (goal.at.load-y-requires c).At-loop-k)

pub store-requires : goal.store-requires
store-requires c = omega (arith, long (goal.at.store-requires c).At-loop-k)

pub store-requires-in-loop-k : goal.store-requires-in-loop-k
store-requires-in-loop-k c =
    omega (arith, long (goal.at.store-requires-in-loop-k c).At-loop-k, simp length-set at (ap length c.store.ensures))

pub loop-k-preserved : goal.loop-k-preserved
loop-k-preserved c =
    let a = c.args in
    let k = c.loop-k.k in
    turn_again (a.from + k) (a.to - k) (a.to - 1 - k) _ _ (records c.loop-k.w) _ _ empty_record _ _ (omega arith) (omega arith) (omega arith)
    (omega arith) (omega (arith, long (goal.at.loop-k-preserved c).At-loop-k)) c.load-x.ensures c.load-y.ensures c.store.ensures
    c.store-in-loop-k.ensures
    ∙ c.loop-k.invariant

pub returns : goal.returns
returns c =
    let a = c.args in
    let k = c.loop-k.k in
    let inside = long (goal.at.returns c).At-loop-k in
    sym (turn_ends (a.from + k) (a.to - k) (records c.loop-k.w) (omega arith) (omega arith) (omega arith)) ∙ c.loop-k.invariant
