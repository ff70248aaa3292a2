-- The goals of `settle::clear` that the search leaves.
use mathlib.Core.Path.{◌≡◌, sym, ◌∙◌}
use native.Mathlib.Omega.{arith}
use lib.ListN.{length, set}
use Rattle.stops.specs.Code.{empty_record}
use Rattle.records.specs.Code.{records}
use Rattle.records.proofs.ViewLaws.{same-records}
use Rattle.pool.proofs.SettleLaws.{clear_again, clear_ends}
use Rattle.pool.proofs.settle.clear.Goals as goal
use Rattle.pool.proofs.settle.clear.Goals.{At-loop-k}

-- there are as many records as before
long : (c : At-loop-k) → length (records c.loop-k.w) ≡ length (records c.args.w.now)
long c = same-records c.args.w.now c.loop-k.w (omega arith)

pub store-requires : goal.store-requires
store-requires c = omega (arith, long (goal.at.store-requires c).At-loop-k)

pub loop-k-preserved : goal.loop-k-preserved
loop-k-preserved c =
    let s = c.loop-k in
    let stored : records c.store.new.w ≡ set (records s.w) s.k empty_record = cc in
    clear_again _ _ (records s.w) _ empty_record (omega arith) (omega (arith, long (goal.at.loop-k-preserved c).At-loop-k)) stored ∙ s.invariant

pub returns : goal.returns
returns c =
    let s = c.loop-k in
    sym (clear_ends _ s.k (records s.w) empty_record (omega arith) (omega (arith, long (goal.at.returns c).At-loop-k))) ∙ s.invariant
