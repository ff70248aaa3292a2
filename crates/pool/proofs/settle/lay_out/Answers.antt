-- `pool::settle::settle` meets its contract: `turn`, `slide` and `clear` one after the other, joined by `settle_joins`. What `slide` and
-- `clear` require rests on turning and sliding keeping how many records there are.
use mathlib.Core.Path.{◌≡◌, ◌∙◌}
use Prim.Native.Nat.{◌-◌}
use native.Mathlib.Omega.{arith}
use lib.ListN.{length}
use Rattle.records.specs.Code.{records}
use Rattle.pool.proofs.SettleLaws.{length-turned, slide_end, settle_joins}
use Rattle.pool.proofs.settle.lay_out.Goals as goal
use Rattle.pool.proofs.settle.lay_out.Goals.{After-turn}

turned_long : (c : After-turn) → length (records c.turn.new.w) ≡ length (records c.args.w.now)
turned_long c =
    let a = c.args in
    rw c.turn.ensures (length-turned (a.capacity - a.far) a.capacity (records a.w.now) (omega arith))

pub clear-requires : goal.clear-requires
clear-requires c =
    let long = turned_long (goal.at.clear-requires c).After-turn in
    let slid = c.slide-end.ensures in
    omega (arith, long, slid.same_length, slide_end (records c.turn.new.w) _ _ _ _ _ (omega (arith, long)) slid)

pub returns : goal.returns
returns c =
    c.clear.ensures
    ∙ settle_joins _ _ _ _ (records c.args.w.now) _ _ c.requires.0 c.requires.1 c.turn.ensures
    c.slide-end.ensures

pub slide-end-requires : goal.slide-end-requires
slide-end-requires c = omega (arith, turned_long (goal.at.slide-end-requires c).After-turn)
