-- `turn_at` meets its contract: each of its four answers is what comes next of the state (`TurnLaws`).
use native.Mathlib.Omega.{arith}
use Rattle.planner.specs.Code.{records_of}
use Rattle.planner.proofs.TurnLaws.{turn_finishes, turn_stops, turn_ready, turn_full, turn_goes}
use Rattle.planner.proofs.run.turn_at.Goals as goal

pub returns-then-finishes : goal.returns-then-finishes
returns-then-finishes c first s running =
    turn_finishes running c.requires.0.0 c.sized_at-b.ensures c.finishes.ensures c.if-finishes.true

pub returns-then-setting-r : goal.returns-then-setting-r
returns-then-setting-r c first s running =
    turn_stops running c.requires.0.0 c.sized_at-b.ensures c.finishes.ensures c.if-finishes.false
    (omega (arith, c.if-setting-r.true))

pub step-requires : goal.step-requires
step-requires c =
    let p = c.requires.0 in
    (turn_ready p.1.2 p.0 c.sized_at-b.ensures c.finishes.ensures c.if-finishes.false, c.requires.1)

pub returns-in-None : goal.returns-in-None
returns-in-None c first s running =
    turn_full running c.requires.0.0 c.sized_at-b.ensures c.finishes.ensures c.if-finishes.false
    (omega (arith, c.if-setting-r.false))
    (c.in-None.ensures (records_of _ _ s) running.shows)

pub returns-in-Some : goal.returns-in-Some
returns-in-Some c first s running =
    turn_goes running c.requires.0.0 c.sized_at-b.ensures c.finishes.ensures c.if-finishes.false
    (omega (arith, c.if-setting-r.false))
    (c.in-Some.ensures (records_of _ _ s) running.shows)
