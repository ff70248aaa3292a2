-- `planned` meets its contract: a call with a cause is told of by its number, and the pool stays as it was; a call without one answers as its run ends.
use Rattle.answer.specs.Call.{Call, call_of}
use Rattle.planner.proofs.CauseLaws.{refused_told, run_told}
use Rattle.planner.proofs.planned.Goals as goal
use Rattle.planner.proofs.planned.Goals.{Start}

abbrev call : Start → Call
call c = let a = c.args in call_of a.job a.table.now a.start.now a.pairs.now a.budget a.pool.now

pub returns-in_err-checked : goal.returns-in_err-checked
unfolding call_of
returns-in_err-checked c =
    refused_told (call (goal.at.returns-in_err-checked c).Start) c.from_residual.result _ c.from_residual.ensures.1 (c.in_err-checked.ensures _)

pub returns : goal.returns
returns c = run_told (call (goal.at.returns c).Start) c.search.result (c.in_ok-checked.ensures _) c.search.ensures
