-- `read` meets its contract: inside, what stands at i is record i, and past the end record i is zeros (`Indices`).
use Rattle.stops.specs.Code.{empty_record}
use Rattle.node_answers.specs.Answers.{no_record}
use Rattle.node_records.proofs.Indices.{found_inside, found_outside}
use Rattle.node_records.proofs.read.Goals as goal

pub returns-in-Some : goal.returns-in-Some
returns-in-Some c =
    let (inside, is) = c.in-Some.ensures.lookup.3 in
    rw (is no_record) (found_inside c.args.pool.now c.args.i inside)

pub returns-in-None : goal.returns-in-None
unfolding empty_record
returns-in-None c =
    rw c.empty.ensures (found_outside c.args.pool.now c.args.i c.in-None.ensures.lookup.3)
