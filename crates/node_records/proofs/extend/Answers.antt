-- `extend` meets its contract: inside, the record that `extended_of` makes of the words of record i stands at i, and past the end the
-- records are as they were (`Indices`).
use Rattle.stops.specs.Code.{empty_record}
use Rattle.node_records.proofs.Indices.{extended_inside, extended_outside}
use Rattle.node_records.proofs.extend.Goals as goal

pub returns-then-i-pool : goal.returns-then-i-pool
returns-then-i-pool c =
    let a = c.args in
    extended_inside a.pool.now a.i a.stop a.leg c.extended_of-r.result c.if-i-pool.true c.extended_of-r.ensures

pub returns : goal.returns
unfolding empty_record
returns c = rw c.empty.ensures (extended_outside c.args.pool.now c.args.i c.args.stop c.args.leg c.if-i-pool.false)
