-- `open` meets its contract: what is up to the limit is open if its size is not n.
use lib.ListN.{get_or}
use Rattle.stops.specs.Code.{empty_record}
use Rattle.records.specs.Code.{records}
use Rattle.lanes.specs.Code.{sized}
use Rattle.selection.proofs.ChooseLaws.{low_open}
use Rattle.selection.proofs.open_nodes.open.Goals as goal

pub returns-then-bound_at-limit : goal.returns-then-bound_at-limit
unfolding sized
returns-then-bound_at-limit c =
    let a = c.args in
    let x = get_or (records a.w.now) a.i empty_record in
    rw (low_open a.n a.limit x (rw (← c.bound_at.ensures) c.if-bound_at-limit.true), c.set_at.ensures)
