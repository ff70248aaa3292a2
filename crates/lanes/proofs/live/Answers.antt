-- `live` meets its contract: the bound is read where it stands.
use Rattle.lanes.specs.Code.{is_live}
use Rattle.lanes.proofs.live.Goals as goal

pub returns : goal.returns
unfolding is_live
returns c = rw c.bound_at.ensures
