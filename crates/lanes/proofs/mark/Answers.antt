-- `mark` meets its contract: the record is loaded, and stored with another bound.
use Rattle.lanes.specs.Code.{marked}
use Rattle.lanes.proofs.mark.Goals as goal

pub returns : goal.returns
unfolding marked
returns c = rw (c.store.ensures, c.load-x.ensures)
