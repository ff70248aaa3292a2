-- `Record::empty` meets its contract.
use mathlib.Core.Path.{refl}
use Rattle.stops.specs.Code.{empty_record}
use Rattle.stops.proofs.node_record.Record.empty.Goals as goal

pub returns : goal.returns
unfolding empty_record
returns c = refl
