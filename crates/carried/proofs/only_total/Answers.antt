-- `carried::only_total` meets its contract.
use mathlib.Core.Path.{refl}
use Rattle.carried.specs.Code.{family_of}
use Rattle.carried.proofs.only_total.Goals as goal

pub returns : goal.returns
unfolding family_of
returns c = refl
