-- `stops::sets::count` meets its contract: the digits that are set are as many as the stops, which are few.
use native.Mathlib.Omega.{arith}
use Rattle.stops.proofs.SetBits.{stops_in-ones, stops_in_few}
use Rattle.stops.proofs.sets.count.Goals as goal

pub overflow_cast-result : goal.overflow_cast-result
overflow_cast-result c = omega (arith, stops_in-ones c.args.set c.requires, stops_in_few c.args.set c.requires)

pub returns : goal.returns
returns c = stops_in-ones c.args.set c.requires
