-- `stops::sets::without` meets its contract: a stop of a set is one of a day, and its power of two is at most the set.
use native.Mathlib.Omega.{arith}
use Rattle.stops.proofs.SetBits.{stops_in_range, stops_in-without}
use Rattle.stops.proofs.sets.without.Goals as goal

pub overflow_sub-result : goal.overflow_sub-result
overflow_sub-result c = omega (arith, stops_in_range c.args.set c.requires.0 c.args.stop c.requires.1)

pub overflow_shl-result : goal.overflow_shl-result
overflow_shl-result c = omega (arith, stops_in_range c.args.set c.requires.0 c.args.stop c.requires.1)

pub overflow_sub-result-2 : goal.overflow_sub-result-2
overflow_sub-result-2 c = omega (arith, (stops_in-without c.args.set c.requires.0 c.args.stop c.requires.1).0)

pub returns : goal.returns
returns c = omega (arith, (stops_in-without c.args.set c.requires.0 c.args.stop c.requires.1).0)
