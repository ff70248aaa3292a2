-- `stops::sets::next` meets its contract: a set that is not empty has fewer trailing zeros than a day may have stops, and the stop above
-- them is its first. (What is said of leading zeros serves the wrong version that counts from the top, which is refused at `returns`.)
use mathlib.Core.Path.{refl}
use native.Mathlib.Omega.{arith}
use lib.Count.{leading_le}
use Rattle.stops.proofs.SetBits.{stops_in-next}
use Rattle.stops.proofs.SetLoops.{first_out}
use Rattle.stops.proofs.sets.next.Goals as goal

pub returns : goal.returns
returns c = first_out c.args.set c.requires.0 c.requires.1 _ refl

pub overflow_add-result : goal.overflow_add-result
overflow_add-result c = omega (arith, (stops_in-next c.args.set c.requires.1 c.requires.0).0, leading_le 32 c.args.set)
