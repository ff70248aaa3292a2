-- `stops::sets::with` meets its contract: the word has room for a stop of a day.
use Prim.Native.Nat.{◌-◌, ◌^◌, ◌≤◌}
use native.Mathlib.Omega.{arith}
use lib.Pow.{pow_mono}
use Rattle.sizes.specs.Sizes.{most_stops}
use Rattle.stops.proofs.sets.with.Goals as goal
use Rattle.stops.proofs.sets.with.Goals.{Start}

room : (c : Start) → 2 ^ (c.args.stop - 1) ≤ 2 ^ most_stops
room c = pow_mono {i = c.args.stop - 1} {j = most_stops} (omega arith)

pub overflow_add-result : goal.overflow_add-result
overflow_add-result c = omega (arith, room c)

pub returns : goal.returns
returns c = omega (arith, room c)
