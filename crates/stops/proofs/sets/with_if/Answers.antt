-- `stops::sets::with_if` meets its contract: the word has room for a stop of a day.
use mathlib.Core.Path.{◌≡◌}
use mathlib.Core.Bool.{Bool, true, false, cond}
use Prim.Native.Nat.{ℕ, ◌+◌, ◌-◌, ◌*◌, ◌^◌, ◌%◌, ◌≤◌}
use native.Mathlib.Omega.{arith}
use mir.Val.{bool_byte}
use lib.Pow.{pow_mono}
use Rattle.sizes.specs.Sizes.{most_stops}
use Rattle.stops.proofs.sets.with_if.Goals as goal
use Rattle.stops.proofs.sets.with_if.Goals.{Start}

-- the word with the stop's bit where the test holds, and the set's word where not
added : (b : Bool) (x p : ℕ) → p ≤ 2 ^ most_stops → x + bool_byte b * p % 4294967296 ≡ cond b (x + p) x
added true x p h = omega (arith, h)
added false x p h = omega arith

small : (b : Bool) (x p : ℕ) → cond b (x + p) x ≤ x + p
small true x p = omega arith
small false x p = omega arith

room : (c : Start) → 2 ^ (c.args.stop - 1) ≤ 2 ^ most_stops
room c = pow_mono {i = c.args.stop - 1} {j = most_stops} (omega arith)

pub returns : goal.returns
returns c = added c.args.test c.args.set (2 ^ (c.args.stop - 1)) (room c)

pub overflow_add-result : goal.overflow_add-result
overflow_add-result c =
    record { fits = omega (arith, room c, returns c, small c.args.test c.args.set (2 ^ (c.args.stop - 1))) }
