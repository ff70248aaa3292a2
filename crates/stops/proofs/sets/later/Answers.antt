-- `stops::sets::later` meets its contract: of the digits of a set and of the number before it, those above the lowest that is set agree,
-- and that one is the first stop's.
use mathlib.Core.Path.{◌∙◌, ap}
use Prim.Native.Nat.{ℕ, ◌-◌, ◌^◌}
use Rattle.stops.proofs.SetAnd.{stops_in-later}
use Rattle.stops.proofs.SetLoops.{first_only}
use Rattle.stops.proofs.sets.later.Goals as goal

pub returns : goal.returns
returns c s o =
    let set = c.args.set in
    stops_in-later set c.requires.1 c.requires.0 ∙ ap (λ (k : ℕ). set - 2 ^ k) (first_only set c.requires.0 c.requires.1 s o)
