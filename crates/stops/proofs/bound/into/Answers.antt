-- `stops::bound::into` meets its contract: the leg from the place where there is no other stop, else the lesser of it and of the cheapest of the
-- others.
use mathlib.Core.Path.{ap₂, ◌∙◌}
use Prim.Native.Nat.{min}
use native.Mathlib.Omega.{arith}
use Rattle.stops.specs.Legs.{row_leg}
use Rattle.stops.proofs.SetLoops.{least_alone, least_beside}
use Rattle.stops.proofs.bound.into.Goals as goal

pub returns-then-others-eq0 : goal.returns-then-others-eq0
returns-then-others-eq0 c =
    let a = c.args in
    c.leg-from_place.ensures ∙ least_alone (λ p. row_leg a.t.now p a.s) a.place a.others (omega arith)

pub returns : goal.returns
returns c =
    let a = c.args in
    c.min.ensures ∙ ap₂ min c.leg-from_place.ensures c.cheapest.ensures
    ∙ least_beside (λ p. row_leg a.t.now p a.s) a.place a.others (omega arith) c.requires.1.0
