-- `stops::bound::ahead` meets its contract: with no stop left it is the leg home, else the remainder for close and nothing for plain.
use mathlib.Core.Path.{sym, ◌∙◌}
use native.Mathlib.Omega.{arith}
use Rattle.stops.specs.Legs.{legs}
use Rattle.stops.specs.Code.{reckoning, reckon_on}
use Rattle.stops.proofs.SetLoops.{ahead_none, ahead-plain, ahead-close}
use Rattle.stops.proofs.bound.ahead.Goals as goal

pub returns-then-rest-eq0 : goal.returns-then-rest-eq0
unfolding reckon_on reckoning legs
returns-then-rest-eq0 c =
    let a = c.args in
    c.leg.ensures ∙ ahead_none a.bound (legs a.t.now) a.place a.rest (omega arith)

pub returns-then-is_close : goal.returns-then-is_close
unfolding reckon_on reckoning
returns-then-is_close c =
    let a = c.args in
    c.remainder.ensures
    ∙ ahead-close (legs a.t.now) a.place a.rest (omega arith) c.requires.1.0 a.bound
    (sym c.is_close.ensures ∙ c.if-is_close.true)

pub returns : goal.returns
unfolding reckon_on reckoning
returns c =
    let a = c.args in
    ahead-plain (legs a.t.now) a.place a.rest (omega arith) c.requires.1.0 a.bound
    (sym c.is_close.ensures ∙ c.if-is_close.false)
