-- `carried::added` meets its contract: by whether s gave the cheapest leg home.
use mathlib.Core.Path.{refl}
use native.Mathlib.Omega.{arith}
use borrow.Author.Tests.{eq-eqb, ne_eqb}
use Rattle.carried.specs.Code.{home_of, ahead_of}
use Rattle.carried.proofs.added.Goals as goal

-- the call, seen from either branch
pub overflow_add-result : goal.overflow_add-result
unfolding ahead_of home_of
overflow_add-result c =
    let a = c.args in
    record { fits = rw (eq-eqb a.s a.family.homes.giver (omega arith)) at c.requires.1 }

pub returns-then-s-homes : goal.returns-then-s-homes
unfolding ahead_of home_of
returns-then-s-homes c = let a = c.args in rw (eq-eqb a.s a.family.homes.giver (omega arith)) refl

pub overflow_add-result-2 : goal.overflow_add-result-2
unfolding ahead_of home_of
overflow_add-result-2 c =
    let a = c.args in
    record { fits = rw (ne_eqb a.s a.family.homes.giver (λ e. omega arith)) at c.requires.1 }

pub returns : goal.returns
unfolding ahead_of home_of
returns c = let a = c.args in rw (ne_eqb a.s a.family.homes.giver (λ e. omega arith)) refl
