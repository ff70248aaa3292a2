-- Refusals as the code hands them on.
--   numbered     a refusal has a number, and 0 is none
--   passed_on    what `?` hands on is the refusal that it found
use mathlib.Core.Path.{◌≡◌, ap}
use mathlib.Core.Logic.{◌≢◌}
use native.Mathlib.Omega.{arith}
use Rattle.std.specs.Prelude.{Result, Ok, Err}
use Rattle.std.specs.Result.{IsErrAnd}
use Rattle.answer.specs.Refusals.{number, number_in}
use Rattle.answer.specs.declared.refusal.Refusal.{Refusal}

pub numbered : (e : Refusal) → number e ≢ 0
numbered e = grind arith

pub passed_on : {A : Type 0} (r : Result A Refusal) (e : Refusal) → IsErrAnd r (λ x. x ≡ e) → number_in r ≡ number e
passed_on (Ok a) e h = absurd h
passed_on (Err x) e h = ap number h
