-- The lower bounds of a call that every check lets pass: they never fall, are exact at complete nodes, and close is never below plain.
use mathlib.Core.Path.{ap, sym}
use native.Mathlib.Omega.{arith}
use Rattle.days.specs.Days.{Day, problem, choices}
use Rattle.days.proofs.Walk.{bound_grows, walk_closer}
use Rattle.answer.specs.Answer.{problem_of, choices_of}
use Rattle.answer.specs.Document01.{BoundNeverFalls, BoundExact, CloseNotBelowPlain}
use Rattle.answer.proofs.Passes.{passes}
use Rattle.answer.proofs.Instance.{one_day, closer_ends, call_walk, bound_laws}

pub bound_never_falls : BoundNeverFalls
unfolding choices_of choices
bound_never_falls c e x y m = bound_grows (call_walk c) c.job.bound (passes c e).bound x y m

pub bound_is_cost : BoundExact
unfolding problem_of problem
bound_is_cost c e x whole = (bound_laws c (passes c e)).exact x whole

pub close_not_below_plain : CloseNotBelowPlain
unfolding choices_of choices
close_not_below_plain a b one h e x =
    omega (
      arith,
      ap (λ (D : Day). D.bound a.job.bound x) (one_day a b one (sym (closer_ends b.job.bound a.job.bound h))),
      walk_closer (call_walk b) b.job.bound a.job.bound h (passes b e).bound x,
    )
