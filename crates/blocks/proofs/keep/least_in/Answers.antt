-- The goals of `keep::least_in` that the search leaves.
use mathlib.Core.Path.{ap, ◌∙◌}
use Prim.Native.Nat.{ℕ, ◌≤◌, ◌<◌, min}
use native.Mathlib.Omega.{arith}
use Rattle.records.specs.Code.{records}
use Rattle.blocks.specs.Code.{bound_at}
use Rattle.blocks.proofs.BlockLaws.{least-none, least-from}
use Rattle.blocks.proofs.keep.least_in.Goals as goal

pub loop-i-init : goal.loop-i-init
loop-i-init c =
    let a = c.args in
    least-none (λ (j : ℕ). (a.from ≤ j) × (j < a.from)) (bound_at (records a.w.now)) (λ j h. omega (arith, h.0, h.1))

pub loop-i-preserved : goal.loop-i-preserved
loop-i-preserved c =
    let s = c.loop-i in
    let a = c.args in
    let f = bound_at (records a.w.now) in
    least-from f a.from s.i s.least _ (omega arith) (c.min-least.ensures ∙ ap (min _) c.bound_at.ensures) s.invariant
