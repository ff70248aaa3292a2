-- `refused` meets its contract: each field is the one that `refusal` names.
use mathlib.Core.Path.{ap}
use Prim.Native.Nat.{ℕ}
use Rattle.answer.specs.Call.{refusal}
use Rattle.planner.proofs.report.refused.Goals as goal

pub returns : goal.returns
unfolding refusal
returns c = let h = c.into.ensures in ap (λ (k : ℕ). refusal k) h
