-- What a call answers whose cause is known.
use mathlib.Core.Path.{◌≡◌, refl}
use mathlib.Core.List.{List}
use mathlib.Core.Logic.{◌≢◌}
use Prim.Native.Nat.{ℕ, zero, suc}
use Rattle.std.specs.Prelude.{Result, Ok, Err}
use Rattle.std.specs.Result.{IsOkAnd, IsErrAnd}
use Rattle.answer.specs.Call.{Call, Answer, refusal}
use Rattle.answer.specs.declared.Report.{Report}
use Rattle.answer.specs.declared.refusal.Refusal.{Refusal}
use Rattle.answer.specs.Refusals.{number}
use Rattle.answer.specs.Checks.{cause}
use Rattle.answer.specs.Answer.{respond, answer}
use Rattle.checks.proofs.RefusalLaws.{numbered}
use Rattle.planner.specs.Promise.{Promised}
use Rattle.planner.specs.Code.{Ended, report_in}

module _ (c : Call) where
  -- a call with a cause is refused by its number, and the pool stays
  pub refused_told : (r : Result Report Refusal) (e : Refusal) → IsErrAnd r (λ x. x ≡ e) → number e ≡ cause c → Promised c (report_in r) c.pool
  unfolding answer respond
  refused_told (Ok q) e h f = absurd h
  refused_told (Err x) e h f = rw (h, ← f) (go (number e) (numbered e))
    where
      go : (k : ℕ) → k ≢ 0 → ◌≡◌ {A = Answer} (record { report = refusal k; pool = c.pool }) (respond c k)
      go zero h = absurd (h refl)
      go (suc k) h = refl

  -- a call without one answers as its run ends
  pub run_told : (r : Result Report Refusal) {pool : List ℕ} → 0 ≡ cause c → IsOkAnd r (λ q. Ended c q pool) → Promised c (report_in r) pool
  unfolding answer respond
  run_told (Ok q) z same = rw (← z) same
  run_told (Err e) z h = absurd h
