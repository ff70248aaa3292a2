-- What a call comes to, by its cause and by the outcome of its run.
--   Ran, Finished, Stopped, Filled    the outcome of a run; it is finished, stopped by the budget, or the pool is full
--   Came, call_came                   a check refuses the call, or one of these. No run is left `unfinished`: its fuel is never used up
--                                     (`outcome-ends`)
--   finishes_finished, number_7       the number and the mark of a report say which
--   cause_small         a cause of a call is one of 1 to 6, or 11
use mathlib.Core.Path.{◌≡◌, refl, ap, sym, ◌∙◌}
use mathlib.Core.Bool.{Bool, true, false}
use mathlib.Core.List.{List}
use mathlib.Core.Logic.{◌⊎◌, inl, inr}
use Prim.Native.Nat.{ℕ, zero, suc, ◌≤◌}
use native.Mathlib.Omega.{arith}
use Rattle.search.specs.Problem.{State}
use Rattle.search.specs.Run.{Outcome, finished, stopped, full, unfinished}
use Rattle.orders.specs.Orders.{Node}
use Rattle.answer.specs.Call.{Call, Answer, refusal}
use Rattle.answer.specs.Checks.{cause₁, cause₂, cause₃, no_such_bound, cause₄, cause₅, cause₁₁, against_pairs, cause₆, or_later, table_cause, first_cause, job_cause, pair_cause, pool_cause, cause}
use Rattle.answer.specs.Answer.{outcome, report_with, ending, respond, answer}
use Rattle.answer.specs.Ends.{Finishes}
use Rattle.answer.proofs.Instance.{outcome-ends}

-- no check refuses the call, and its run ends so
pub record Ran (c : Call) (how : State Node → Outcome Node) : Type 0 where
  pub state : State Node
  pub passed : cause c ≡ 0
  pub ran : outcome c ≡ how state
  pub answered : answer c ≡ ending c (how state)

abbrev pub Finished : Call → Type 0
Finished c = Ran c finished

abbrev pub Stopped : Call → Type 0
Stopped c = Ran c stopped

abbrev pub Filled : Call → Type 0
Filled c = Ran c full

pub data Came (c : Call) : Type 0 where
  checked : (k : ℕ) → cause c ≡ suc k → answer c ≡ record { report = refusal (cause c); pool = c.pool } → Came c
  spent : Stopped c → Came c
  overran : Filled c → Came c
  ended : Finished c → Came c

pub call_came : (c : Call) → Came c
unfolding answer respond
call_came c = go (cause c) refl
  where
    at : (how : State Node → Outcome Node) (s : State Node) → cause c ≡ 0 → outcome c ≡ how s → Ran c how
    at how s e h = record { state = s; passed = e; ran = h; answered = ap (respond c) e ∙ ap (ending c) h }

    ran : cause c ≡ 0 → (o : Outcome Node) → outcome c ≡ o → Came c
    ran e (finished s) h = ended (at finished s e h)
    ran e (stopped s) h = spent (at stopped s e h)
    ran e (full s) h = overran (at full s e h)
    ran e (unfinished s) h = absurd (outcome-ends c s h)

    go : (k : ℕ) → cause c ≡ k → Came c
    go zero e = ran e (outcome c) refl
    go (suc k) e = checked k e (ap (respond c) e ∙ ap (λ (m : ℕ). record { report = refusal m; pool = c.pool }) (sym e))

-- a cause of a table, a bound and pairs is one of 1 to 4, or 11, and of a call one of 1 to 6, or 11
or_later_lem : (b : Bool) (number later m : ℕ) → number ≤ m → (later ≤ m) ⊎ (later ≡ 11) → (or_later b number later ≤ m) ⊎ (or_later b number later ≡ 11)
or_later_lem true number later m h k = inl h
or_later_lem false number later m h k = k

or_eleven : (b : Bool) (later m : ℕ) → later ≤ m → (or_later b 11 later ≤ m) ⊎ (or_later b 11 later ≡ 11)
or_eleven true later m h = inr refl
or_eleven false later m h = inl h

pub first_cause_small : (n bound : ℕ) (table pairs : List ℕ) → (first_cause n bound table pairs ≤ 4) ⊎ (first_cause n bound table pairs ≡ 11)
unfolding table_cause first_cause
first_cause_small n bound table pairs =
    or_later_lem (cause₁ n) 1 _ 4 (omega arith)
    (or_later_lem (cause₂ n table) 2 _ 4 (omega arith)
    (or_later_lem (cause₃ n table) 3 _ 4 (omega arith)
    (or_later_lem (no_such_bound bound) 4 _ 4 (omega arith) (or_eleven (cause₁₁ n pairs) 0 4 (omega arith)))))

pub cause_small : (c : Call) → (cause c ≤ 6) ⊎ (cause c ≡ 11)
unfolding cause table_cause job_cause pair_cause pool_cause
cause_small c =
    let n : ℕ = c.job.n in
    or_later_lem (cause₁ n) 1 _ 6 (omega arith)
    (or_later_lem (cause₂ n c.table) 2 _ 6 (omega arith)
    (or_later_lem (cause₃ n c.table) 3 _ 6 (omega arith)
    (or_later_lem (cause₄ c.job) 4 _ 6 (omega arith)
    (or_later_lem (cause₅ n c.start) 5 _ 6 (omega arith)
    (or_later_lem (against_pairs n c.start c.pairs) 5 _ 6 (omega arith)
    (or_eleven (cause₁₁ n c.pairs) (or_later (cause₆ c.pool) 6 0) 6 (six (cause₆ c.pool))))))))
  where
    six : (b : Bool) → or_later b 6 0 ≤ 6
    six true = omega arith
    six false = omega arith

-- the number and the mark of the report
module _ (c : Call) where
  number_of : {a : Answer} (k : ℕ) → (answer c).report.number ≡ k → answer c ≡ a → a.report.number ≡ k
  number_of k h e = sym (ap (λ (x : Answer). x.report.number) e) ∙ h

  mark_of : {a : Answer} (k : ℕ) → (answer c).report.mark ≡ k → answer c ≡ a → a.report.mark ≡ k
  mark_of k h e = sym (ap (λ (x : Answer). x.report.mark) e) ∙ h

  pub finishes_finished : Finishes (answer c).report → Finished c
  unfolding refusal ending report_with
  finishes_finished (h, m) = go (call_came c)
    where
      go : Came c → Finished c
      go (checked k e q) = absurd (let z : cause c ≡ 0 = number_of 0 h q in omega arith)
      go (spent f) = absurd (let z : ◌≡◌ {A = ℕ} 1 0 = mark_of 0 m f.answered in omega arith)
      go (overran f) = absurd (let z : ◌≡◌ {A = ℕ} 7 0 = number_of 0 h f.answered in omega arith)
      go (ended f) = f

  pub number_7 : (answer c).report.number ≡ 7 → Filled c
  unfolding refusal ending report_with
  number_7 h = go (call_came c)
    where
      seven : cause c ≡ 7 → (cause c ≤ 6) ⊎ (cause c ≡ 11) → ⊥
      seven z (inl k) = omega arith
      seven z (inr k) = omega arith

      go : Came c → Filled c
      go (checked k e q) = absurd (seven (number_of 7 h q) (cause_small c))
      go (spent f) = absurd (let z : ◌≡◌ {A = ℕ} 0 7 = number_of 7 h f.answered in omega arith)
      go (overran f) = f
      go (ended f) = absurd (let z : ◌≡◌ {A = ℕ} 0 7 = number_of 7 h f.answered in omega arith)
