-- Causes 1 to 5 and the cause of a call.
--   First, table_causes, job-first    a cause from 1 to 3, or to 5, stands whatever comes later; where there is none, what comes later is the
--                                     answer
--   job_refuses         a call with one of causes 1 to 5 has that cause, whatever its pairs and its pool
--   pair_refuses        a call with none of them whose pairs have a cause has that cause, whatever its pool
--   call_passes         a call with neither has cause 6 or no cause
use mathlib.Core.Path.{◌≡◌, refl, sym, ◌∙◌}
use mathlib.Core.Bool.{Bool, true, false}
use mathlib.Core.List.{List}
use mathlib.Core.Logic.{◌≢◌}
use Prim.Native.Nat.{ℕ, suc}
use native.Mathlib.Omega.{arith}
use Rattle.answer.specs.Call.{call_of}
use Rattle.answer.specs.declared.Job.{Job}
use Rattle.answer.specs.Checks.{cause₁, cause₂, cause₃, cause₄, cause₅, cause₁₁, against_pairs, or_later, table_cause, job_cause, pair_cause, pool_cause, cause}

-- f has a number of its own, which is not 0, or answers with what comes later
pub record First (f : ℕ → ℕ) : Type 0 where
  pub own : f 0 ≢ 0 → (later : ℕ) → f 0 ≡ f later
  pub none : f 0 ≡ 0 → (later : ℕ) → f later ≡ later

first-later : First (λ later. later)
first-later = record { own = λ h later. absurd (h refl); none = λ e later. refl }

first_or : (b : Bool) (number : ℕ) {f : ℕ → ℕ} → First f → First (λ later. or_later b (suc number) (f later))
first_or true number h = record { own = λ k later. refl; none = λ e later. absurd (omega arith) }
first_or false number h = record { own = h.own; none = h.none }

pub table_causes : (n : ℕ) (table : List ℕ) → First (table_cause n table)
unfolding table_cause
table_causes n table = first_or (cause₁ n) 0 (first_or (cause₂ n table) 1 (first_or (cause₃ n table) 2 first-later))

pub job-first : (job : Job) (table start : List ℕ) → First (job_cause job table start)
unfolding table_cause job_cause
job-first job table start =
    first_or (cause₁ job.n) 0
    (first_or (cause₂ job.n table) 1
    (first_or (cause₃ job.n table) 2 (first_or (cause₄ job) 3 (first_or (cause₅ job.n start) 4 first-later))))

pair_first : (n : ℕ) (start pairs : List ℕ) → First (pair_cause n start pairs)
unfolding pair_cause
pair_first n start pairs = first_or (against_pairs n start pairs) 4 (first_or (cause₁₁ n pairs) 10 first-later)

module _ (job : Job) (table start pairs : List ℕ) (budget : ℕ) (pool : List ℕ) where
  pub job_refuses : (k : ℕ) → k ≡ job_cause job table start 0 → k ≢ 0 → k ≡ cause (call_of job table start pairs budget pool)
  unfolding cause call_of
  job_refuses k e h = e ∙ (job-first job table start).own (λ z. h (e ∙ z)) (pair_cause job.n start pairs (pool_cause pool))

  job_passes :
      (k : ℕ) → k ≡ job_cause job table start 0 → k ≡ 0
      → cause (call_of job table start pairs budget pool) ≡ pair_cause job.n start pairs (pool_cause pool)
  unfolding cause call_of
  job_passes k e z = (job-first job table start).none (sym e ∙ z) (pair_cause job.n start pairs (pool_cause pool))

  pub pair_refuses :
      (k : ℕ) → k ≡ job_cause job table start 0 → k ≡ 0 → (j : ℕ) → j ≡ pair_cause job.n start pairs 0 → j ≢ 0
      → j ≡ cause (call_of job table start pairs budget pool)
  pair_refuses k e z j f h = f ∙ (pair_first job.n start pairs).own (λ y. h (f ∙ y)) (pool_cause pool) ∙ sym (job_passes k e z)

  pub call_passes :
      (k : ℕ) → k ≡ job_cause job table start 0 → k ≡ 0 → (j : ℕ) → j ≡ pair_cause job.n start pairs 0 → j ≡ 0
      → cause (call_of job table start pairs budget pool) ≡ pool_cause pool
  call_passes k e z j f y = job_passes k e z ∙ (pair_first job.n start pairs).none (sym f ∙ y) (pool_cause pool)
