-- Of the pool that is lent, the written run looks at the length alone.
use mathlib.Core.Path.{◌≡◌, refl, sym, ◌∙◌, ap}
use mathlib.Core.Bool.{not, ◌||◌}
use mathlib.Core.List.{List}
use Prim.Native.Nat.{ℕ, zero, suc, ◌/◌, ◌%◌}
use lib.Dec.{eqb}
use lib.ListN.{length}
use Rattle.sizes.specs.Sizes.{record_words}
use Rattle.search.specs.Problem.{start}
use Rattle.search.specs.Run.{Outcome, finished, stopped, full, unfinished, run}
use Rattle.orders.specs.Orders.{Node, nodes}
use Rattle.records.specs.Records.{records_in, pool_words}
use Rattle.answer.specs.Call.{Call, call_of, Answer}
use Rattle.answer.specs.Checks.{cause₆, or_later, job_cause, pair_cause, pool_cause, cause}
use Rattle.answer.specs.Answer.{day_of, problem_of, choices_of, given, outcome, floor_of, words_of, ending, respond, answer}
use Rattle.answer.specs.Demands.{written}
use Rattle.answer.specs.Document01.{ContentsPlayNoPart}
use Rattle.answer.proofs.Instance.{outcome-ends}

module _ (c : Call) (pool : List ℕ) (long : length pool ≡ length c.pool) where
  -- the same job over the other pool
  abbrev other : Call
  other = record { job = c.job; table = c.table; start = c.start; pairs = c.pairs; budget = c.budget; pool = pool }

  same-cause : cause other ≡ cause c
  unfolding cause pool_cause cause₆ records_in
  same-cause =
      ap
      (λ (m : ℕ).
      job_cause c.job c.table c.start
      (pair_cause c.job.n c.start c.pairs (or_later (eqb (m / record_words) 0 || not (eqb (m % record_words) 0)) 6 0)))
      long

  same_outcome : outcome other ≡ outcome c
  unfolding outcome problem_of choices_of day_of records_in
  same_outcome =
      ap (λ (m : ℕ). run (problem_of c) (choices_of c) (m / record_words) (suc (nodes c.job.n)) (start (problem_of c) (given c.start))) long

  pub same_report : (answer other).report ≡ (answer c).report
  unfolding answer respond ending problem_of choices_of floor_of day_of
  same_report = ap (λ (k : ℕ). (respond other k).report) same-cause ∙ by_cause (cause c)
    where
      by_outcome : (o : Outcome Node) → (ending other o).report ≡ (ending c o).report
      by_outcome (finished s) = refl
      by_outcome (stopped s) = refl
      by_outcome (full s) = refl
      by_outcome (unfinished s) = refl

      by_cause : (k : ℕ) → (respond other k).report ≡ (respond c k).report
      by_cause zero = ap (λ (o : Outcome Node). (ending other o).report) same_outcome ∙ by_outcome (outcome c)
      by_cause (suc k) = refl

  pub same-words : cause c ≡ 0 → (answer other).pool ≡ (answer c).pool
  unfolding answer respond ending words_of day_of
  same-words passed =
      ap (λ (k : ℕ). (respond other k).pool) (same-cause ∙ passed) ∙ ap (λ (o : Outcome Node). (ending other o).pool) same_outcome
      ∙ by_outcome (outcome c) refl ∙ sym (ap (λ (k : ℕ). (respond c k).pool) passed)
    where
      by_outcome : (o : Outcome Node) → outcome c ≡ o → (ending other o).pool ≡ (ending c o).pool
      by_outcome (finished s) e = ap (λ (m : ℕ). pool_words c.job.n (day_of c) c.job.bound c.job.rules m s) long
      by_outcome (stopped s) e = ap (λ (m : ℕ). pool_words c.job.n (day_of c) c.job.bound c.job.rules m s) long
      by_outcome (full s) e = ap (λ (m : ℕ). pool_words c.job.n (day_of c) c.job.bound c.job.rules m s) long
      by_outcome (unfinished s) e = absurd (outcome-ends c s e)

pub contents_play_no_part : ContentsPlayNoPart written
unfolding call_of
contents_play_no_part c pool x y p q long = (
  ap (λ (a : Answer). a.report) p ∙ sym (same_report c pool long) ∙ sym (ap (λ (a : Answer). a.report) q),
  λ passed. ap (λ (a : Answer). a.pool) p ∙ sym (same-words c pool long passed) ∙ sym (ap (λ (a : Answer). a.pool) q),
)
