-- Demand 3 of the written run, the second half: a job A that the letter favours over B finishes where B does, with no higher counts. A is any
-- call that every check lets pass, B any call that finishes.
use mathlib.Core.Path.{◌≡◌, refl, sym, ◌∙◌, ap, subst}
use mathlib.Core.List.{List, [], ◌∷◌}
use mathlib.Core.Logic.{◌⊎◌, inl, inr}
use Prim.Native.Nat.{ℕ, zero, suc, ◌≤◌}
use native.Mathlib.Omega.{arith}
use lib.Dec.{ltb→lt, lt→ltb}
use lib.ListN.{length}
use Rattle.search.specs.Problem.{Problem, Choices, State, upper, start}
use Rattle.search.specs.Run.{finished, run}
use Rattle.search.proofs.General.{Plan, search, done}
use Rattle.search.proofs.Cover.{root_within}
use Rattle.search.proofs.PlainSelection.{late_by, rank_by}
use Rattle.search.proofs.Plain.{tree, plan_of, cut_of, adds, finished_iff_done}
use Rattle.search.proofs.Below.{Closer}
use Rattle.search.proofs.Compare.{compare_runs}
use Rattle.orders.specs.Orders.{Node, size, nodes}
use Rattle.orders.specs.Pairs.{pairs_of}
use Rattle.days.specs.Days.{Day, problem, choices}
use Rattle.days.proofs.Walk.{walk_closer, problem-same}
use Rattle.stops.specs.Bounds.{ends_away}
use Rattle.records.specs.Records.{records_in}
use Rattle.answer.specs.Call.{Call, Answer}
use Rattle.answer.specs.Checks.{cause}
use Rattle.answer.specs.Answer.{day_of, problem_of, choices_of, given, outcome, report_with, ending, respond, answer}
use Rattle.answer.specs.Ends.{Finishes, AllowedOrder}
use Rattle.answer.specs.Demands.{written, AsClose, Favours, NoWorse, FavouredFinishes}
use Rattle.answer.proofs.Passes.{Passes, passes}
use Rattle.answer.proofs.Instance.{call_walk, one_day, closer_ends, order_cheap, call_lawful, bound_laws, call_manner, call_solvable, start_known, selection_small}
use Rattle.answer.proofs.Ending.{Finished, finishes_finished}

-- B over A's own n, table and selection
abbrev alongside : Call → ℕ → ℕ → List ℕ → List ℕ → ℕ → List ℕ → Call
alongside a rules bound start pairs budget pool =
    record {
      job = record { n = a.job.n; selection = a.job.selection; rules = rules; bound = bound };
      table = a.table;
      start = start;
      pairs = pairs;
      budget = budget;
      pool = pool;
    }

-- the rank of a node under FIFO and LIFO does not look at its bound
same_rank : (P : Problem Node) (f g : Node → ℕ) (k : ℕ) → 2 ≤ k → rank_by P f k ≡ rank_by P g k
same_rank P f g zero h = absurd (omega arith)
same_rank P f g (suc zero) h = absurd (omega arith)
same_rank P f g (suc (suc zero)) h = refl
same_rank P f g (suc (suc (suc k))) h = refl

module _ (a : Call) (ok : Passes a) (rules bound : ℕ) (first pairs : List ℕ) (budget : ℕ) (pool : List ℕ) (favours : Favours a (alongside a rules bound first pairs budget pool)) where
  abbrev b : Call
  b = alongside a rules bound first pairs budget pool

  -- both end at home, or both away
  ends_alike : ends_away bound ≡ ends_away a.job.bound
  ends_alike = go favours.bound
    where
      go : AsClose a.job b.job → ends_away bound ≡ ends_away a.job.bound
      go (inl e) = ap ends_away (sym e)
      go (inr h) = sym (closer_ends a.job.bound bound h.1)

  -- so that they have one day: B's choices over A's
  abbrev other : Choices Node
  other = choices (day_of a) a.job.selection rules bound budget

  -- and on it B's bound is at most A's
  bound_below : (x : Node) → (day_of a).bound bound x ≤ (day_of a).bound a.job.bound x
  bound_below x = go favours.bound
    where
      go : AsClose a.job b.job → (day_of a).bound bound x ≤ (day_of a).bound a.job.bound x
      go (inl e) = omega (arith, ap (λ (k : ℕ). (day_of a).bound k x) e)
      go (inr h) = walk_closer (call_walk a) a.job.bound bound h.1 ok.bound x

  one_rank :
      rank_by (problem_of a) ((day_of a).bound bound) a.job.selection
      ≡ rank_by (problem_of a) ((day_of a).bound a.job.bound) a.job.selection
  one_rank = go favours.bound
    where
      go :
          AsClose a.job b.job
          → rank_by (problem_of a) ((day_of a).bound bound) a.job.selection
          ≡ rank_by (problem_of a) ((day_of a).bound a.job.bound) a.job.selection
      go (inl e) = ap (λ (k : ℕ). rank_by (problem_of a) ((day_of a).bound k) a.job.selection) (sym e)
      go (inr h) = same_rank (problem_of a) ((day_of a).bound bound) ((day_of a).bound a.job.bound) a.job.selection h.0

  -- both runs share the plan: ranks and dominance rules agree
  one_plan : plan_of (problem_of a) other ≡ plan_of (problem_of a) (choices_of a)
  unfolding choices_of choices
  one_plan = λ i. record {
    late = late_by a.job.selection;
    rank = one_rank i;
    rule2 = sym favours.rule_2 i;
    rule4 = sym favours.rule_4 i;
    rule8 = sym favours.rule_8 i;
  }

  closer : Closer (cut_of (choices_of a)) (cut_of other)
  unfolding choices_of choices
  closer = record {
    closer = bound_below;
    stricter = favours.rule_1;
    longer = λ j k h t. lt→ltb j a.budget (omega (arith, favours.budget, ltb→lt k budget t));
  }

  -- A's U is no higher than B's at the start
  lower-start : upper (problem_of a) (given a.start) ≤ upper (problem_of a) (given first)
  unfolding problem_of problem
  lower-start = go a.start first ok.start favours.start
    where
      below : (x : Node) → (x ≡ []) ⊎ AllowedOrder a x → upper (problem_of a) (given x) ≤ (problem_of a).above
      below [] o = omega arith
      below (s ∷ x) (inl e) = absurd (let z : ◌≡◌ {A = ℕ} 0 1 = cc in omega arith)
      below (s ∷ x) (inr o) = omega (arith, order_cheap a ok (s ∷ x) o.order)

      go :
          (x y : Node) → (x ≡ []) ⊎ AllowedOrder a x → (y ≡ []) ⊎ ((x ≡ [] → ⊥) × ((day_of a).cost x ≤ (day_of a).cost y))
          → upper (problem_of a) (given x) ≤ upper (problem_of a) (given y)
      go x [] o h = below x o
      go x (r ∷ y) o (inl e) = absurd (let z : ◌≡◌ {A = ℕ} 0 1 = cc in omega arith)
      go [] (r ∷ y) o (inr h) = absurd (h.0 refl)
      go (s ∷ x) (r ∷ y) o (inr h) = h.1

  -- and e's bound is within it
  root_low : (choices_of a).bound (problem_of a).root ≤ upper (problem_of a) (given a.start)
  root_low = root_within (call_lawful a ok) (bound_laws a ok) (call_solvable a ok) (given a.start) (start_known a ok)

  -- more words, more records
  more_records : records_in pool ≤ records_in a.pool
  unfolding records_in
  more_records = let h : length pool ≤ length a.pool = favours.pool in omega arith

  -- B's run over A's problem ..
  one_run : outcome b ≡ run (problem_of a) other (records_in pool) (suc (nodes a.job.n)) (start (problem_of a) (given first))
  unfolding outcome problem_of choices_of
  one_run =
      ap
      (λ (D : Day).
      let P : Problem Node = problem a.job.n (pairs_of pairs) D in
      run P (choices D a.job.selection rules bound budget) (records_in pool) (suc (nodes a.job.n)) (start P (given first)))
      (one_day b a (record { n = refl; table = refl }) ends_alike)
      ∙ ap (λ (P : Problem Node). run P other (records_in pool) (suc (nodes a.job.n)) (start P (given first)))
      (sym (problem-same a.job.n (pairs_of a.pairs) (pairs_of pairs) (day_of a) favours.pairs))

  -- .. and over A's plan
  other_done :
      (e : State Node) → outcome b ≡ finished e
      → search (tree (problem_of a)) (plan_of (problem_of a) (choices_of a)) (cut_of other) (records_in pool)
      (suc (nodes a.job.n)) (start (problem_of a) (given first))
      ≡ done e
  unfolding choices
  other_done e h =
      subst
      (λ (p : Plan Node).
      search (tree (problem_of a)) p (cut_of other) (records_in pool) (suc (nodes a.job.n)) (start (problem_of a) (given first)) ≡ done e)
      one_plan
      ((finished_iff_done (problem_of a) other (records_in pool) ok.selection (suc (nodes a.job.n))
      (start (problem_of a) (given first)) e).0 (sym one_run ∙ h))

  -- so A's run is finished too, with no higher counts
  beside_finishes :
      (e : State Node) → outcome b ≡ finished e
      → (d : State Node) × (outcome a ≡ finished d) × (length d.branched ≤ length e.branched) × (d.generated ≤ e.generated)
      × (d.most ≤ e.most)
  unfolding outcome
  beside_finishes e h =
      let (d, ran, branched, generated, most) =
      compare_runs (tree (problem_of a)) (plan_of (problem_of a) (choices_of a)) (cut_of (choices_of a))
      (cut_of other) (size a.job.n) a.job.n (call_lawful a ok) (adds (problem_of a)) (bound_laws a ok)
      (call_manner a ok) closer (records_in a.pool) (records_in pool) more_records (given a.start) (given first) lower-start root_low
      (suc (nodes a.job.n)) e (other_done e h) in (
        d,
        (finished_iff_done (problem_of a) (choices_of a) (records_in a.pool) (selection_small a ok) (suc (nodes a.job.n))
            (start (problem_of a) (given a.start)) d).1 ran,
        branched,
        generated,
        most,
      )

-- B is the call alongside A that has its rules, bound, starting order, pairs, budget and pool.
same-call : (a b : Call) → Favours a b → b ≡ alongside a b.job.rules b.job.bound b.start b.pairs b.budget b.pool
same-call a b f = λ i. record {
  job = record { n = sym f.n i; selection = sym f.selection i; rules = b.job.rules; bound = b.job.bound };
  table = sym f.table i;
  start = b.start;
  pairs = b.pairs;
  budget = b.budget;
  pool = b.pool;
}

answers_no_worse :
    (a b : Call) → Favours a b → cause a ≡ 0 → Finishes (answer b).report → NoWorse (answer a).report (answer b).report
unfolding answer respond ending report_with
answers_no_worse a b f passed h =
    let fb : Finished b = finishes_finished b h in
    let e : b ≡ alongside a b.job.rules b.job.bound b.start b.pairs b.budget b.pool = same-call a b f in
    let (d, ran, branched, generated, most) =
    beside_finishes a (passes a passed) b.job.rules b.job.bound b.start b.pairs b.budget b.pool (subst (Favours a) e f) fb.state
    (ap outcome (sym e) ∙ fb.ran) in
    let answered : answer a ≡ ending a (finished d) = ap (respond a) passed ∙ ap (ending a) ran in
    subst (λ (x : Answer). NoWorse x.report (answer b).report) (sym answered)
    (subst (λ (y : Answer). NoWorse (ending a (finished d)).report y.report) (sym fb.answered)
    (record { finishes = (refl, refl); branched = branched; generated = generated; most = most }))

pub favoured_finishes : FavouredFinishes written
favoured_finishes a b x y p q f passed h =
    subst (λ (z : Answer). NoWorse z.report y.report) (sym p)
    (subst (λ (z : Answer). NoWorse (answer a).report z.report) (sym q)
    (answers_no_worse a b f passed (subst (λ (z : Answer). Finishes z.report) q h)))
