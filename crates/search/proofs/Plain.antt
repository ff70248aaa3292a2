-- The written run (specs/) is the general run (`General`) at one instance: there are no dead children, a branching is allowed while fewer
-- than the budget were made, and the selection gives side and rank.
--   tree, plan_of, cut_of    the instance
--   step_is_move, held_is_kept, next_is_verdict    the parts of the run are the general run's parts
--   search_is_run, run_is_search    so are the outcomes
--   plan_manner, adds    the laws that `Laws` asks of a plan and a tree, at this instance
use mathlib.Core.Path.{◌≡◌, refl, ap, sym, ◌∙◌}
use mathlib.Core.Bool.{Bool, true, false, cond}
use mathlib.Core.List.{List}
use mathlib.Core.Logic.{◌⊎◌, inl, inr, ◌↔◌}
use Prim.Native.Nat.{ℕ, zero, suc, ◌+◌, ◌*◌, ◌≤◌, ◌<◌}
use native.Mathlib.Omega.{arith}
use lib.Dec.{T, ltb}
use lib.ListN.{length}
use Rattle.search.specs.Problem.{Problem, Choices, State}
use Rattle.search.specs.Selection.{Choice, nothing, chosen, select, finishes}
use Rattle.search.specs.Step.{on, children₁, best₂, over₃, children₃, rest₃, dominated₄, children₄, dominated₅, children₅, dominated₆, rest₆, active₇, step}
use Rattle.search.specs.Run.{held, Next, finish, halt, overflow, go, Outcome, finished, stopped, full, unfinished, unless, if_allowed, go_unless, fitting, decide, next, follow, run}
use Rattle.search.proofs.General.{Tree, Plan, Cut, taken, over, kids, learnt, kids₃, others₃, kids₄, kids₅, others₆, move, Verdict, stop, pause, refuse, onward, Result, done, paused, overfull, stuck, stop_if, allowed_if, refuse_if, kept, verdict_on, verdict, obey, search}
use Rattle.search.proofs.Laws.{Manner, ranked, queue, Adds}
use Rattle.search.proofs.PlainSelection.{late_by, rank_by, waits, low_rank, select_is_pick}

module _ {N : Type 0} where
  abbrev pub tree : Problem N → Tree N
  tree P = record { problem = P; with_dead = λ b k. k }

  abbrev pub plan_of : Problem N → Choices N → Plan N
  plan_of P C = record {
    late = late_by C.selection;
    rank = rank_by P C.bound C.selection;
    rule2 = on 2 C.rules;
    rule4 = on 4 C.rules;
    rule8 = on 8 C.rules;
  }

  abbrev pub cut_of : Choices N → Cut N
  cut_of C = record { rule1 = on 1 C.rules; bound = C.bound; allows = λ k. ltb k C.budget }

  -- what comes next, and an outcome, in the words of the general run
  abbrev pub verdict_of : Next N → Verdict N
  verdict_of finish = stop
  verdict_of halt = pause
  verdict_of overflow = refuse
  verdict_of (go s) = onward s

  abbrev pub result_of : Outcome N → Result N
  result_of (finished e) = done e
  result_of (stopped e) = paused e
  result_of (full e) = overfull e
  result_of (unfinished e) = stuck e

  -- a result in the words of the written run
  abbrev pub plainly : Result N → Outcome N
  plainly (done e) = finished e
  plainly (paused e) = stopped e
  plainly (overfull e) = full e
  plainly (stuck e) = unfinished e

  plainly_result_of : (o : Outcome N) → plainly (result_of o) ≡ o
  plainly_result_of (finished e) = refl
  plainly_result_of (stopped e) = refl
  plainly_result_of (full e) = refl
  plainly_result_of (unfinished e) = refl

pub adds : {N : Type 0} (P : Problem N) → Adds (tree P)
adds P b k = omega arith

-- How each selection lets a run end at a complete node; by cases, for a record's field cannot be split.
module _ {N : Type 0} (P : Problem N) (bound : N → ℕ) where
  -- a complete node ranks behind the incomplete ones of its number m: of its bound (least bound), or all of them (LIFO, where m is 0)
  waits_goes : (m k : ℕ) (b x : N) → T (P.complete b) → 2 * m + waits P b ≤ 2 * k + waits P x → T (P.complete x) ⊎ (m < k)
  waits_goes m k b x = go (P.complete b) (P.complete x)
    where
      go : (y z : Bool) → T y → 2 * m + cond y 1 0 ≤ 2 * k + cond z 1 0 → T z ⊎ (m < k)
      go true true t h = inl tt
      go true false t h = inr (omega arith)
      go false z t h = absurd t

  low_goes : (b x : N) → T (P.complete b) → low_rank P bound b ≤ low_rank P bound x → T (P.complete x) ⊎ (bound b < bound x)
  low_goes b x = waits_goes (bound b) (bound x) b x

  lifo_goes : (b x : N) → T (P.complete b) → waits P b ≤ waits P x → T (P.complete x) ⊎ (bound b < bound x)
  lifo_goes b x t h = go (waits_goes 0 0 b x t (omega arith))
    where
      go : T (P.complete x) ⊎ (0 < 0) → T (P.complete x) ⊎ (bound b < bound x)
      go (inl whole) = inl whole
      go (inr l) = absurd (omega arith)

  manner_by : (k rules budget : ℕ) → k ≤ 3
      → Manner (tree P) (plan_of P (record { selection = k; rules = rules; bound = bound; budget = budget })) bound
  manner_by zero rules budget known = ranked low_goes
  manner_by (suc zero) rules budget known = ranked low_goes
  manner_by (suc (suc zero)) rules budget known = queue refl (λ x y. refl)
  manner_by (suc (suc (suc zero))) rules budget known = ranked lifo_goes
  manner_by (suc (suc (suc (suc k)))) rules budget known = absurd (omega arith)

module _ {N : Type 0} (P : Problem N) (C : Choices N) where
  pub step_is_move : (s : State N) (b : N) (rest : List N) → step P C s b rest ≡ move (tree P) (plan_of P C) (cut_of C) s b rest
  unfolding step active₇ rest₆ dominated₆ children₅ dominated₅ children₄ dominated₄ rest₃ children₃ over₃ best₂ children₁
      move others₆ kids₅ kids₄ others₃ kids₃ learnt kids over taken
  step_is_move s b rest = refl

  pub held_is_kept : (capacity : ℕ) (s : State N) → held C.rules s ≡ kept (tree P) (plan_of P C) (cut_of C) capacity s
  unfolding held kept
  held_is_kept capacity s = refl

  module _ (capacity : ℕ) where
    decide_is_verdict_on :
        (s : State N) (c : Choice N) → verdict_on (tree P) (plan_of P C) (cut_of C) capacity s c ≡ verdict_of (decide P C capacity s c)
    unfolding decide finishes fitting verdict_on
    decide_is_verdict_on s nothing = refl
    decide_is_verdict_on s (chosen b rest) =
        rw (← step_is_move, ← held_is_kept)
        (cases (P.complete b) (ltb (length s.branched) C.budget) (ltb capacity (length (held C.rules (step P C s b rest)))))
      where
        cases :
            (f a o : Bool)
            → stop_if f (allowed_if a (refuse_if o (step P C s b rest))) ≡ verdict_of (unless f (if_allowed a (go_unless o (step P C s b rest))))
        cases true a o = refl
        cases false false o = refl
        cases false true true = refl
        cases false true false = refl

    pub next_is_verdict :
        C.selection ≤ 3 → (s : State N) → verdict (tree P) (plan_of P C) (cut_of C) capacity s ≡ verdict_of (next P C capacity s)
    unfolding verdict next select
    next_is_verdict h s = rw (← select_is_pick P C.bound C.selection h s.active) (decide_is_verdict_on s (select P C s.active))

    -- by recursion on the fuel: what is the same of one state is the same of the run
    pub search_is_run :
        C.selection ≤ 3 → (fuel : ℕ) (s : State N)
        → search (tree P) (plan_of P C) (cut_of C) capacity fuel s ≡ result_of (run P C capacity fuel s)
    unfolding search run
    search_is_run known zero s = refl
    search_is_run known (suc fuel) s =
        rw (next_is_verdict known s) (cases (next P C capacity s) (λ s'. search_is_run known fuel s'))
      where
        more : State N → Result N
        more = search (tree P) (plan_of P C) (cut_of C) capacity fuel

        cases :
            (n : Next N) → ((s' : State N) → more s' ≡ result_of (run P C capacity fuel s'))
            → obey (tree P) (plan_of P C) (cut_of C) capacity more s (verdict_of n) ≡ result_of (follow P C capacity (run P C capacity fuel) s n)
        cases finish again = refl
        cases halt again = refl
        cases overflow again = refl
        cases (go s') again = again s'

    module _ (known : C.selection ≤ 3) (fuel : ℕ) (s : State N) where
      pub run_is_search : run P C capacity fuel s ≡ plainly (search (tree P) (plan_of P C) (cut_of C) capacity fuel s)
      run_is_search = sym (ap plainly (search_is_run known fuel s) ∙ plainly_result_of (run P C capacity fuel s))

      pub finished_iff_done :
          (e : State N) → (run P C capacity fuel s ≡ finished e) ↔ (search (tree P) (plan_of P C) (cut_of C) capacity fuel s ≡ done e)
      finished_iff_done e = (λ q. search_is_run known fuel s ∙ ap result_of q, λ q. run_is_search ∙ ap plainly q)

      pub unfinished_stuck :
          (e : State N) → run P C capacity fuel s ≡ unfinished e → search (tree P) (plan_of P C) (cut_of C) capacity fuel s ≡ stuck e
      unfinished_stuck e q = search_is_run known fuel s ∙ ap result_of q

  pub plan_manner : C.selection ≤ 3 → Manner (tree P) (plan_of P C) C.bound
  plan_manner known = manner_by P C.bound C.selection C.rules C.budget known
