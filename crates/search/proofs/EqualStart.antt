-- Two runs that start with orders of one cost (request A.8): they make the same steps and differ in the order known alone.
--   learn-upper              U after some children depends on U before them, and not on its order
--   with_best, Twins          a state with another order known; two states that differ in an order of equal cost
--   step_twin                a step of such states
--   TwinOutcome, run_twins   the outcomes of their runs
use mathlib.Core.Path.{◌≡◌, refl, ap, sym, ◌∙◌, subst}
use mathlib.Core.Bool.{Bool, true, false, not, ◌&&◌, cond}
use mathlib.Core.List.{List, [], ◌∷◌, ◌++◌}
use mathlib.Core.Option.{Option, some}
use Prim.Native.Nat.{ℕ, zero, suc, ◌+◌, ◌≤◌, min, max}
use native.Mathlib.Omega.{arith}
use lib.Dec.{T, ltb}
use lib.ListN.{length}
use Rattle.lists.specs.Lists.{any}
use Rattle.search.specs.Problem.{Problem, Choices, State, upper}
use Rattle.search.specs.Selection.{Choice, nothing, chosen, select, finishes}
use Rattle.search.specs.Step.{on, survivors, lost, better, replace, learn, children₁, best₂, over₃, children₃, rest₃, dominated₄, children₄, dominated₅, children₅, dominated₆, rest₆, active₇, step}
use Rattle.search.specs.Run.{held, Next, finish, halt, overflow, go, Outcome, finished, stopped, full, unfinished, unless, if_allowed, go_unless, fitting, decide, next, follow, run}
use Rattle.search.proofs.Values.{le_upper, better-cost, not_better_le}

module _ {N : Type 0} (P : Problem N) where
  -- a child that replaces the order known is no dearer, and one that does not is no cheaper
  taught-upper :
      (best : Option N) (c : N)
      → upper P (replace (P.complete c && better P c best) c best) ≡ cond (P.complete c) (min (P.cost c) (upper P best)) (upper P best)
  taught-upper best c = go (P.complete c) (better P c best) (better-cost P c best) (λ h. le_upper P best (some c) (not_better_le P c best h))
    where
      go :
          (whole better : Bool) → (T better → P.cost c ≤ upper P best) → (T (not better) → upper P best ≤ P.cost c)
          → upper P (replace (whole && better) c best) ≡ cond whole (min (P.cost c) (upper P best)) (upper P best)
      go true true low high = let h : P.cost c ≤ upper P best = low tt in omega arith
      go true false low high = let h : upper P best ≤ P.cost c = high tt in omega arith
      go false better low high = refl

  learn-upper : (a b : Option N) (cs : List N) → upper P a ≡ upper P b → upper P (learn P a cs) ≡ upper P (learn P b cs)
  learn-upper a b [] e = e
  learn-upper a b (c ∷ cs) e =
      learn-upper (replace (P.complete c && better P c a) c a) (replace (P.complete c && better P c b) c b) cs
      (taught-upper a c ∙ ap (λ (u : ℕ). cond (P.complete c) (min (P.cost c) u) u) e ∙ sym (taught-upper b c))

module _ {N : Type 0} where
  abbrev pub with_best : Option N → State N → State N
  with_best best s = record {
    active = s.active;
    branched = s.branched;
    best = best;
    generated = s.generated;
    eliminated = s.eliminated;
    most = s.most;
  }

  -- s' is s with another order known, of equal cost
  pub record Twins (P : Problem N) (s s' : State N) : Type 0 where
    pub other : Option N
    pub same : s' ≡ with_best other s
    pub cost : upper P s.best ≡ upper P other

  data TwinNext (P : Problem N) : Next N → Next N → Type 0 where
    both_finish : TwinNext P finish finish
    both_halt : TwinNext P halt halt
    both_overflow : TwinNext P overflow overflow
    both_go : {s s' : State N} → Twins P s s' → TwinNext P (go s) (go s')

  pub data TwinOutcome (P : Problem N) : Outcome N → Outcome N → Type 0 where
    both_finished : {s s' : State N} → Twins P s s' → TwinOutcome P (finished s) (finished s')
    both_stopped : {s s' : State N} → Twins P s s' → TwinOutcome P (stopped s) (stopped s')
    both_full : {s s' : State N} → Twins P s s' → TwinOutcome P (full s) (full s')
    both_unfinished : {s s' : State N} → Twins P s s' → TwinOutcome P (unfinished s) (unfinished s')

module _ {N : Type 0} (P : Problem N) (C : Choices N) where
  -- A step by U and the order known after its part 2: of these two, all but the order known looks at U alone.
  module _ (s : State N) (b : N) (rest : List N) (u : ℕ) where
    abbrev over : N → Bool
    over x = on 1 C.rules && ltb u (C.bound x)

    abbrev dominated : ℕ → List N → N → Bool
    dominated rule ws x = on rule C.rules && any (λ w. P.dominates w x) ws

    abbrev kids₃ : List N
    kids₃ = survivors over (P.children b)

    abbrev others₃ : List N
    others₃ = survivors over rest

    abbrev kids₄ : List N
    kids₄ = survivors (dominated 2 others₃) kids₃

    abbrev kids₅ : List N
    kids₅ = survivors (dominated 4 s.branched) kids₄

    abbrev others₆ : List N
    others₆ = survivors (dominated 8 kids₅) others₃

    abbrev step_by : Option N → State N
    step_by known = record {
      active = others₆ ++ kids₅;
      branched = s.branched ++ (b ∷ []);
      best = known;
      generated = s.generated + length (P.children b);
      eliminated =
          s.eliminated + lost over (P.children b) + lost over rest + lost (dominated 2 others₃) kids₃
          + lost (dominated 4 s.branched) kids₄ + lost (dominated 8 kids₅) others₃;
      most = max s.most (length (others₆ ++ kids₅));
    }

  step_twin :
      (s : State N) (b : N) (rest : List N) (other : Option N) → upper P s.best ≡ upper P other
      → step P C (with_best other s) b rest ≡ with_best (learn P other (P.children b)) (step P C s b rest)
  unfolding step active₇ rest₆ dominated₆ children₅ dominated₅ children₄ dominated₄ rest₃ children₃ over₃ best₂ children₁
  step_twin s b rest other e =
      ap (λ (u : ℕ). step_by s b rest u (learn P other (P.children b))) (sym (learn-upper P s.best other (P.children b) e))

  module _ (capacity : ℕ) where
    next_twins :
        (s : State N) (other : Option N) → upper P s.best ≡ upper P other
        → TwinNext P (next P C capacity s) (next P C capacity (with_best other s))
    unfolding next decide fitting held step best₂ children₁
    next_twins s other e = go (select P C s.active)
      where
        tests :
            (f a o : Bool) (x y : State N) → Twins P x y
            → TwinNext P (unless f (if_allowed a (go_unless o x))) (unless f (if_allowed a (go_unless o y)))
        tests true a o x y t = both_finish
        tests false false o x y t = both_halt
        tests false true true x y t = both_overflow
        tests false true false x y t = both_go t

        go : (c : Choice N) → TwinNext P (decide P C capacity s c) (decide P C capacity (with_best other s) c)
        go nothing = both_finish
        go (chosen b rest) =
            let after : State N = step P C s b rest in
            let known : Option N = learn P other (P.children b) in
            subst (λ (y : State N). TwinNext P (decide P C capacity s (chosen b rest)) (unless (finishes P b) (if_allowed (ltb (length s.branched) C.budget) (fitting P C capacity y))))
            (sym (step_twin s b rest other e))
            (tests (finishes P b) (ltb (length s.branched) C.budget) (ltb capacity (length (held C.rules after))) after (with_best known after)
            (record { other = known; same = refl; cost = learn-upper P s.best other (P.children b) e }))

    pub run_twins :
        (fuel : ℕ) (s s' : State N) → Twins P s s' → TwinOutcome P (run P C capacity fuel s) (run P C capacity fuel s')
    unfolding run
    run_twins zero s s' t = both_unfinished t
    run_twins (suc fuel) s s' t =
        subst (λ (y : State N). TwinOutcome P (run P C capacity (suc fuel) s) (run P C capacity (suc fuel) y)) (sym t.same)
        (go (next_twins s t.other t.cost) (λ x y k. run_twins fuel x y k))
      where
        here : Twins P s (with_best t.other s)
        here = record { other = t.other; same = refl; cost = t.cost }

        go :
            {m n : Next N} → TwinNext P m n
            → ((x y : State N) → Twins P x y → TwinOutcome P (run P C capacity fuel x) (run P C capacity fuel y))
            → TwinOutcome P (follow P C capacity (run P C capacity fuel) s m) (follow P C capacity (run P C capacity fuel) (with_best t.other s) n)
        go both_finish again = both_finished here
        go both_halt again = both_stopped here
        go both_overflow again = both_full here
        go (both_go {s = x} {s' = y} k) again = again x y k
