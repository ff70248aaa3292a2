-- Answers over any day, a theorem for each type of specs/OnDay.
use mathlib.Core.Path.{◌≡◌, refl, ap, ap₂, sym, ◌∙◌}
use mathlib.Core.Bool.{Bool, true, false}
use mathlib.Core.List.Memᴰ
use mathlib.Core.List.{List, [], ◌∷◌, ◌++◌, map-id}
use mathlib.Core.Logic.{◌⊎◌, inl, inr}
use mathlib.Core.Option.{Option, none, some}
use Prim.Native.Nat.{ℕ, zero, suc}
use native.Mathlib.Omega.{arith}
use lib.Dec.{T}
use lib.ListN.{length, take, drop}
use Rattle.sizes.specs.Sizes.{word_stops}
use Rattle.lists.specs.Lists.{In, each, least, padded}
use Rattle.lists.proofs.Members.{in_head}
use Rattle.lists.proofs.Map.{least-map}
use Rattle.search.specs.Problem.{State, upper, start}
use Rattle.search.specs.Step.{on}
use Rattle.search.specs.Run.{with_branched, held, Outcome, finished, stopped, full, unfinished}
use Rattle.search.proofs.Mapped.{Maps, ValidBest, ValidState}
use Rattle.search.proofs.MappedRun.{start_valid}
use Rattle.search.proofs.SameRun.{EndsValid, same-run}
use Rattle.orders.specs.Orders.{Node, set_of, mask, size, complete, Partial, nodes}
use Rattle.orders.specs.Pairs.{pairs_of, Allowed}
use Rattle.orders.proofs.Partial.{partial_root, partial_child}
use Rattle.orders.proofs.Pairs.{kids-extend}
use Rattle.orders.proofs.Order.{order_partial, order-complete, partial_order}
use Rattle.days.specs.Days.{Day, problem, choices}
use Rattle.records.specs.Records.{order_word, record_of, pool_words, records_in}
use Rattle.answer.specs.Call.{Call}
use Rattle.answer.specs.Checks.{cause}
use Rattle.answer.specs.Answer.{day_of, problem_of, choices_of, given, stops_of, cost_of, outcome, floor_of, report_with, words_of, ending, respond, answer}
use Rattle.answer.specs.OnDay.{choices_on, outcome_of, words_on, floor_on, ending_by, problem_on, answer_on, OnItsDay, SameFigures, FiguresDecide}
use Rattle.answer.proofs.Passes.{Passes, passes}

pub on_its_day : OnItsDay
unfolding answer respond ending outcome problem_of choices_of floor_of words_of
on_its_day c = go (cause c)
  where
    at : (o : Outcome Node) → ending c o ≡ ending_by (problem_of c) (day_of c) c o
    at (finished s) = refl
    at (stopped s) = refl
    at (full s) = refl
    at (unfinished s) = refl

    go : (k : ℕ) → respond c k ≡ answer_on (day_of c) c k
    go zero = at (outcome c)
    go (suc k) = refl

each_same : {A B : Type 0} (f g : A → List B) (xs : List A) → ((x : A) → In x xs → f x ≡ g x) → each f xs ≡ each g xs
each_same f g [] h = refl
each_same f g (x ∷ xs) h = ap₂ (λ a b. a ++ b) (h x in_head) (each_same f g xs (λ y m. h y (Memᴰ.tail m)))

-- two days with the same figures, D in place of E
module _ (c : Call) (ok : Passes c) (D E : Day) (same : SameFigures c.job.n D E) where
  abbrev n : ℕ
  n = c.job.n

  complete-cost : (x : Node) → Partial n x → T (complete n x) → D.cost x ≡ E.cost x
  complete-cost x p whole = same.orders-cost x (partial_order n x p whole)

  day_maps : Maps (λ x. x) (Partial c.job.n) (problem_on E c) (problem_on D c) (choices_on (problem_on E c) E c) (choices_on (problem_on D c) D c)
  unfolding problem choices
  day_maps = record {
    root = refl;
    root_valid = partial_root n;
    children = λ x p. sym (map-id _);
    children_valid = λ x y p m. partial_child n x y p (kids-extend n (pairs_of c.pairs) x y m);
    complete = λ x p. refl;
    cost = complete-cost;
    dominates = same.dominances;
    smaller = λ x y p q v w. refl;
    above = refl;
    selection = refl;
    rules = refl;
    bound = same.bounds c.job.bound;
    budget = refl;
  }

  given_valid : ValidBest (Partial c.job.n) (problem_on E c) (given c.start)
  unfolding problem
  given_valid = go c.start ok.start
    where
      go : (x : List ℕ) → (x ≡ []) ⊎ Allowed n (pairs_of c.pairs) x → ValidBest (Partial c.job.n) (problem_on E c) (given x)
      go [] h = tt
      go (s ∷ x) (inl e) = absurd (let z : ◌≡◌ {A = ℕ} 0 1 = cc in omega arith)
      go (s ∷ x) (inr o) = (order_partial n (s ∷ x) o.order, order-complete n (s ∷ x) o.order)

  -- the run over D is the one over E, and ends at partial orders
  same_outcome : (outcome_of (problem_on D c) D c ≡ outcome_of (problem_on E c) E c) × EndsValid day_maps (records_in c.pool) (outcome_of (problem_on E c) E c)
  unfolding start problem
  same_outcome =
      same-run day_maps (records_in c.pool) (suc (nodes n)) (start (problem_on E c) (given c.start))
      (start_valid day_maps (given c.start) given_valid)

  -- what is reported of a state and written of it
  module _ (s : State Node) (valid : ValidState (Partial c.job.n) (problem_on E c) s) where
    same-upper : upper (problem_on E c) s.best ≡ upper (problem_on D c) s.best
    unfolding problem
    same-upper = go s.best valid.best
      where
        go : (b : Option Node) → ValidBest (Partial n) (problem_on E c) b → upper (problem_on E c) b ≡ upper (problem_on D c) b
        go none h = refl
        go (some x) h = sym (complete-cost x h.0 h.1)

    same-cost : cost_of (problem_on E c) s.best ≡ cost_of (problem_on D c) s.best
    unfolding problem
    same-cost = go s.best valid.best
      where
        go : (b : Option Node) → ValidBest (Partial n) (problem_on E c) b → cost_of (problem_on E c) b ≡ cost_of (problem_on D c) b
        go none h = refl
        go (some x) h = sym (complete-cost x h.0 h.1)

    same-floor : floor_on (problem_on E c) E c s ≡ floor_on (problem_on D c) D c s
    unfolding choices
    same-floor =
        sym (ap (least (choices_on (problem_on D c) D c).bound) (sym (map-id s.active))
        ∙ least-map (λ x. x) (choices_on (problem_on E c) E c).bound (choices_on (problem_on D c) D c).bound s.active (λ x m. same.bounds c.job.bound x (valid.active x m)))

    held_valid : (x : Node) → In x (held c.job.rules s) → Partial n x
    unfolding held
    held_valid x m = go (on 4 c.job.rules) m
      where
        either : In x s.active ⊎ In x s.branched → Partial n x
        either (inl k) = valid.active x k
        either (inr k) = valid.branched x k

        go : (b : Bool) → In x (with_branched b s.active s.branched) → Partial n x
        go true k = either (Memᴰ.append_cases s.active k)
        go false k = valid.active x k

    same-words : words_on (problem_on E c) E c s ≡ words_on (problem_on D c) D c s
    unfolding pool_words record_of
    same-words =
        ap (padded (length c.pool))
        (each_same (record_of n E c.job.bound) (record_of n D c.job.bound) (held c.job.rules s)
        (λ x m.
        let p : Partial n x = held_valid x m in
        ap₂ (λ (path bound : ℕ). size n x ∷ mask (set_of n x) ∷ path ∷ bound ∷ order_word (take word_stops x) ∷ order_word (drop word_stops x) ∷ [])
        (sym (same.paths x p)) (sym (same.bounds c.job.bound x p))))

  same-ending : (o : Outcome Node) → EndsValid day_maps (records_in c.pool) o → ending_by (problem_on E c) E c o ≡ ending_by (problem_on D c) D c o
  same-ending (finished s) v = λ i. record {
    report = report_with 0 0 (same-upper s v i) 0 (stops_of s.best) s;
    pool = same-words s v i;
  }
  same-ending (stopped s) v = λ i. record {
    report = report_with 0 1 (same-cost s v i) (same-floor s v i) (stops_of s.best) s;
    pool = same-words s v i;
  }
  same-ending (full s) v = λ i. record { report = report_with 7 0 0 0 [] s; pool = same-words s v i }
  same-ending (unfinished s) v = refl

  same_answer : answer_on E c 0 ≡ answer_on D c 0
  same_answer = same-ending (outcome_of (problem_on E c) E c) same_outcome.1 ∙ ap (ending_by (problem_on D c) D c) (sym same_outcome.0)

pub figures-decide : FiguresDecide
figures-decide c e D same = on_its_day c ∙ ap (answer_on (day_of c) c) e ∙ same_answer c (passes c e) D (day_of c) same
