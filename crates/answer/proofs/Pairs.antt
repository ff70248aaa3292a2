-- Request A.6 of the written run, a theorem for each type of specs/Pairs.
use mathlib.Core.Path.{◌≡◌, refl, sym, ap, ◌∙◌, subst}
use mathlib.Core.Bool.{Bool, true, false, not}
use mathlib.Core.List.Memᴰ
use mathlib.Core.List.{List, [], ◌∷◌, ◌++◌, map-id}
use mathlib.Core.Logic.{◌⊎◌, inl, inr, ◌≢◌}
use Prim.Native.Nat.{ℕ, suc, ◌%◌}
use native.Mathlib.Omega.{arith}
use lib.Dec.{T, T_not, eqb}
use lib.ListN.{length}
use borrow.Author.Tests.{le-ltb}
use Rattle.sizes.specs.Sizes.{most_pair_bytes}
use Rattle.lists.specs.Lists.{In, all, Distinct, none, more}
use Rattle.lists.proofs.Tests.{to_true, to_false, ne_neqb, equal_eqb}
use Rattle.lists.proofs.Members.{in_head, in_all}
use Rattle.lists.proofs.Distinct.{append_apart}
use Rattle.search.specs.Problem.{Problem, State, start}
use Rattle.search.specs.Selection.{finishes}
use Rattle.search.specs.Step.{step}
use Rattle.search.specs.Run.{Steps, none as no_step, more as one_more}
use Rattle.search.proofs.Mapped.{Maps, ValidBest, ValidState}
use Rattle.search.proofs.MappedRun.{steps_valid, start_valid}
use Rattle.orders.specs.Orders.{Node, stops, flown, complete, count}
use Rattle.orders.specs.Pairs.{Pair, pairs_of, before, respects, Allowed}
use Rattle.orders.proofs.Sets.{stops_in_lem, in_flown}
use Rattle.orders.proofs.Order.{distinct-count, order-complete}
use Rattle.orders.proofs.Before.{before_met, met_before}
use Rattle.orders.proofs.Pairs.{respects_root, children_respect, child_respects, child_some}
use Rattle.orders.proofs.PairFile.{pair_stops}
use Rattle.days.specs.Days.{problem}
use Rattle.days.proofs.Walk.{problem-same}
use Rattle.records.specs.Records.{records_in}
use Rattle.answer.specs.Call.{Call, call_of, Answer, refusal}
use Rattle.answer.specs.Checks.{cause₄, cause₅, cause₁₁, against_pairs, or_later, job_cause, pair_cause, pool_cause, cause}
use Rattle.answer.specs.Answer.{day_of, problem_of, choices_of, given, report_with, ending, respond, answer}
use Rattle.answer.specs.Demands.{written}
use Rattle.answer.specs.OnDay.{answer_by, problem_on}
use Rattle.answer.specs.Pairs.{Apart, AllApart, GoodPairs, LetsPairsPass, InSequence, RefusedAsByFive, BeforeMeans, OnlyRespecting, ChildrenRespect, BranchedYields, SequencePlaysNoPart}
use Rattle.answer.proofs.Passes.{Passes, PairsPass, passes, pairs_pass}
use Rattle.answer.proofs.JobCause.{table_causes}
use Rattle.answer.proofs.Instance.{call_pairing}
use Rattle.answer.proofs.Ending.{Came, checked, spent, overran, ended, call_came}
use Rattle.answer.proofs.OnDay.{on_its_day}

-- ---- check 11

-- of bytes none of which stands twice, no pair has a stop of another, nor one stop twice
distinct_apart : (bytes : List ℕ) → Distinct bytes → AllApart (pairs_of bytes)
distinct_apart [] d = tt
distinct_apart (a ∷ []) d = tt
distinct_apart (a ∷ b ∷ bytes) (more first (more second d)) = (λ q m. apart q (pair_stops bytes q m), distinct_apart bytes d)
  where
    apart : (q : Pair) → In q.0 bytes × In q.1 bytes → Apart (a, b) q
    apart q (i, j) = record {
      pick_ups = λ e. first (Memᴰ.tail (subst (λ (s : ℕ). In s bytes) (sym e) i));
      drops = λ e. second (subst (λ (s : ℕ). In s bytes) (sym e) j);
      one_way = λ e. first (Memᴰ.tail (subst (λ (s : ℕ). In s bytes) (sym e) j));
      other_way = λ e. second (subst (λ (s : ℕ). In s bytes) (sym e) i);
    }

distinct_different : (bytes : List ℕ) → Distinct bytes → (p : Pair) → In p (pairs_of bytes) → p.0 ≢ p.1
distinct_different [] d p m = absurd (Memᴰ.not-nil m)
distinct_different (a ∷ []) d p m = absurd (Memᴰ.not-nil m)
distinct_different (a ∷ b ∷ bytes) (more first (more second d)) p m = go (Memᴰ.cases_cons m) (distinct_different bytes d p)
  where
    go : (p ≡ (a, b)) ⊎ In p (pairs_of bytes) → (In p (pairs_of bytes) → p.0 ≢ p.1) → p.0 ≢ p.1
    go (inl e) again = rw e (λ z. first (subst (λ (s : ℕ). In s (b ∷ bytes)) (sym z) in_head))
    go (inr i) again = again i

-- where they make whole pairs, each byte is a stop of a pair
byte_paired : (bytes : List ℕ) → length bytes % 2 ≡ 0 → (s : ℕ) → In s bytes → (p : Pair) × In p (pairs_of bytes) × ((s ≡ p.0) ⊎ (s ≡ p.1))
byte_paired [] whole s m = absurd (Memᴰ.not-nil m)
byte_paired (a ∷ []) whole s m = absurd (omega arith)
byte_paired (a ∷ b ∷ bytes) whole s m = go (Memᴰ.cases_cons m) (byte_paired bytes (omega arith) s)
  where
    go :
        (s ≡ a) ⊎ In s (b ∷ bytes) → (In s bytes → (p : Pair) × In p (pairs_of bytes) × ((s ≡ p.0) ⊎ (s ≡ p.1)))
        → (p : Pair) × In p (pairs_of (a ∷ b ∷ bytes)) × ((s ≡ p.0) ⊎ (s ≡ p.1))
    go (inl e) again = ((a, b), in_head, inl e)
    go (inr i) again = at (Memᴰ.cases_cons i)
      where
        at : (s ≡ b) ⊎ In s bytes → (p : Pair) × In p (pairs_of (a ∷ b ∷ bytes)) × ((s ≡ p.0) ⊎ (s ≡ p.1))
        at (inl e) = ((a, b), in_head, inr e)
        at (inr j) = let (p, k, h) = again j in (p, Memᴰ.tail k, h)

-- and none stands twice, if no pair has a stop of another, nor one stop twice
apart_distinct :
    (bytes : List ℕ) → length bytes % 2 ≡ 0 → ((p : Pair) → In p (pairs_of bytes) → p.0 ≢ p.1) → AllApart (pairs_of bytes) → Distinct bytes
apart_distinct [] whole different apart = none
apart_distinct (a ∷ []) whole different apart = absurd (omega arith)
apart_distinct (a ∷ b ∷ bytes) whole different (apart, later) =
    more first (more second (apart_distinct bytes (omega arith) (λ p m. different p (Memᴰ.tail m)) later))
  where
    other : (s : ℕ) → In s bytes → (a ≢ s) × (b ≢ s)
    other s i = go (byte_paired bytes (omega arith) s i)
      where
        go : (p : Pair) × In p (pairs_of bytes) × ((s ≡ p.0) ⊎ (s ≡ p.1)) → (a ≢ s) × (b ≢ s)
        go (p, m, inl e) = let h = apart p m in (λ z. h.pick_ups (z ∙ e), λ z. h.other_way (z ∙ e))
        go (p, m, inr e) = let h = apart p m in (λ z. h.one_way (z ∙ e), λ z. h.drops (z ∙ e))

    second : In b bytes → ⊥
    second i = (other b i).1 refl

    first : In a (b ∷ bytes) → ⊥
    first m = go (Memᴰ.cases_cons m)
      where
        go : (a ≡ b) ⊎ In a bytes → ⊥
        go (inl e) = different (a, b) in_head e
        go (inr i) = (other a i).0 refl

pub lets_pairs_pass : LetsPairsPass
unfolding cause₁₁
lets_pairs_pass n bytes = (there, back)
  where
    there : cause₁₁ n bytes ≡ false → GoodPairs n bytes
    there e =
        let p : PairsPass n bytes = pairs_pass n bytes (subst (λ (b : Bool). T (not b)) (sym e) tt) in
        record {
          whole = p.whole;
          few = p.few;
          stops = λ q m. let (i, j) = pair_stops bytes q m in (p.only q.0 i, p.only q.1 j);
          different = distinct_different bytes p.once;
          apart = distinct_apart bytes p.once;
        }

    back : GoodPairs n bytes → cause₁₁ n bytes ≡ false
    back g =
        let once : Distinct bytes = apart_distinct bytes g.whole g.different g.apart in
        let odd : eqb (length bytes % 2) 1 ≡ false = to_false (eqb (length bytes % 2) 1) (ne_neqb (length bytes % 2) 1 (λ z. omega (arith, g.whole))) in
        let only : all (flown (stops n)) bytes ≡ true = to_true (all (flown (stops n)) bytes) (in_all (flown (stops n)) bytes (λ s m. inside s (byte_paired bytes g.whole s m))) in
        let single : all (λ s. eqb (count s bytes) 1) bytes ≡ true = to_true (all (λ s. eqb (count s bytes) 1) bytes) (in_all (λ s. eqb (count s bytes) 1) bytes (λ s m. equal_eqb (count s bytes) 1 (distinct-count bytes s once m))) in
        rw (odd, le-ltb most_pair_bytes (length bytes) g.few, only, single) refl
      where
        inside : (s : ℕ) → (p : Pair) × In p (pairs_of bytes) × ((s ≡ p.0) ⊎ (s ≡ p.1)) → T (flown (stops n) s)
        inside s (p, m, inl e) = let (h, k) = g.stops p m in rw e (in_flown (stops n) p.0 (stops_in_lem n p.0 h.0 h.1))
        inside s (p, m, inr e) = let (h, k) = g.stops p m in rw e (in_flown (stops n) p.1 (stops_in_lem n p.1 k.0 k.1))

-- ---- in which sequence the causes are looked at

-- a cause is the number of the report, and where there is none, that is 0 or 7
cause-reported : (c : Call) (a : Answer) → written c a → (k : ℕ) → cause c ≡ suc k → a.report.number ≡ suc k
unfolding answer respond refusal
cause-reported c a e k h = ap (λ (x : Answer). x.report.number) (e ∙ ap (respond c) h)

passed_reported : (c : Call) (a : Answer) → written c a → cause c ≡ 0 → (a.report.number ≡ 0) ⊎ (a.report.number ≡ 7)
unfolding ending report_with
passed_reported c a e passed = go (call_came c)
  where
    number : {x : Answer} → answer c ≡ x → a.report.number ≡ x.report.number
    number q = ap (λ (x : Answer). x.report.number) (e ∙ q)

    go : Came c → (a.report.number ≡ 0) ⊎ (a.report.number ≡ 7)
    go (checked k f q) = absurd (omega arith)
    go (spent f) = inl (number f.answered)
    go (overran f) = inr (number f.answered)
    go (ended f) = inl (number f.answered)

pub in_sequence : InSequence written
unfolding cause job_cause pair_cause against_pairs pool_cause
in_sequence c a w passed known = record {
  no_order = λ e. cause-reported c a w 4 (tables ∙ rw (known, e) refl);
  bad_pairs = λ e f. cause-reported c a w 10 (tables ∙ rw (known, e, f) refl);
  against = λ h. cause-reported c a w 4 (tables ∙ rw (known, h.0, h.1, h.2) refl);
  pool_last = λ h p. cause-reported c a w 5 (tables ∙ rw (known, h.0, h.1, h.2, p) refl);
  no_refusal = λ h p. passed_reported c a w (tables ∙ rw (known, h.0, h.1, h.2, p) refl);
}
  where
    later : ℕ
    later = or_later (cause₄ c.job) 4 (or_later (cause₅ c.job.n c.start) 5 (pair_cause c.job.n c.start c.pairs (pool_cause c.pool)))

    tables : cause c ≡ later
    tables = (table_causes c.job.n c.table).none passed later

-- a call with a number that only a check gives
refused_by :
    (c : Call) (k : ℕ) → k ≢ 0 → k ≢ 7 → (answer c).report.number ≡ k → answer c ≡ record { report = refusal k; pool = c.pool }
unfolding refusal ending report_with
refused_by c k some other h = go (call_came c)
  where
    number : {a : Answer} → answer c ≡ a → a.report.number ≡ k
    number e = sym (ap (λ (x : Answer). x.report.number) e) ∙ h

    go : Came c → answer c ≡ record { report = refusal k; pool = c.pool }
    go (checked j e q) = q ∙ ap (λ (m : ℕ). record { report = refusal m; pool = c.pool }) (number q)
    go (spent f) = absurd (some (sym (number f.answered)))
    go (overran f) = absurd (other (sym (number f.answered)))
    go (ended f) = absurd (some (sym (number f.answered)))

pub refused_as_by_five : RefusedAsByFive written
refused_as_by_five c a e = (at 5 (λ z. omega arith) (λ z. omega arith), at 11 (λ z. omega arith) (λ z. omega arith))
  where
    at : (k : ℕ) → k ≢ 0 → k ≢ 7 → a.report.number ≡ k → a ≡ record { report = refusal k; pool = c.pool }
    at k some other h = e ∙ refused_by c k some other (sym (ap (λ (x : Answer). x.report.number) e) ∙ h)

-- ---- which children are generated

pub before_means : BeforeMeans
before_means n x p a b apart = (there, met_before a b x)
  where
    there : T (before a b x) → (y z : Node) → x ≡ y ++ (b ∷ z) → In a y
    there h y z e =
        before_met a b y z apart (λ m. append_apart y (b ∷ z) (subst Distinct e p.once) b m in_head) (subst (λ (l : Node). T (before a b l)) e h)

pub children_respect_pairs : ChildrenRespect
unfolding problem_of problem
children_respect_pairs c e x h = children_respect (call_pairing c (passes c e)) x h

module _ (c : Call) (ok : Passes c) where
  abbrev pairs : List Pair
  pairs = pairs_of c.pairs

  -- what respects the pairs has children that do
  keeps_respect : Maps (λ (x : Node). x) (λ x. T (respects pairs x)) (problem_of c) (problem_of c) (choices_of c) (choices_of c)
  unfolding problem_of problem
  keeps_respect = record {
    root = refl;
    root_valid = respects_root pairs;
    children = λ x h. sym (map-id _);
    children_valid = λ x y h m. child_respects (call_pairing c ok) x y h m;
    complete = λ x h. refl;
    cost = λ x h whole. refl;
    dominates = λ y z h k. refl;
    smaller = λ x y h k v w. refl;
    above = refl;
    selection = refl;
    rules = refl;
    bound = λ x h. refl;
    budget = refl;
  }

  start-respects : ValidBest (λ x. T (respects pairs x)) (problem_of c) (given c.start)
  unfolding problem_of problem
  start-respects = go c.start ok.start
    where
      go : (x : List ℕ) → (x ≡ []) ⊎ Allowed c.job.n pairs x → ValidBest (λ x. T (respects pairs x)) (problem_of c) (given x)
      go [] h = tt
      go (s ∷ x) (inl e) = absurd (let z : ◌≡◌ {A = ℕ} 0 1 = cc in omega arith)
      go (s ∷ x) (inr a) = (a.respected, order-complete c.job.n (s ∷ x) a.order)

  -- a node that is branched is not complete
  branched_partial : {s e : State Node} → Steps (problem_of c) (choices_of c) (records_in c.pool) s e → s.branched ≡ [] → (b : Node) → In b e.branched → T (complete c.job.n b) → ⊥
  unfolding step finishes problem_of problem
  branched_partial no_step first b m whole = Memᴰ.not-nil (subst (λ (l : List Node). In b l) first m)
  branched_partial (one_more {s'} {e} before last) first b m whole =
      go (Memᴰ.append_cases s'.branched (subst (λ (t : State Node). In b t.branched) last.steps m)) (branched_partial before first b)
    where
      go : In b s'.branched ⊎ In b (last.b ∷ []) → (In b s'.branched → T (complete c.job.n b) → ⊥) → ⊥
      go (inl i) again = again i whole
      go (inr i) again =
          T_not (complete c.job.n last.b) last.goes
          (subst (λ (x : Node). T (complete c.job.n x)) (Memᴰ.eq_of_singleton i) whole)

pub only_respecting : OnlyRespecting
only_respecting c e s steps x m =
    let ok : Passes c = passes c e in
    let valid = steps_valid (keeps_respect c ok) (records_in c.pool) steps (start_valid (keeps_respect c ok) (given c.start) (start-respects c ok)) in
    go valid (Memᴰ.append_cases s.active m)
  where
    go : ValidState (λ z. T (respects (pairs_of c.pairs) z)) (problem_of c) s → In x s.active ⊎ In x s.branched → T (respects (pairs_of c.pairs) x)
    go valid (inl i) = valid.active x i
    go valid (inr i) = valid.branched x i

pub branched_yields : BranchedYields
unfolding problem_of problem start
branched_yields c e s steps b m =
    let ok : Passes c = passes c e in
    child_some (call_pairing c ok) b (branched_partial c ok steps refl b m)

-- ---- what comes back

pub sequence_plays_no_part : SequencePlaysNoPart written
unfolding call_of day_of
sequence_plays_no_part c pairs x y p q same causes =
    let d : Call = call_of c.job c.table c.start pairs c.budget c.pool in
    p ∙ on_its_day c ∙ ap (answer_by (problem_on (day_of c) c) (day_of c) c) causes
    ∙ ap (λ (P : Problem Node). answer_by P (day_of c) c (cause d)) (problem-same c.job.n (pairs_of c.pairs) (pairs_of pairs) (day_of c) same)
    ∙ sym (q ∙ on_its_day d)
