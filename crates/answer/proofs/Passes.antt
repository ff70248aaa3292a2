-- What it means that checks 1 to 3 let a table pass (`TablePasses`), checks 1 to 5 a job (`JobPasses`), check 11 pairs (`PairsPass`), and every check a
-- call (`Passes`).
use mathlib.Core.Path.{◌≡◌, refl}
use mathlib.Core.Bool.{Bool, true, false, not, ◌&&◌, ◌||◌}
use mathlib.Core.List.{List, [], ◌∷◌}
use mathlib.Core.Logic.{◌⊎◌, inl, inr, ◌≢◌}
use Prim.Native.Nat.{ℕ, suc, ◌*◌, ◌%◌, ◌≤◌}
use native.Mathlib.Omega.{arith}
use lib.Dec.{T, T_not, not_T, ltb, eqb, nltb→le, eqb→eq}
use lib.ListN.{length}
use borrow.Author.Tests.{le-ltb}
use Rattle.lists.specs.Lists.{In, any, all, from, Distinct}
use Rattle.lists.proofs.Tests.{neq, not_either, twice_not, to_false}
use Rattle.lists.proofs.Members.{in_any, all_in, from_in}
use Rattle.orders.specs.Orders.{stops, flown, count, Order, is_order}
use Rattle.orders.specs.Pairs.{pairs_of, Pairing, respects, Allowed}
use Rattle.orders.proofs.Sets.{in_stops, flown_in}
use Rattle.orders.proofs.Order.{is_order_order, count-distinct}
use Rattle.orders.proofs.PairFile.{file_pairing}
use Rattle.stops.specs.Tables.{charge}
use Rattle.stops.specs.Code.{Priced}
use Rattle.sizes.specs.Sizes.{most_stops, dearest_leg, dearest_charge, record_words, most_pair_bytes}
use Rattle.records.specs.Records.{records_in}
use Rattle.answer.specs.Call.{Call}
use Rattle.answer.specs.declared.Job.{Job}
use Rattle.answer.specs.Checks.{cause₁, cause₂, cause₃, no_such_bound, cause₄, cause₅, cause₁₁, against_pairs, cause₆, is_empty, or_later, table_cause, first_cause, job_cause, pair_cause, pool_cause, cause}
use Rattle.answer.specs.Cases
use Rattle.answer.specs.BudgetCases
use Rattle.answer.specs.ChargeCases
use Rattle.answer.specs.AwayCases
use Rattle.answer.specs.PairCases

pub record TablePasses (n : ℕ) (table : List ℕ) : Type 0 where
  pub some : 1 ≤ n
  pub priced : Priced n table

pub record JobPasses (job : Job) (table order : List ℕ) : Type 0 where
  pub legs : TablePasses job.n table
  pub selection : job.selection ≤ 3
  pub rules : job.rules ≤ 15
  pub bound : job.bound ≤ 3
  pub start : (order ≡ []) ⊎ Order job.n order

-- whole pairs, few of them, of the stops 1 to n, and none of these twice
pub record PairsPass (n : ℕ) (bytes : List ℕ) : Type 0 where
  pub whole : length bytes % 2 ≡ 0
  pub few : length bytes ≤ most_pair_bytes
  pub only : (s : ℕ) → In s bytes → (1 ≤ s) × (s ≤ n)
  pub once : Distinct bytes

pub record Passes (c : Call) : Type 0 where
  pub some : 1 ≤ c.job.n
  pub priced : Priced c.job.n c.table
  pub selection : c.job.selection ≤ 3
  pub rules : c.job.rules ≤ 15
  pub bound : c.job.bound ≤ 3
  pub start : (c.start ≡ []) ⊎ Allowed c.job.n (pairs_of c.pairs) c.start
  pub pairs : PairsPass c.job.n c.pairs
  pub pool : 1 ≤ records_in c.pool
  pub whole : length c.pool % record_words ≡ 0

-- the first cause does not apply, and neither does a later one
pub none_first : (b : Bool) (number later : ℕ) → or_later b (suc number) later ≡ 0 → T (not b) × (later ≡ 0)
none_first true number later e = absurd (omega arith)
none_first false number later e = (tt, e)

start-given : (n : ℕ) (x : List ℕ) → T (is_empty x || is_order n x) → (x ≡ []) ⊎ Order n x
start-given n [] h = inl refl
start-given n (s ∷ x) h = inr (is_order_order n (s ∷ x) h)

positive : (k : ℕ) → T (not (eqb k 0)) → 1 ≤ k
positive k h = let e : k ≢ 0 = neq k 0 h in omega arith

-- no element has what none has
pub none_found : (test : ℕ → Bool) (l : List ℕ) → T (not (any test l)) → (w : ℕ) → In w l → T (not (test w))
none_found test l h w m = not_T (test w) (λ k. T_not (any test l) h (in_any test l w m k))

-- what each check lets pass
module _ (n : ℕ) (table : List ℕ) where
  stops_pass : T (not (cause₁ n)) → (1 ≤ n) × (n ≤ most_stops)
  unfolding cause₁
  stops_pass h = let (p, q) = not_either (eqb n 0) (ltb most_stops n) h in (positive n p, nltb→le most_stops n q)

  table_square : T (not (cause₂ n table)) → length table ≡ suc n * suc n
  unfolding cause₂
  table_square h = let area : ℕ = suc n * suc n in eqb→eq (length table) area (twice_not (eqb (length table) area) h)

  abbrev dear : ℕ → Bool
  dear j = ltb dearest_charge (charge n table j)

  numbers_pass : T (not (cause₃ n table)) → T (not (any (ltb dearest_leg) table)) × T (not (any dear (from 0 (suc n))))
  unfolding cause₃
  numbers_pass h = not_either (any (ltb dearest_leg) table) (any dear (from 0 (suc n))) h

  pub legs_pass : T (not (cause₃ n table)) → (w : ℕ) → In w table → w ≤ dearest_leg
  legs_pass h w m = nltb→le dearest_leg w (none_found (ltb dearest_leg) table (numbers_pass h).0 w m)

  pub charges_pass : T (not (cause₃ n table)) → (j : ℕ) → j ≤ n → charge n table j ≤ dearest_charge
  charges_pass h j k =
      nltb→le dearest_charge (charge n table j)
      (none_found dear (from 0 (suc n)) (numbers_pass h).1 j (from_in 0 (suc n) j (omega arith) (omega arith)))

pub bound_passes : (bound : ℕ) → T (not (no_such_bound bound)) → bound ≤ 3
unfolding no_such_bound
bound_passes bound h = nltb→le 3 bound h

pub choices_pass : (job : Job) → T (not (cause₄ job)) → (job.selection ≤ 3) × (job.rules ≤ 15) × (job.bound ≤ 3)
unfolding cause₄
choices_pass job h =
    let (p, q) = not_either (ltb 3 job.selection || ltb 15 job.rules) (no_such_bound job.bound) h in
    let (r, s) = not_either (ltb 3 job.selection) (ltb 15 job.rules) p in
    (nltb→le 3 job.selection r, nltb→le 15 job.rules s, bound_passes job.bound q)

pub start_passes : (n : ℕ) (x : List ℕ) → T (not (cause₅ n x)) → (x ≡ []) ⊎ Order n x
unfolding cause₅
start_passes n x h = start-given n x (twice_not (is_empty x || is_order n x) h)

pub pairs_pass : (n : ℕ) (bytes : List ℕ) → T (not (cause₁₁ n bytes)) → PairsPass n bytes
unfolding cause₁₁
pairs_pass n bytes h =
    let only = all (flown (stops n)) bytes in
    let once = all (λ s. eqb (count s bytes) 1) bytes in
    let (p, o) = not_either (eqb (length bytes % 2) 1 || ltb most_pair_bytes (length bytes) || not only) (not once) h in
    let (q, m) = not_either (eqb (length bytes % 2) 1 || ltb most_pair_bytes (length bytes)) (not only) p in
    let (w, f) = not_either (eqb (length bytes % 2) 1) (ltb most_pair_bytes (length bytes)) q in
    record {
      whole = even (length bytes) (neq (length bytes % 2) 1 w);
      few = nltb→le most_pair_bytes (length bytes) f;
      only = λ s i. in_stops n s (flown_in (stops n) s (all_in (flown (stops n)) bytes (twice_not only m) s i));
      once =
          count-distinct bytes
          (λ s i. let e : count s bytes ≡ 1 = eqb→eq (count s bytes) 1 (all_in (λ r. eqb (count r bytes) 1) bytes (twice_not once o) s i) in omega arith);
    }
  where
    even : (k : ℕ) → k % 2 ≢ 1 → k % 2 ≡ 0
    even k h = omega (arith, h)

pub pairs_pairing : {n : ℕ} {bytes : List ℕ} → PairsPass n bytes → Pairing n (pairs_of bytes)
pairs_pairing {n} {bytes} p = file_pairing n bytes p.only p.once

pool_passes : (pool : List ℕ) → T (not (cause₆ pool)) → (1 ≤ records_in pool) × (length pool % record_words ≡ 0)
unfolding cause₆
pool_passes pool h =
    let part : ℕ = length pool % record_words in
    let (p, q) = not_either (eqb (records_in pool) 0) (not (eqb part 0)) h in
    (positive (records_in pool) p, eqb→eq part 0 (twice_not (eqb part 0) q))

-- where none of causes 1 to 3 applies, or none of 1 to 5, what is left is what comes later
pub table_passed : (n : ℕ) (table : List ℕ) (later : ℕ) → table_cause n table later ≡ 0 → TablePasses n table × (later ≡ 0)
unfolding table_cause
table_passed n table later e =
    let after₂ : ℕ = or_later (cause₃ n table) 3 later in
    let (h₁, e₁) = none_first (cause₁ n) 0 (or_later (cause₂ n table) 2 after₂) e in
    let (h₂, e₂) = none_first (cause₂ n table) 1 after₂ e₁ in
    let (h₃, e₃) = none_first (cause₃ n table) 2 later e₂ in
    let passed : TablePasses n table = record {
      some = (stops_pass n table h₁).0;
      priced = record {
        few = (stops_pass n table h₁).1;
        square = table_square n table h₂;
        legs = legs_pass n table h₃;
        charges = charges_pass n table h₃;
      };
    } in
    (passed, e₃)

-- where none of causes 1 to 4 and 11 applies to a table, a bound and pairs
pub first_passed : (n bound : ℕ) (table pairs : List ℕ) → first_cause n bound table pairs ≡ 0 → TablePasses n table × PairsPass n pairs
unfolding first_cause
first_passed n bound table pairs e =
    let (p, e₃) = table_passed n table _ e in
    let (h₄, e₄) = none_first (no_such_bound bound) 3 _ e₃ in
    (p, pairs_pass n pairs (none_first (cause₁₁ n pairs) 10 0 e₄).0)

-- a bound that there is has no cause
pub known_bound :
    (n bound : ℕ) (table pairs : List ℕ) → bound ≤ 3 → first_cause n bound table pairs ≡ table_cause n table (or_later (cause₁₁ n pairs) 11 0)
unfolding first_cause no_such_bound
known_bound n bound table pairs h = rw (le-ltb 3 bound h) refl

pub job_passed :
    (job : Job) (table order : List ℕ) (later : ℕ) → job_cause job table order later ≡ 0 → JobPasses job table order × (later ≡ 0)
unfolding job_cause
job_passed job table order later e =
    let after₄ : ℕ = or_later (cause₅ job.n order) 5 later in
    let (p, e₃) = table_passed job.n table (or_later (cause₄ job) 4 after₄) e in
    let (h₄, e₄) = none_first (cause₄ job) 3 after₄ e₃ in
    let (h₅, e₅) = none_first (cause₅ job.n order) 4 later e₄ in
    let passed : JobPasses job table order = record {
      legs = p;
      selection = (choices_pass job h₄).0;
      rules = (choices_pass job h₄).1;
      bound = (choices_pass job h₄).2;
      start = start_passes job.n order h₅;
    } in
    (passed, e₅)

pub no_cause_5 : (job : Job) (table order : List ℕ) → job_cause job table order 0 ≡ 0 → cause₅ job.n order ≡ false
unfolding job_cause
no_cause_5 job table order e =
    let (p, e₃) = table_passed job.n table (or_later (cause₄ job) 4 (or_later (cause₅ job.n order) 5 0)) e in
    let (h₄, e₄) = none_first (cause₄ job) 3 (or_later (cause₅ job.n order) 5 0) e₃ in
    to_false (cause₅ job.n order) (none_first (cause₅ job.n order) 4 0 e₄).0

-- where the pairs have no cause, they pass and the starting order respects them
pair_passed :
    (n : ℕ) (start pairs : List ℕ) (later : ℕ) → pair_cause n start pairs later ≡ 0
    → PairsPass n pairs × T (respects (pairs_of pairs) start) × (later ≡ 0)
unfolding pair_cause against_pairs
pair_passed n start pairs later e =
    let (h₅, e₅) = none_first (not (cause₁₁ n pairs) && not (respects (pairs_of pairs) start)) 4 _ e in
    let (h₁₁, e₁₁) = none_first (cause₁₁ n pairs) 10 later e₅ in
    (pairs_pass n pairs h₁₁, kept (cause₁₁ n pairs) (respects (pairs_of pairs) start) h₁₁ h₅, e₁₁)
  where
    kept : (a b : Bool) → T (not a) → T (not (not a && not b)) → T b
    kept true b h k = absurd h
    kept false true h k = tt
    kept false false h k = absurd k

-- what holds of a starting order, if there is one, in other words
pub start_too : {A B : Type 0} {x : List ℕ} → (A → B) → (x ≡ []) ⊎ A → (x ≡ []) ⊎ B
start_too f (inl e) = inl e
start_too f (inr a) = inr (f a)

pub passes : (c : Call) → cause c ≡ 0 → Passes c
unfolding cause pool_cause
passes c e =
    let (p, e₅) = job_passed c.job c.table c.start (pair_cause c.job.n c.start c.pairs (pool_cause c.pool)) e in
    let (q, r, e₁₁) = pair_passed c.job.n c.start c.pairs (pool_cause c.pool) e₅ in
    let (h₆, e₆) = none_first (cause₆ c.pool) 5 0 e₁₁ in
    record {
      some = p.legs.some;
      priced = p.legs.priced;
      selection = p.selection;
      rules = p.rules;
      bound = p.bound;
      start = start_too (λ o. record { order = o; respected = r }) p.start;
      pairs = q;
      pool = (pool_passes c.pool h₆).0;
      whole = (pool_passes c.pool h₆).1;
    }
