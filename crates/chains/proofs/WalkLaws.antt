-- Walking along a chain.
--   sets_apart, dominates_bucket, rival_bucket   what dominates has the set of what it dominates, and its bucket
--   bucket_head                      a bucket is one of the heads
--   last_below, last_kin             the last number below k with some value is below k, and has it
--   any_more, any_found              `any` over the first k of numbered elements
--   walking                          for a test that only elements with some key pass, those behind the last one with it do not matter
--   Standing, StandingAt             a walk that stands at c has passed no element that passes the test; in a lane
--   place_inside                     the records of a lane are in the pool
--   standing_top, standing_after     a walk starts at the head of a chain or at the last record, and goes on along the link or to the one before
--   standing_met, standing_end       what it says where the test is passed, or once it has ended
use mathlib.Core.Path.{◌≡◌, refl, ap, sym, ◌∙◌}
use mathlib.Core.Bool.{Bool, true, false, cond, ◌||◌, or-false}
use mathlib.Core.List.{List, map}
use mathlib.Core.Logic.{◌≢◌}
use Prim.Native.Nat.{ℕ, zero, suc, ◌+◌, ◌-◌, ◌*◌, ◌/◌, ◌%◌, ◌^◌, ◌≤◌, ◌<◌}
use native.Mathlib.Nat.{mod-lt}
use native.Mathlib.Omega.{arith}
use lib.Dec.{T, leb, eqb, eqb→eq, not_T}
use lib.ListN.{length, get_or}
use Rattle.lists.specs.Lists.{any, from}
use Rattle.lists.proofs.Keep.{any_append}
use Rattle.lists.proofs.Map.{map-from}
use Rattle.lists.proofs.Members.{in_any, map_in, from_in}
use Rattle.lists.proofs.Tests.{to_true, to_false, equal_eqb, and_right}
use Rattle.stops.specs.Code.{empty_record, last_stop, rec_dominates}
use Rattle.stops.specs.declared.node_record.Record.{Record}
use Rattle.stops.proofs.Dominance.{dominates_parts, refused}
use Rattle.lanes.specs.Sizes.{heads}
use Rattle.lanes.specs.Code.{sized, place_of, rec_at, lane_of}
use Rattle.lanes.specs.declared.Lane.{Lane}
use Rattle.chains.specs.Code.{bucket_of, last_with, key_at, Inside, Walkable, is_rival}

pub sets_apart : (y z : Record) → (y.set ≡ z.set → ⊥) → false ≡ rec_dominates y z
sets_apart y z h = refused y z (λ d. h d.set)

pub dominates_bucket : (y z : Record) → T (rec_dominates y z) → bucket_of y ≡ bucket_of z
unfolding bucket_of
dominates_bucket y z h = let d = dominates_parts y z h in rw (d.last, d.set)

pub bucket_head : (x : Record) → bucket_of x < heads
unfolding bucket_of
bucket_head x = mod-lt ((x.set + 65536 * last_stop x) % 2 ^ 32 * 2654435769 / 2 ^ 19) (omega arith)

module _ (g : ℕ → ℕ) (h : ℕ) where
  pub last_below : (k : ℕ) → last_with g h k ≤ k
  unfolding last_with
  last_below zero = omega arith
  last_below (suc k) = go (eqb (g k) h) (last_below k)
    where
      go : (b : Bool) → last_with g h k ≤ k → cond b (suc k) (last_with g h k) ≤ suc k
      go true below = omega arith
      go false below = omega arith

  pub last_kin : (k j : ℕ) → last_with g h k ≡ suc j → g j ≡ h
  unfolding last_with
  last_kin zero j e = absurd (omega arith)
  last_kin (suc k) j e = go (eqb (g k) h) refl (last_kin k j) e
    where
      go : (b : Bool) → eqb (g k) h ≡ b → (last_with g h k ≡ suc j → g j ≡ h) → cond b (suc k) (last_with g h k) ≡ suc j → g j ≡ h
      go true p before e' =
          let there : k ≡ j = omega arith in
          rw (← there) (eqb→eq (g k) h (rw p tt))
      go false p before e' = before e'

module _ {A : Type 0} (f : ℕ → A) (test : A → Bool) where
  pub any_more : (k : ℕ) → any test (map f (from 0 (suc k))) ≡ (any test (map f (from 0 k)) || test (f k))
  any_more k = ap (any test) (map-from f 0 k k (omega arith)) ∙ rw (any_append, or-false)

  pub any_found : (k j : ℕ) → j < k → test (f j) ≡ true → any test (map f (from 0 k)) ≡ true
  any_found k j below e =
      to_true (any test (map f (from 0 k))) (in_any test (map f (from 0 k)) (f j) (map_in f (from_in 0 k j (omega arith) (omega arith))) (rw e tt))

  module _ (key : A → ℕ) (h : ℕ) (only : (x : A) → T (test x) → key x ≡ h) where
    pub walking : (k : ℕ) → any test (map f (from 0 k)) ≡ any test (map f (from 0 (last_with (λ j. key (f j)) h k)))
    unfolding last_with
    walking zero = refl
    walking (suc k) = go (eqb (key (f k)) h) refl (walking k)
      where
        last : ℕ
        last = last_with (λ j. key (f j)) h k

        go :
            (b : Bool) → eqb (key (f k)) h ≡ b → any test (map f (from 0 k)) ≡ any test (map f (from 0 last))
            → any test (map f (from 0 (suc k))) ≡ any test (map f (from 0 (cond b (suc k) last)))
        go true e before = refl
        go false e before =
            let fails : test (f k) ≡ false =
            to_false (test (f k)) (not_T (test (f k)) (λ t. rw e at (equal_eqb (key (f k)) h (only (f k) t)))) in
            any_more k ∙ rw (fails, or-false) before

-- a walk over the first k of numbered elements that stands at c: none of those from c on passes the test, and along a chain, the one that it
-- stands at has the chain's key
pub record Standing {A : Type 0} (f : ℕ → A) (test : A → Bool) (key : A → ℕ) (h : ℕ) (linked : Bool) (k c : ℕ) : Type 0 where
  pub below : c ≤ k
  pub kin : T linked → (j : ℕ) → c ≡ suc j → key (f j) ≡ h
  pub same : any test (map f (from 0 k)) ≡ any test (map f (from 0 c))

-- the records of a lane stand in the pool
module _ {recs : List Record} {p : Lane} (lies : Inside recs p) where
  pub place_inside : (c : ℕ) → c ≢ 0 → c ≤ p.count → place_of p.end c < length recs
  place_inside zero some below = absurd (some refl)
  place_inside (suc j) some below = lies.inside j (omega arith)

-- walks over a lane, for a test that only records with bucket h pass
module _ (recs : List Record) (p : Lane) (test : Record → Bool) (h : ℕ) where
  abbrev pub StandingAt : ℕ → Type 0
  StandingAt c = Standing (rec_at recs p.end) test bucket_of h p.linked p.count c

  pub standing_end : (c : ℕ) → c ≡ 0 → StandingAt c → any test (lane_of recs p.end p.count) ≡ false
  standing_end c e at = at.same ∙ rw e

  pub standing_met :
      (c : ℕ) → c ≢ 0 → StandingAt c → test (sized (get_or recs (place_of p.end c) empty_record)) ≡ true
      → any test (lane_of recs p.end p.count) ≡ true
  standing_met zero some at passes = absurd (some refl)
  standing_met (suc j) some at passes = any_found (rec_at recs p.end) test p.count j at.below passes

  module _ (index : List ℕ) (fine : Walkable recs p index) (only : (x : Record) → T (test x) → bucket_of x ≡ h) where
    pub standing_top : h < heads → (r : ℕ) → r ≡ cond p.linked (get_or index (p.heads + h) 0) p.count → StandingAt r
    standing_top small r e = go p.linked refl e
      where
        go : (b : Bool) → p.linked ≡ b → r ≡ cond b (get_or index (p.heads + h) 0) p.count → StandingAt r
        go true l e' =
            let there : r ≡ last_with (key_at recs p.end) h p.count = e' ∙ (fine.chains (rw l tt)).tops h small in
            record {
              below = rw there (last_below (key_at recs p.end) h p.count);
              kin = λ t j n. last_kin (key_at recs p.end) h p.count j (sym there ∙ n);
              same = rw there (walking (rec_at recs p.end) test bucket_of h only p.count);
            }
        go false l e' = record { below = omega arith; kin = λ t. absurd (rw l at t); same = rw e' }

    pub standing_after :
        (c : ℕ) → c ≢ 0 → StandingAt c → test (sized (get_or recs (place_of p.end c) empty_record)) ≡ false
        → (r : ℕ) → r ≡ cond p.linked (get_or recs (place_of p.end c) empty_record).size (c - 1) → StandingAt r × (r < c)
    standing_after zero some at fails r e = absurd (some refl)
    standing_after (suc j) some at fails r e = go p.linked refl e
      where
        f : ℕ → Record
        f = rec_at recs p.end

        before : any test (lane_of recs p.end p.count) ≡ any test (map f (from 0 j))
        before = at.same ∙ any_more f test j ∙ rw (fails, or-false)

        go :
            (b : Bool) → p.linked ≡ b → r ≡ cond b (get_or recs (place_of p.end (suc j)) empty_record).size (suc j - 1)
            → StandingAt r × (r < suc j)
        go true l e' =
            let linked : T p.linked = rw l tt in
            let there : r ≡ last_with (key_at recs p.end) h j =
            e' ∙ (fine.chains linked).links j at.below ∙ ap (λ (k : ℕ). last_with (key_at recs p.end) k j) (at.kin linked j refl) in
            let low : r ≤ j = rw there (last_below (key_at recs p.end) h j) in (
              record {
                below = omega (arith, at.below);
                kin = λ t i n. last_kin (key_at recs p.end) h j i (sym there ∙ n);
                same = before ∙ rw there (walking f test bucket_of h only j);
              },
              omega arith,
            )
        go false l e' =
            let there : r ≡ j = omega arith in
            (record { below = omega (arith, at.below); kin = λ t. absurd (rw l at t); same = rw there before }, omega arith)

-- what rivals x has its bucket
pub rival_bucket : (limit : ℕ) (x y : Record) → T (is_rival limit x y) → bucket_of y ≡ bucket_of x
rival_bucket limit x y t = dominates_bucket y x (and_right (leb y.bound limit) (rec_dominates y x) t)
