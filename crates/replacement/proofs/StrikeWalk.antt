-- A walk along a chain that strikes records out.
--   last_none                behind the last number with some value, none has it
--   Striking, striking_starts, striking_again    the walk's invariant
use mathlib.Core.Path.{◌≡◌, refl, ap, sym, ◌∙◌}
use mathlib.Core.Bool.{Bool, true, false, cond}
use mathlib.Core.List.{List}
use mathlib.Core.Logic.{◌⊎◌, inl, inr, ◌≢◌}
use Prim.Native.Nat.{ℕ, zero, suc, ◌+◌, ◌-◌, ◌≤◌, ◌<◌}
use native.Mathlib.Omega.{arith}
use mir.Val.{bool_byte}
use lib.Dec.{T, eqb, not_T}
use lib.ListN.{length, get_or, length-set}
use lib.Seq.{get_or-set_same, get_or-set_other}
use Rattle.lists.proofs.Tests.{compared, ordered, equal_eqb, to_false}
use Rattle.stops.specs.Code.{empty_record}
use Rattle.stops.specs.declared.node_record.Record.{Record}
use Rattle.lanes.specs.Sizes.{heads, active_heads}
use Rattle.lanes.specs.Code.{sized, live_of}
use Rattle.lanes.specs.declared.layout.Layout.{Layout}
use Rattle.lanes.specs.Layouts.{active_lane}
use Rattle.chains.specs.Code.{bucket_of, last_with, key_at, Walkable}
use Rattle.chains.proofs.WalkLaws.{last_below, last_kin}
use Rattle.chains.proofs.ChainLaws.{place-front}
use Rattle.replacement.specs.Code.{struck}
use Rattle.replacement.proofs.StrikeLaws.{struck_spared, struck_alike, StruckAt, struck-count}

-- behind the last number with some value, none has it
last_none : (g : ℕ → ℕ) (h k j : ℕ) → last_with g h k ≤ j → j < k → g j ≢ h
unfolding last_with
last_none g h zero j low below = absurd (omega arith)
last_none g h (suc k) j low below = go (eqb (g k) h) refl (compared j k) (last_none g h k j) low
  where
    go :
        (b : Bool) → eqb (g k) h ≡ b → (j ≡ k) ⊎ (j ≢ k) → (last_with g h k ≤ j → j < k → g j ≢ h)
        → cond b (suc k) (last_with g h k) ≤ j → g j ≢ h
    go true e c before low' = absurd (omega arith)
    go false e (inl s) before low' = λ same. rw e at (equal_eqb (g k) h (rw s at same))
    go false e (inr n) before low' = before low' (omega arith)

-- a walk over the first records of the pool, along the chain of bucket h if they are linked, that stands at c: those from c on that pass the
-- test are struck out, and those before it are as they were
pub record Striking (test : Record → Bool) (h : ℕ) (p : Layout) (recs recs' : List Record) (lost c : ℕ) : Type 0 where
  pub same_length : length recs' ≡ length recs
  pub below : c ≤ p.used
  pub kin : T p.linked → (j : ℕ) → c ≡ suc j → key_at recs 0 j ≡ h
  pub before : (j : ℕ) → j < c → get_or recs' j empty_record ≡ get_or recs j empty_record
  pub each : (j : ℕ) → c ≤ j → j < p.used → get_or recs' j empty_record ≡ struck test (get_or recs j empty_record)
  pub behind : (j : ℕ) → p.used ≤ j → get_or recs' j empty_record ≡ get_or recs j empty_record
  pub count : lost + length (live_of p.used recs') ≡ length (live_of p.used recs)

-- for a test that only records of bucket h pass
module _
    (test : Record → Bool) (h : ℕ) (p : Layout) (recs : List Record) (index : List ℕ) (fine : Walkable recs (active_lane p) index)
    (inside : p.used ≤ length recs) (only : (x : Record) → T (test x) → bucket_of x ≡ h)
  where
    -- where a walk over the first k records goes on: at r, and none between passes the test
    record Next (k r : ℕ) : Type 0 where
      low : r ≤ k
      kin : T p.linked → (j : ℕ) → r ≡ suc j → key_at recs 0 j ≡ h
      spared : (j : ℕ) → r ≤ j → j < k → get_or recs j empty_record ≡ struck test (get_or recs j empty_record)

    next : (k r link : ℕ) → r ≡ cond p.linked link k → (T p.linked → link ≡ last_with (key_at recs 0) h k) → Next k r
    next k r link e linked = go p.linked refl e
      where
        key : (j : ℕ) → key_at recs 0 j ≡ bucket_of (sized (get_or recs j empty_record))
        key j = rw (place-front 0 j refl)

        go : (b : Bool) → p.linked ≡ b → r ≡ cond b link k → Next k r
        go true l e' =
            let there : r ≡ last_with (key_at recs 0) h k = e' ∙ linked (rw l tt) in
            record {
              low = rw there (last_below (key_at recs 0) h k);
              kin = λ t j n. last_kin (key_at recs 0) h k j (sym there ∙ n);
              spared = λ j a b.
                  let x = get_or recs j empty_record in
                  let other = last_none (key_at recs 0) h k j (rw (← there) a) b in
                  sym (struck_spared test x (to_false (test (sized x)) (not_T (test (sized x)) (λ t. other (key j ∙ only (sized x) t)))));
            }
        go false l e' = record { low = omega arith; kin = λ t. absurd (rw l at t); spared = λ j a b. absurd (omega arith) }

    pub striking_starts :
        h < heads → (r : ℕ) → r ≡ cond p.linked (get_or index (active_heads + h) 0) p.used → Striking test h p recs recs 0 r
    striking_starts small r e =
        let n = next p.used r (get_or index (active_heads + h) 0) e (λ on. (fine.chains on).tops h small) in
        record {
          same_length = refl;
          below = n.low;
          kin = n.kin;
          before = λ j l. refl;
          each = n.spared;
          behind = λ j l. refl;
          count = omega arith;
        }

    module _ {recs' : List Record} {lost c : ℕ} (s : Striking test h p recs recs' lost c) (some : c ≢ 0) where
      pub striking_again :
          {recs'' : List Record} {n : Bool} {r : ℕ} → StruckAt test recs' (c - 1) recs'' n
          → r ≡ cond p.linked (get_or recs'' (c - 1) empty_record).size (c - 1) → Striking test h p recs recs'' (lost + bool_byte n) r × (r < c)
      striking_again {recs''} {n} {r} (stored, less) e = (
        record {
          same_length = rw stored (length-set recs' i y ∙ s.same_length);
          below = omega (arith, s.below, step.low);
          kin = step.kin;
          before = λ j l. elsewhere j (λ q. omega (arith, step.low)) ∙ s.before j (omega (arith, step.low));
          each = λ j a b. struck_at j (compared j i) a b;
          behind = λ j l. elsewhere j (λ q. omega (arith, s.below)) ∙ s.behind j l;
          count = omega (arith, s.count, counted);
        },
        omega (arith, step.low),
      )
        where
          i : ℕ
          i = c - 1

          x : Record
          x = get_or recs' i empty_record

          y : Record
          y = struck test x

          low : i < p.used
          low = omega (arith, s.below)

          was : x ≡ get_or recs i empty_record
          was = s.before i (omega arith)

          here : get_or recs'' i empty_record ≡ y
          here = rw stored (get_or-set_same recs' i y empty_record (omega (arith, s.same_length)))

          elsewhere : (j : ℕ) → j ≢ i → get_or recs'' j empty_record ≡ get_or recs' j empty_record
          elsewhere j d = rw stored (get_or-set_other recs' i j y empty_record d)

          counted : bool_byte n + length (live_of p.used recs'') ≡ length (live_of p.used recs')
          counted = struck-count test recs' recs'' p.used i n low (omega (arith, s.same_length)) (stored, less)

          -- its link is as it was: to the last record before it of its bucket
          link : T p.linked → (get_or recs'' i empty_record).size ≡ last_with (key_at recs 0) h i
          link on =
              ap (λ (z : Record). z.size) here ∙ (struck_alike test x).same_size ∙ ap (λ (z : Record). z.size) was
              ∙ ap (λ (j : ℕ). (get_or recs j empty_record).size) (sym (place-front 0 i refl)) ∙ (fine.chains on).links i low
              ∙ ap (λ (k : ℕ). last_with (key_at recs 0) k i) (s.kin on i (omega arith))

          step : Next i r
          step = next i r (get_or recs'' i empty_record).size e link

          struck_at :
              (j : ℕ) → (j ≡ i) ⊎ (j ≢ i) → r ≤ j → j < p.used → get_or recs'' j empty_record ≡ struck test (get_or recs j empty_record)
          struck_at j (inl q) a b = rw q (here ∙ ap (struck test) was)
          struck_at j (inr d) a b = go (ordered j i)
            where
              go : (j ≤ i) ⊎ (i < j) → get_or recs'' j empty_record ≡ struck test (get_or recs j empty_record)
              go (inl l) = elsewhere j d ∙ s.before j (omega arith) ∙ step.spared j a (omega arith)
              go (inr l) = elsewhere j d ∙ s.each j (omega arith) b
