-- The counts of a run agree: at every state that is reached from the start, each generated node was branched, was eliminated, or is
-- active; and `most` is at least the number of active nodes, and at least one.
use mathlib.Core.Path.{◌≡◌, refl}
use mathlib.Core.Bool.{Bool}
use mathlib.Core.List.{List, [], ◌∷◌}
use mathlib.Core.Option.{Option}
use Prim.Native.Nat.{ℕ, suc, ◌+◌, ◌≤◌}
use native.Mathlib.Omega.{arith}
use lib.ListN.{length, length-append}
use Rattle.lists.proofs.Numbers.{keep_parts}
use Rattle.search.specs.Problem.{State, upper, start}
use Rattle.search.specs.Step.{lost}
use Rattle.search.proofs.General.{Tree, Plan, Cut, taken, over, kids, learnt, kids₃, others₃, kids₄, kids₅, others₆, move, Reached}
use Rattle.search.proofs.Laws.{Adds}
use Rattle.search.proofs.Pick.{picked_of, picked_length}
use Rattle.search.proofs.Verdict.{reached_keeps}

pub record Agree {N : Type 0} (s : State N) : Type 0 where
  pub all : s.generated ≡ length s.branched + s.eliminated + length s.active
  pub peak : length s.active ≤ s.most
  pub some : 1 ≤ s.most

module _ {N : Type 0} (t : Tree N) (p : Plan N) (c : Cut N) (adds : Adds t) where
  -- Each part of a step loses what it does not leave, and dead children are generated and eliminated.
  move_agrees : (s : State N) (b : N) (rest : List N) → length s.active ≡ suc (length rest) → Agree s → Agree (move t p c s b rest)
  unfolding move others₆ kids₅ kids₄ others₃ kids₃ kids
  move_agrees s b rest size h = record {
    all = omega (
      arith,
      adds b (s.generated + length (kids t p c s b rest)),
      adds b
          (s.eliminated + lost rule1 (kids t p c s b rest) + lost rule1 rest + lost rule2 (kids₃ t p c s b rest)
          + lost rule4 (kids₄ t p c s b rest) + lost rule8 (others₃ t p c s b rest)),
      keep_parts rule1 (kids t p c s b rest),
      keep_parts rule1 rest,
      keep_parts rule2 (kids₃ t p c s b rest),
      keep_parts rule4 (kids₄ t p c s b rest),
      keep_parts rule8 (others₃ t p c s b rest),
      length-append (others₆ t p c s b rest) (kids₅ t p c s b rest),
      length-append s.branched (b ∷ []),
    );
    peak = omega arith;
    some = omega arith;
  }
    where
      rule1 : N → Bool
      rule1 = over c (upper t.problem (learnt t p c s b rest))

      rule2 : N → Bool
      rule2 = taken t.problem p.rule2 (others₃ t p c s b rest)

      rule4 : N → Bool
      rule4 = taken t.problem p.rule4 s.branched

      rule8 : N → Bool
      rule8 = taken t.problem p.rule8 (kids₅ t p c s b rest)

  pub counts_agree : (pool : ℕ) (best : Option N) {s : State N} → Reached t p c pool (start t.problem best) s → Agree s
  unfolding start
  counts_agree pool best r =
      reached_keeps t p c pool Agree
      (λ s b rest e goes h. move_agrees s b rest (picked_length (picked_of p.rank p.late s.active b rest e)) h) r
      (record { all = refl; peak = omega arith; some = omega arith })
