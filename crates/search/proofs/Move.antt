-- Which nodes are active and branched after a step, and that what is known then is what was known or goes before it.
use mathlib.Core.Path.{◌≡◌}
use mathlib.Core.List.Memᴰ
use mathlib.Core.List.{List, [], ◌∷◌}
use mathlib.Core.Logic.{◌⊎◌, inl, inr}
use Rattle.lists.specs.Lists.{In}
use Rattle.lists.proofs.Members.{in_keep}
use Rattle.search.specs.Problem.{State}
use Rattle.search.proofs.General.{Tree, Plan, Cut, kids, learnt, kids₃, others₃, kids₄, kids₅, others₆, move}
use Rattle.search.proofs.Laws.{Le, Ties}
use Rattle.search.proofs.Learn.{learn_le}

module _ {N : Type 0} (t : Tree N) (p : Plan N) (c : Cut N) (s : State N) (b : N) (rest : List N) where
  in_others : (x : N) → In x (others₆ t p c s b rest) → In x rest
  unfolding others₆ others₃
  in_others x m = (in_keep _ rest x (in_keep _ (others₃ t p c s b rest) x m).0).0

  in_kids : (x : N) → In x (kids₅ t p c s b rest) → In x (t.problem.children b)
  unfolding kids₅ kids₄ kids₃ kids
  in_kids x m = (in_keep _ (kids t p c s b rest) x (in_keep _ (kids₃ t p c s b rest) x (in_keep _ (kids₄ t p c s b rest) x m).0).0).0

  pub learnt_le : Ties t.problem → Le t.problem (learnt t p c s b rest) s.best
  unfolding learnt
  learnt_le ties = learn_le ties s.best (kids t p c s b rest)

  pub branched_next : (z : N) → In z s.branched ⊎ (z ≡ b) → In z (move t p c s b rest).branched
  unfolding move
  branched_next z (inl m) = Memᴰ.append_left (b ∷ []) m
  branched_next z (inr e) = Memᴰ.append_right s.branched (Memᴰ.head e)

  pub next_branched : (z : N) → In z (move t p c s b rest).branched → In z s.branched ⊎ (z ≡ b)
  unfolding move
  next_branched z m = go (Memᴰ.append_cases s.branched m)
    where
      go : In z s.branched ⊎ In z (b ∷ []) → In z s.branched ⊎ (z ≡ b)
      go (inl k) = inl k
      go (inr k) = inr (Memᴰ.eq_of_singleton k)

  pub active_next : (x : N) → In x (others₆ t p c s b rest) ⊎ In x (kids₅ t p c s b rest) → In x (move t p c s b rest).active
  unfolding move
  active_next x (inl m) = Memᴰ.append_left (kids₅ t p c s b rest) m
  active_next x (inr m) = Memᴰ.append_right (others₆ t p c s b rest) m

  pub next_active : (x : N) → In x (move t p c s b rest).active → In x rest ⊎ In x (t.problem.children b)
  unfolding move
  next_active x m = go (Memᴰ.append_cases (others₆ t p c s b rest) m)
    where
      go : In x (others₆ t p c s b rest) ⊎ In x (kids₅ t p c s b rest) → In x rest ⊎ In x (t.problem.children b)
      go (inl k) = inl (in_others x k)
      go (inr k) = inr (in_kids x k)
