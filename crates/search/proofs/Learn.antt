-- Laws of `learn`, the search of the children for a complete node that goes before the best order known (request A.8).
--   taught, taught_cases    what is known after one child
--   learn_keeps    what holds of the best order known, and of each complete child that takes its place, holds of what is learnt
--   learn_le       what is learnt is what was known or goes before it
--   learn-least    no complete child goes before what is learnt
--   learn_known    what is known stays a complete node of the tree
use mathlib.Core.Path.{◌≡◌}
use mathlib.Core.Bool.{Bool, true, false, not, ◌&&◌}
use mathlib.Core.List.Memᴰ
use mathlib.Core.List.{List, [], ◌∷◌}
use mathlib.Core.Logic.{◌⊎◌, inl, inr}
use mathlib.Core.Option.{Option, some}
use lib.Dec.{T}
use Rattle.lists.specs.Lists.{In}
use Rattle.lists.proofs.Tests.{and_left, and_right}
use Rattle.lists.proofs.Members.{in_head}
use Rattle.search.specs.Problem.{Problem}
use Rattle.search.specs.Step.{better, replace, learn}
use Rattle.search.proofs.Laws.{Le, Ties, Leads, KnownIn, known}
use Rattle.search.proofs.Values.{better_le, not_better_le, le_refl, le_trans}

module _ {N : Type 0} (P : Problem N) where
  -- what is known after the child c
  abbrev pub taught : Option N → N → Option N
  taught best c = replace (P.complete c && better P c best) c best

  -- by cases of the child: it takes the place of what is known, or does not
  pub taught_cases :
      (Q : Option N → Type 0) (best : Option N) (c : N) → (T (P.complete c) → T (better P c best) → Q (some c)) → Q best → Q (taught best c)
  taught_cases Q best c new old =
      go (P.complete c && better P c best)
      (λ h. new (and_left (P.complete c) (better P c best) h) (and_right (P.complete c) (better P c best) h))
    where
      go : (b : Bool) → (T b → Q (some c)) → Q (replace b c best)
      go true h = h tt
      go false h = old

  pub learn_keeps :
      (Q : Option N → Type 0) (best : Option N) (cs : List N) → Q best
      → ((best : Option N) (c : N) → In c cs → T (P.complete c) → T (better P c best) → Q best → Q (some c)) → Q (learn P best cs)
  learn_keeps Q best [] old new = old
  learn_keeps Q best (c ∷ cs) old new =
      learn_keeps Q (taught best c) cs (taught_cases Q best c (λ whole first. new best c in_head whole first old) old)
      (λ best d m. new best d (Memᴰ.tail m))

  pub learn_known :
      (best : Option N) (cs : List N) → KnownIn P best → ((c : N) → In c cs → Leads P P.root c) → KnownIn P (learn P best cs)
  learn_known best cs old leads = learn_keeps (KnownIn P) best cs old (λ best c m whole first h. known c whole (leads c m))

module _ {N : Type 0} {P : Problem N} (ties : Ties P) where
  pub learn_le : (best : Option N) (cs : List N) → Le P (learn P best cs) best
  learn_le best cs =
      learn_keeps P (λ u. Le P u best) best cs (le_refl ties best)
      (λ u c m whole first h. le_trans ties (some c) u best (better_le ties c u first) h)

  taught-least : (best : Option N) (c : N) → T (P.complete c) → Le P (taught P best c) (some c)
  taught-least best c whole = go (P.complete c) (better P c best) whole (not_better_le P c best)
    where
      go : (w b : Bool) → T w → (T (not b) → Le P best (some c)) → Le P (replace (w && b) c best) (some c)
      go true true w h = le_refl ties (some c)
      go true false w h = h tt
      go false b w h = absurd w

  pub learn-least : (best : Option N) (cs : List N) (c : N) → In c cs → T (P.complete c) → Le P (learn P best cs) (some c)
  learn-least best [] c m whole = absurd (Memᴰ.not-nil m)
  learn-least best (d ∷ cs) c m whole = go (Memᴰ.cases_cons m) (λ k. learn-least (taught P best d) cs c k whole)
    where
      go :
          (c ≡ d) ⊎ In c cs → (In c cs → Le P (learn P (taught P best d) cs) (some c)) → Le P (learn P (taught P best d) cs) (some c)
      go (inl e) again =
          rw e
          (le_trans ties (learn P (taught P best d) cs) (taught P best d) (some d) (learn_le (taught P best d) cs)
          (taught-least best d (rw (← e) whole)))
      go (inr k) again = again k
