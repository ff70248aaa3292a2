-- Partial orders: nodes in which no stop stands twice and that hold nothing but 1 to n. They are just the nodes reached from e, they
-- are made from e by one stop after another (`partial_made`), their size is their length, and with what they leave they are all stops
-- (`partial_sum`).
use mathlib.Core.Path.{◌≡◌, refl, ap, sym, ◌∙◌, subst}
use mathlib.Core.List.Memᴰ
use mathlib.Core.List.{List, [], ◌∷◌, ◌++◌, append-nil, append_assoc}
use mathlib.Core.Logic.{◌⊎◌, inl, inr}
use Prim.Native.Nat.{ℕ, ◌+◌, ◌≤◌}
use native.Mathlib.Omega.{arith}
use lib.Dec.{T_not, not_T}
use lib.ListN.{length, length-append}
use Rattle.lists.specs.Lists.{In, keep, sum, none, more}
use Rattle.lists.proofs.Members.{in_head, in_keep, keep_in, distinct-keep, distinct_from}
use Rattle.lists.proofs.Empty.{no_members}
use Rattle.lists.proofs.Distinct.{distinct_append, append_apart, distinct-front, sum_members}
use Rattle.lists.proofs.Numbers.{sum_parts}
use Rattle.search.specs.Problem.{Problem}
use Rattle.search.proofs.Laws.{Leads, stay, down}
use Rattle.orders.specs.Orders.{Partial, Node, stops, flown, set_of, left, size, extend, extensions}
use Rattle.orders.proofs.Sets.{stops_in_lem, in_flown, flown_in, in_set, in_left, left_in, size-extend, in_extensions}

pub partial_root : (n : ℕ) → Partial n []
partial_root n = record { once = none; only = λ s m. absurd (Memᴰ.not-nil m) }

pub partial_extend : (n : ℕ) (x : Node) (s : ℕ) → Partial n x → In s (left n x) → Partial n (extend x s)
partial_extend n x s p m = record {
  once = distinct_append p.once (more Memᴰ.not-nil none) (λ r i j. new (subst (λ (t : ℕ). In t x) (Memᴰ.eq_of_singleton j) i));
  only = λ r i. go r (Memᴰ.append_cases x i);
}
  where
    new : In s x → ⊥
    new i = T_not (flown x s) (in_left n x s m).2 (in_flown x s i)

    go : (r : ℕ) → In r x ⊎ In r (s ∷ []) → (1 ≤ r) × (r ≤ n)
    go r (inl i) = p.only r i
    go r (inr i) = let h = in_left n x s m in rw (Memᴰ.eq_of_singleton i) (h.0, h.1)

pub partial_child : (n : ℕ) (x c : Node) → Partial n x → In c (extensions n x) → Partial n c
partial_child n x c p m = let (s, i, e) = in_extensions n x c m in subst (Partial n) (sym e) (partial_extend n x s p i)

-- the first part of a partial order is one; and what is flown next is left before
pub partial_front : (n : ℕ) (y z : Node) → Partial n (y ++ z) → Partial n y
partial_front n y z p = record { once = distinct-front y z p.once; only = λ s m. p.only s (Memᴰ.append_left z m) }

pub next-left : (n : ℕ) (y : Node) (s : ℕ) (z : Node) → Partial n (y ++ (s ∷ z)) → In s (left n y)
next-left n y s z p =
    let h : (1 ≤ s) × (s ≤ n) = p.only s (Memᴰ.append_right y in_head) in
    left_in n y s h.0 h.1 (not_T (flown y s) (λ f. append_apart y (s ∷ z) p.once s (flown_in y s f) in_head))

-- What holds of e, and of a node extended by a stop that it leaves if it holds of the node, holds of every partial order: the
-- stops of x are flown one by one, from the part y that is flown to the part z that is not. A stop of z is not in y, since y and z
-- share none.
module _ (n : ℕ) (Q : Node → Type 0) (root : Q []) (step : (x : Node) (s : ℕ) → Q x → In s (left n x) → Q (extend x s)) where
  made-from : (y z : Node) → Partial n (y ++ z) → Q y → Q (y ++ z)
  made-from y [] p q = subst Q (sym (append-nil y)) q
  made-from y (s ∷ z) p q = subst Q joined (made-from (extend y s) z (subst (Partial n) (sym joined) p) (step y s q (next-left n y s z p)))
    where
      joined : extend y s ++ z ≡ y ++ (s ∷ z)
      joined = append_assoc y (s ∷ []) z

  pub partial_made : (x : Node) → Partial n x → Q x
  partial_made x p = made-from [] x p root

-- sizes
size_root : (n : ℕ) → size n [] ≡ 0
unfolding size flown
size_root n = ap length (no_members (set_of n []) (λ s m. (in_set n [] s m).2))

pub partial_size : (n : ℕ) (x : Node) → Partial n x → size n x ≡ length x
partial_size n =
    partial_made n (λ x. size n x ≡ length x) (size_root n) (λ x s e m. omega (arith, size-extend n x s m, length-append x (s ∷ [])))

-- a sum over the stops flown and over those left is one over all stops
pub partial_sum : (n : ℕ) (f : ℕ → ℕ) (x : Node) → Partial n x → sum f x + sum f (left n x) ≡ sum f (stops n)
unfolding left
partial_sum n f x p = omega (arith, sum_parts f (flown x) (stops n), sum_members f p.once kept (distinct-keep (flown x) (distinct_from 1 n)) there back)
  where
    kept : List ℕ
    kept = keep (flown x) (stops n)

    there : (s : ℕ) → In s x → In s kept
    there s m = let h = p.only s m in keep_in (flown x) (stops n) s (stops_in_lem n s h.0 h.1) (in_flown x s m)

    back : (s : ℕ) → In s kept → In s x
    back s m = flown_in x s (in_keep (flown x) (stops n) s m).1

-- the nodes reached from e: a node each of whose stops is flown to by a child; and partial orders alone, where children are extensions
module _ {P : Problem Node} (x : Node) (next : (y : Node) (s : ℕ) (z : Node) → y ++ (s ∷ z) ≡ x → In (extend y s) (P.children y)) where
  flown_leads : (y z : Node) → y ++ z ≡ x → Leads P y x
  flown_leads y [] e = subst (Leads P y) (sym (append-nil y) ∙ e) stay
  flown_leads y (s ∷ z) e = down (next y s z e) (flown_leads (extend y s) z (append_assoc y (s ∷ []) z ∙ e))

  pub stops_lead : Leads P [] x
  stops_lead = flown_leads [] x refl

module _ (n : ℕ) (P : Problem Node) (kids : (x c : Node) → In c (P.children x) → In c (extensions n x)) where
  pub leads_partial : {x y : Node} → Leads P x y → Partial n x → Partial n y
  leads_partial stay p = p
  leads_partial (down {x} {c} m l) p = leads_partial l (partial_child n x c p (kids x c m))
