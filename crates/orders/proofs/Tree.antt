-- The tree of partial orders, for any problem whose children are some of a node's extensions and whose completeness is that of this crate, whatever
-- its costs and its dominance: sizes rise by one up to n, where just the complete nodes stand; a complete node leaves no stop; a node weighs more than its
-- children together; and with more stops there are no fewer nodes (`nodes_rise`).
use mathlib.Core.Path.{◌≡◌, ap, sym, ◌∙◌, subst}
use mathlib.Core.List.Memᴰ
use mathlib.Core.List.{List, [], ◌∷◌}
use mathlib.Core.Logic.{◌⊎◌, inl, inr}
use Prim.Native.Nat.{ℕ, zero, suc, ◌+◌, ◌*◌, ◌-◌, ◌≤◌, ◌<◌}
use native.Mathlib.Nat.{suc-mul}
use native.Mathlib.Omega.{arith}
use lib.Dec.{T, eqb, eqb→eq, eqb_refl}
use lib.ListN.{length}
use Rattle.lists.specs.Lists.{In, sum, same}
use Rattle.lists.proofs.Tests.{to_true, to_false, ne_neqb, ordered}
use Rattle.lists.proofs.Empty.{in_nonempty, no_members}
use Rattle.lists.proofs.Numbers.{sum_same, sum_const, sum-map}
use Rattle.search.specs.Problem.{Problem}
use Rattle.search.proofs.Laws.{Sized, Weighs}
use Rattle.orders.specs.Orders.{Node, flown, left, last, size, complete, extend, extensions, nodes}
use Rattle.orders.proofs.Sets.{left_in, size-left, last_of_some, size-extend, in_extensions}

-- complete nodes
pub complete-size : (n : ℕ) (x : Node) → T (complete n x) → size n x ≡ n
unfolding complete
complete-size n x h = eqb→eq (size n x) n h

pub size-complete : (n : ℕ) (x : Node) → size n x ≡ n → T (complete n x)
unfolding complete
size-complete n x e = rw e (eqb_refl n)

pub complete-left : (n : ℕ) (x : Node) → T (complete n x) → left n x ≡ []
complete-left n x h = no_members (left n x) (λ s m. omega (arith, in_nonempty m, size-left n x, complete-size n x h))

pub left-complete : (n : ℕ) (x : Node) → left n x ≡ [] → T (complete n x)
left-complete n x e = size-complete n x (omega (arith, size-left n x, ap length e))

-- it ends at a stop, where there are stops
pub last-flown : (n : ℕ) → 1 ≤ n → (x : Node) → T (complete n x) → In (last x) x
unfolding flown
last-flown n some [] whole =
    absurd (Memᴰ.not-nil (subst (λ (l : List ℕ). In 1 l) (complete-left n [] whole) (left_in n [] 1 (omega arith) some tt)))
last-flown n some (s ∷ x) whole = last_of_some s x

-- the same as a test
pub complete_empty : (n : ℕ) (x : Node) → complete n x ≡ same (left n x) []
unfolding complete
complete_empty n x = go (left n x) (size-left n x)
  where
    go : (rest : List ℕ) → size n x + length rest ≡ n → eqb (size n x) n ≡ same rest []
    go [] e = to_true (eqb (size n x) n) (let h : size n x ≡ n = omega arith in rw h (eqb_refl n))
    go (r ∷ rs) e = to_false (eqb (size n x) n) (ne_neqb (size n x) n (omega arith))

-- sizes and weights
child_size : (n : ℕ) (x c : Node) → In c (extensions n x) → size n c ≡ suc (size n x)
child_size n x c m = let (s, i, e) = in_extensions n x c m in ap (size n) e ∙ size-extend n x s i

nodes_below : (m : ℕ) → m * nodes (m - 1) < nodes m
nodes_below zero = omega arith
nodes_below (suc m) = let e : suc m - 1 ≡ m = omega arith in rw e (omega arith)

-- more stops, more nodes
pub nodes_rise : (j m : ℕ) → j ≤ m → nodes j ≤ nodes m
nodes_rise j zero h = let e : j ≡ 0 = omega arith in rw e (omega arith)
nodes_rise j (suc m) h = cases (ordered j m) (nodes_rise j m)
  where
    cases : (j ≤ m) ⊎ (m < j) → (j ≤ m → nodes j ≤ nodes m) → nodes j ≤ nodes (suc m)
    cases (inl low) again = omega (arith, again low, suc-mul m (nodes m))
    cases (inr high) again = let e : j ≡ suc m = omega arith in rw e (omega arith)

extensions_weigh : (n : ℕ) (x : Node) → sum (λ y. nodes (n - size n y)) (extensions n x) ≡ length (left n x) * nodes (length (left n x) - 1)
unfolding extensions
extensions_weigh n x =
    sum-map (extend x) (λ y. nodes (n - size n y)) (left n x)
    ∙ sum_same (λ s. nodes (n - size n (extend x s))) (λ s. nodes (length (left n x) - 1)) (left n x) (λ s m. ap nodes (go s m))
    ∙ sum_const (nodes (length (left n x) - 1)) (left n x)
  where
    go : (s : ℕ) → In s (left n x) → n - size n (extend x s) ≡ length (left n x) - 1
    go s m = omega (arith, size-extend n x s m, size-left n x)

module _
    (n : ℕ) (P : Problem Node) (kids : (x c : Node) → In c (P.children x) → In c (extensions n x))
    (few : (f : Node → ℕ) (x : Node) → sum f (P.children x) ≤ sum f (extensions n x)) (whole : (x : Node) → P.complete x ≡ complete n x)
  where
    pub tree-sized : Sized P (size n) n
    tree-sized = record {
      small = λ x. omega (arith, size-left n x);
      child = λ x c m. child_size n x c (kids x c m);
      whole = λ x h. let e : size n x ≡ n = complete-size n x (subst T (whole x) h) in omega arith;
      full = λ x h. subst T (sym (whole x)) (size-complete n x (omega (arith, size-left n x)));
    }

    pub tree_weighs : Weighs P (λ x. nodes (n - size n x))
    tree_weighs x =
        let e : n - size n x ≡ length (left n x) = omega (arith, size-left n x) in
        rw e (omega (arith, few (λ y. nodes (n - size n y)) x, extensions_weigh n x, nodes_below (length (left n x))))
