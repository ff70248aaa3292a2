-- The laws of a day and its reckoning (`Walk`), and what follows from them: all that `search` asks of a problem, a bound and two bounds.
--   alike_size                     nodes of one set at one place
--   walk_lawful                    the laws of a tree: orders of equal cost are compared by a total order, and dominance is sound and transitive
--   bound_exact, walk_bound        the laws of a bound: it never falls, is the cost of an order, and is fair to dominance
--   walk_closer                    a closer bound is at least the other
--   day_weighs                     a node weighs more than its children together, so that a run ends
--   day_solvable                   where every order is cheaper than "above every cost", one that respects the pairs is known to be
--   problem-same                   of the pairs only which there are plays a part
-- A node's like has the same set, is at the same place and has no more path cost and, at the same path cost, no larger order (request A.8): whatever
-- completes the one completes the other, at the same further cost. Nodes of the tree that have one set have one length, so that the same stops
-- behind both leave the smaller order the smaller.
use mathlib.Core.Path.{◌≡◌, refl, sym, ap, ◌∙◌, subst}
use mathlib.Core.List.{List, [], ◌∷◌}
use mathlib.Core.Logic.{◌⊎◌, inl, inr, ◌↔◌}
use mathlib.Core.Option.{Option, some}
use Prim.Native.Nat.{ℕ, ◌+◌, ◌-◌, ◌≤◌, ◌<◌}
use native.Mathlib.Omega.{arith}
use lib.Dec.{T, eqb}
use lib.ListN.{length, length-append}
use Rattle.sizes.specs.Sizes.{above_every_cost}
use Rattle.lists.specs.Lists.{In, without, Distinct}
use Rattle.search.proofs.Laws.{Le, Ties, Leads, stay, down, Good, Lawful, BoundLaws, Weighs, Solvable}
use Rattle.search.proofs.Values.{le_trans}
use Rattle.search.proofs.Plain.{tree}
use Rattle.orders.specs.Orders.{Node, set_of, left, smaller, size, complete, extend, extensions, nodes}
use Rattle.orders.specs.Pairs.{Pair, Pairing, Allowed, ready}
use Rattle.orders.proofs.Sets.{distinct-left, left-extend, in_extensions, set_same_left, set_extend_same}
use Rattle.orders.proofs.Smaller.{one_way, through, smaller-behind}
use Rattle.orders.proofs.Tree.{complete-size, complete-left, tree-sized, tree_weighs}
use Rattle.orders.proofs.Partial.{partial_root, partial_size, leads_partial}
use Rattle.orders.proofs.Pairs.{in_children, children_in, in_ready, kids-extend, kids_few, descends, leads_allowed, children-same}
use Rattle.days.specs.Days.{Day, Closer, problem, problem_by}
use Rattle.days.specs.Code.{Reckoning}

-- w has the set of x, is where x is, and has no more path cost and, where both cost the same, no larger order
pub record Alike (n : ℕ) (D : Day) (R : Reckoning) (w x : Node) : Type 0 where
  pub stops : set_of n w ≡ set_of n x
  pub place : R.place w ≡ R.place x
  pub cheaper : D.path w ≤ D.path x
  pub tie : D.path w ≡ D.path x → T (smaller x w) → ⊥

-- The laws of a day of n stops whose bounds are 0 to most.
pub record Walk (n most : ℕ) (D : Day) (R : Reckoning) : Type 0 where
  -- e is at place 0, with no path cost
  pub path_root : D.path [] ≡ 0
  pub place_root : R.place [] ≡ 0
  -- one stop more
  pub path-extend : (x : Node) (s : ℕ) → In s (left n x) → D.path (extend x s) ≡ D.path x + R.further (R.place x) s
  pub place-extend : (x : Node) (s : ℕ) → In s (left n x) → R.place (extend x s) ≡ R.after (R.place x) s
  -- a bound is the path cost and what lies ahead; where no stop is to come that makes the cost, whichever the bound
  pub bound_ahead : (k : ℕ) → k ≤ most → (x : Node) → D.bound k x ≡ D.path x + R.ahead k (R.place x) (left n x)
  pub cost-ahead : (k : ℕ) → k ≤ most → (x : Node) → D.cost x ≡ D.path x + R.ahead k (R.place x) []
  -- a stop lowers what lies ahead by at most what it adds to the path cost
  pub ahead_grows :
      (k : ℕ) → k ≤ most → (place s : ℕ) (rest : List ℕ) → Distinct rest → In s rest
      → R.ahead k place rest ≤ R.further place s + R.ahead k (R.after place s) (without s rest)
  pub ahead_closer : (j k : ℕ) → Closer j k → (place : ℕ) (rest : List ℕ) → R.ahead k place rest ≤ R.ahead j place rest
  -- a dominator of x is like x; and what is like x is x or dominates it, but no node dominates itself
  pub dominator_alike : (w x : Node) → T (D.dominates w x) → Alike n D R w x
  pub alike_dominates : (w x : Node) → Alike n D R w x → (w ≡ x) ⊎ T (D.dominates w x)
  pub irreflexive : (x : Node) → T (D.dominates x x) → ⊥

pub alike_size : {n : ℕ} {D : Day} {R : Reckoning} {w x : Node} → Alike n D R w x → size n w ≡ size n x
unfolding size
alike_size a = ap length a.stops

alike_trans : {n : ℕ} {D : Day} {R : Reckoning} {w x y : Node} → Alike n D R w x → Alike n D R x y → Alike n D R w y
alike_trans {w} {x} {y} a b = record {
  stops = a.stops ∙ b.stops;
  place = a.place ∙ b.place;
  cheaper = omega (arith, a.cheaper, b.cheaper);
  tie = λ e. through w x y (a.tie (omega (arith, a.cheaper, b.cheaper))) (b.tie (omega (arith, a.cheaper, b.cheaper)));
}

-- orders of equal cost are compared stop by stop
day_ties : (n : ℕ) (pairs : List Pair) (D : Day) → Ties (problem n pairs D)
unfolding problem
day_ties n pairs D = record { one_way = one_way; through = through }

module _ {n most : ℕ} {D : Day} {R : Reckoning} (walk : Walk n most D R) where
  -- both leave the same stops, so that one can be extended as the other
  alike_extend : (w x : Node) (s : ℕ) → length w ≡ length x → In s (left n x) → Alike n D R w x → Alike n D R (extend w s) (extend x s)
  alike_extend w x s long m a =
      let i : In s (left n w) = rw (set_same_left n w x a.stops) m in
      record {
        stops = set_extend_same n w x s a.stops;
        place = walk.place-extend w s i ∙ ap (λ (p : ℕ). R.after p s) a.place ∙ sym (walk.place-extend x s m);
        cheaper = rw (walk.path-extend w s i, walk.path-extend x s m, a.place) (omega (arith, a.cheaper));
        tie =
            rw (walk.path-extend w s i, walk.path-extend x s m, a.place)
            (λ e h. a.tie (omega arith) (subst T (smaller-behind x w (s ∷ []) (sym long)) h));
      }

  alike_complete : (w x : Node) → Alike n D R w x → complete n w ≡ complete n x
  unfolding complete
  alike_complete w x a = ap (λ (m : ℕ). eqb m n) (alike_size a)

  alike_bound : (k : ℕ) → k ≤ most → (w x : Node) → Alike n D R w x → D.bound k w ≤ D.bound k x
  alike_bound k h w x a =
      rw (walk.bound_ahead k h w, walk.bound_ahead k h x, a.place, set_same_left n w x a.stops) (omega (arith, a.cheaper))

  -- What is reached from x has its like among what is reached from w: a child of x is x extended by a stop that it leaves and that need not wait; w
  -- leaves the same stops, and the same need not wait; and w extended by that stop is like that child.
  leads_alike :
      (pairs : List Pair) {w x y : Node} → length w ≡ length x → Alike n D R w x → Leads (problem n pairs D) x y
      → (z : Node) × Leads (problem n pairs D) w z × Alike n D R z y
  unfolding problem
  leads_alike pairs {w} long a stay = (w, stay, a)
  leads_alike pairs {w} {x} long a (down {c} m l) =
      let (s, i, e) = in_children n pairs x c m in
      let left-too : In s (left n x) = (in_ready pairs (left n x) s i).0 in
      let k : Alike n D R (extend w s) c = subst (λ (z : Node). Alike n D R (extend w s) z) (sym e) (alike_extend w x s long left-too a) in
      let longer : length (extend w s) ≡ length c = omega (arith, length-append w (s ∷ []), length-append x (s ∷ []), ap length e) in
      let (z, j, b) = leads_alike pairs {w = extend w s} longer k l in
      (z, down (children_in n pairs w s (subst (λ (rest : List ℕ). In s (ready pairs rest)) (sym (set_same_left n w x a.stops)) i)) j, b)

  alike_le : (pairs : List Pair) (w x : Node) → Alike n D R w x → Le (problem n pairs D) (some w) (some x)
  unfolding problem
  alike_le pairs w x a =
      rw (walk.cost-ahead 0 (omega arith) w, walk.cost-ahead 0 (omega arith) x, a.place)
      (omega (arith, a.cheaper), λ e. a.tie (omega arith))

  alike_good :
      (pairs : List Pair) (v : Option Node) (w x : Node) → length w ≡ length x → Alike n D R w x → Good (problem n pairs D) v x
      → Good (problem n pairs D) v w
  unfolding problem
  alike_good pairs v w x long a g =
      let (z, l, b) = leads_alike pairs long a g.leads in
      record {
        leaf = z;
        leads = l;
        whole = rw (alike_complete z g.leaf b) g.whole;
        cheap = le_trans (day_ties n pairs D) (some z) (some g.leaf) v (alike_le pairs z g.leaf b) g.cheap;
      }

  -- a node that is reached flies as many stops as its set has
  reached_length : (pairs : List Pair) (x : Node) → Leads (problem n pairs D) [] x → size n x ≡ length x
  unfolding problem
  reached_length pairs x l = partial_size n x (leads_partial n (problem n pairs D) (kids-extend n pairs) l (partial_root n))

  pub walk_lawful : (pairs : List Pair) → 1 ≤ n → Lawful (tree (problem n pairs D)) (size n) n
  unfolding problem
  walk_lawful pairs h = record {
    sized = tree-sized n (problem n pairs D) (kids-extend n pairs) (kids_few n pairs) (λ x. refl);
    unfinished = λ t. omega (arith, complete-size n [] t, partial_size n [] (partial_root n));
    ties = day_ties n pairs D;
    swap = λ v w x lw lx d g.
        let a : Alike n D R w x = walk.dominator_alike w x d in
        alike_good pairs v w x (omega (arith, reached_length pairs w lw, reached_length pairs x lx, alike_size a)) a g;
    trans = λ w x y d e. walk.alike_dominates w y (alike_trans (walk.dominator_alike w x d) (walk.dominator_alike x y e));
    level = λ w x d. omega (arith, alike_size (walk.dominator_alike w x d));
  }

  -- bounds
  pub bound_grows : (k : ℕ) → k ≤ most → (b c : Node) → In c (extensions n b) → D.bound k b ≤ D.bound k c
  bound_grows k h b c m = let (s, i, e) = in_extensions n b c m in rw e (go s i)
    where
      go : (s : ℕ) → In s (left n b) → D.bound k b ≤ D.bound k (extend b s)
      go s i =
          rw (
            walk.bound_ahead k h b,
            walk.bound_ahead k h (extend b s),
            walk.path-extend b s i,
            walk.place-extend b s i,
            left-extend n b s,
          ) (omega (arith, walk.ahead_grows k h (R.place b) s (left n b) (distinct-left n b) i))

  pub bound_exact : (k : ℕ) → k ≤ most → (x : Node) → T (complete n x) → D.bound k x ≡ D.cost x
  bound_exact k h x t =
      walk.bound_ahead k h x
      ∙ ap (λ (rest : List ℕ). D.path x + R.ahead k (R.place x) rest) (complete-left n x t)
      ∙ sym (walk.cost-ahead k h x)

  pub walk_bound : (pairs : List Pair) (k : ℕ) → k ≤ most → BoundLaws (tree (problem n pairs D)) (D.bound k)
  unfolding problem
  walk_bound pairs k h = record {
    grows = λ b c m. bound_grows k h b c (kids-extend n pairs b c m);
    exact = bound_exact k h;
    fair = λ w x d. alike_bound k h w x (walk.dominator_alike w x d);
  }

  closer_above : (j k : ℕ) → Closer j k → k ≤ j
  closer_above j k (inl h) = omega (arith, h)
  closer_above j k (inr h) = omega (arith, h)

  pub walk_closer : (j k : ℕ) → Closer j k → j ≤ most → (x : Node) → D.bound k x ≤ D.bound j x
  walk_closer j k h i x =
      rw (walk.bound_ahead j i x, walk.bound_ahead k (omega (arith, closer_above j k h)) x)
      (omega (arith, walk.ahead_closer j k h (R.place x) (left n x)))

pub day_weighs : (n : ℕ) (pairs : List Pair) (D : Day) → Weighs (problem n pairs D) (λ x. nodes (n - size n x))
unfolding problem
day_weighs n pairs D = tree_weighs n (problem n pairs D) (kids-extend n pairs) (kids_few n pairs) (λ x. refl)

-- from e an order is reached
pub day_solvable :
    (n : ℕ) (pairs : List Pair) (D : Day) → Pairing n pairs → ((x : Node) → Allowed n pairs x → D.cost x < above_every_cost)
    → Solvable (problem n pairs D)
unfolding problem
day_solvable n pairs D ok below =
    let P = problem n pairs D in
    let (y, whole, leads) = descends ok P (λ x. refl) [] in
    (y, whole, leads, below y (leads_allowed ok P (λ x. refl) y whole leads))

pub problem-same :
    (n : ℕ) (ps qs : List Pair) (D : Day) → ((p : Pair) → In p ps ↔ In p qs) → problem n ps D ≡ problem n qs D
unfolding problem
problem-same n ps qs D same i = problem_by (λ x. children-same ps qs same n x i) n D
