-- Pairs that are apart (`Pairing`), and what they leave of a node's children (request A.6).
--   respects_root, respects-front       e respects the pairs, and so does the first part of a node that does
--   ready-respects, children_respect    a stop need not wait if, and only if, the node with it respects the pairs; so with the children
--   child_respects                      what respects the pairs has children that do
--   ready_some, child_some              of some stops to come one need not wait; so a node that is not complete has a child
--   kids-extend, kids_few               children are extensions, and no more
--   allowed_leads, leads_allowed        the complete nodes reached from e are the orders that respect the pairs
--   descends                            from every node one of them is reached
--   in_orders_with, orders_with_in        the list of these orders
--   ready-none, no_pairs                without pairs no stop waits, and every extension is a child
--   respects-same, children-same        which pairs there are is all that counts
use mathlib.Core.Path.{◌≡◌, refl, ap, sym, ◌∙◌, subst}
use mathlib.Core.Bool.{true, not, ◌&&◌}
use mathlib.Core.List.{List, [], ◌∷◌, ◌++◌, map, append_assoc}
use mathlib.Core.Logic.{◌⊎◌, inl, inr, ◌↔◌}
use Prim.Native.Nat.{ℕ, zero, suc, ◌≤◌}
use native.Mathlib.Omega.{arith}
use lib.Dec.{T, T_not, not_T, eqb, eqb→eq, eqb_refl}
use lib.ListN.{length}
use Rattle.lists.specs.Lists.{In, keep, sum, Distinct}
use Rattle.lists.proofs.Tests.{and_left, and_right, and_both, either, same_tests, not_not}
use Rattle.lists.proofs.Members.{in_head, in_keep, keep_in, any_in, in_any, all_in, in_all, in_map, map_in, distinct-keep}
use Rattle.lists.proofs.Empty.{in_nonempty, no_members}
use Rattle.lists.proofs.Keep.{keep_same, keep_all}
use Rattle.lists.proofs.Map.{keep-map}
use Rattle.lists.proofs.Numbers.{sum-keep, sum-map}
use Rattle.search.specs.Problem.{Problem}
use Rattle.search.proofs.Laws.{Leads, stay, down}
use Rattle.orders.specs.Orders.{Node, flown, left, complete, extend, extensions, Partial, orders}
use Rattle.orders.specs.Pairs.{Pair, Pairing, before, respects, Allowed, orders_with, waits, ready, children}
use Rattle.orders.proofs.Sets.{in_flown, flown_in, in_left, left_in, size-left, size-extend, extensions_in}
use Rattle.orders.proofs.Tree.{left-complete}
use Rattle.orders.proofs.Partial.{partial_root, stops_lead, leads_partial, next-left}
use Rattle.orders.proofs.Order.{order_partial, partial_order}
use Rattle.orders.proofs.Orders.{orders_in, in_orders, distinct-orders}
use Rattle.orders.proofs.Before.{before_met, before-extend, before-front}

pub respects_root : (pairs : List Pair) → T (respects pairs [])
unfolding respects
respects_root pairs = in_all (λ p. before p.0 p.1 []) pairs (λ p m. tt)

pub respects-front : (pairs : List Pair) (y z : Node) → T (respects pairs (y ++ z)) → T (respects pairs y)
unfolding respects
respects-front pairs y z h =
    in_all (λ p. before p.0 p.1 y) pairs (λ p m. before-front p.0 p.1 y z (all_in (λ q. before q.0 q.1 (y ++ z)) pairs h p m))

-- `waits`
pub in_waits : (pairs : List Pair) (rest : List ℕ) (s : ℕ) → T (waits pairs rest s) → (p : Pair) × In p pairs × (s ≡ p.1) × In p.0 rest
unfolding waits
in_waits pairs rest s h =
    let (p, m, k) = any_in (λ p. eqb s p.1 && flown rest p.0) pairs h in
    (p, m, eqb→eq s p.1 (and_left (eqb s p.1) (flown rest p.0) k), flown_in rest p.0 (and_right (eqb s p.1) (flown rest p.0) k))

pub waits_in : (pairs : List Pair) (rest : List ℕ) (p : Pair) → In p pairs → In p.0 rest → T (waits pairs rest p.1)
unfolding waits
waits_in pairs rest p m i =
    in_any (λ q. eqb p.1 q.1 && flown rest q.0) pairs p m (and_both (eqb p.1 p.1) (flown rest p.0) (eqb_refl p.1) (in_flown rest p.0 i))

pub in_ready : (pairs : List Pair) (rest : List ℕ) (s : ℕ) → In s (ready pairs rest) → In s rest × T (not (waits pairs rest s))
unfolding ready
in_ready pairs rest s m = in_keep (λ r. not (waits pairs rest r)) rest s m

ready_in : (pairs : List Pair) (rest : List ℕ) (s : ℕ) → In s rest → T (not (waits pairs rest s)) → In s (ready pairs rest)
unfolding ready
ready_in pairs rest s m h = keep_in (λ r. not (waits pairs rest r)) rest s m h

-- children are extensions, and no more
pub in_children : (n : ℕ) (pairs : List Pair) (x c : Node) → In c (children n pairs x) → (s : ℕ) × In s (ready pairs (left n x)) × (c ≡ extend x s)
unfolding children
in_children n pairs x c m = in_map (extend x) (ready pairs (left n x)) c m

pub children_in : (n : ℕ) (pairs : List Pair) (x : Node) (s : ℕ) → In s (ready pairs (left n x)) → In (extend x s) (children n pairs x)
unfolding children
children_in n pairs x s m = map_in (extend x) m

pub kids-extend : (n : ℕ) (pairs : List Pair) (x c : Node) → In c (children n pairs x) → In c (extensions n x)
kids-extend n pairs x c m =
    let (s, i, e) = in_children n pairs x c m in
    subst (λ (y : Node). In y (extensions n x)) (sym e) (extensions_in n x s (in_ready pairs (left n x) s i).0)

pub kids_few : (n : ℕ) (pairs : List Pair) (f : Node → ℕ) (x : Node) → sum f (children n pairs x) ≤ sum f (extensions n x)
unfolding children ready extensions
kids_few n pairs f x =
    omega (
      arith,
      sum-map (extend x) f (ready pairs (left n x)),
      sum-map (extend x) f (left n x),
      sum-keep (λ s. f (extend x s)) (λ s. not (waits pairs (left n x) s)) (left n x),
    )

module _ {n : ℕ} {pairs : List Pair} (ok : Pairing n pairs) where
  -- a stop need not wait, just if the node with it respects the pairs
  pub ready-respects : (x : Node) (s : ℕ) → T (respects pairs x) → In s (left n x) → respects pairs (extend x s) ≡ not (waits pairs (left n x) s)
  unfolding respects
  ready-respects x s h m = same_tests (respects pairs (extend x s)) (not (waits pairs (left n x) s)) there back
    where
      there : T (respects pairs (extend x s)) → T (not (waits pairs (left n x) s))
      there k = not_T (waits pairs (left n x) s) (λ w. go (in_waits pairs (left n x) s w))
        where
          new : In s x → ⊥
          new i = T_not (flown x s) (in_left n x s m).2 (in_flown x s i)

          go : (p : Pair) × In p pairs × (s ≡ p.1) × In p.0 (left n x) → ⊥
          go (p, i, e, l) =
              let k' : T (before p.0 s (extend x s)) = subst (λ (r : ℕ). T (before p.0 r (extend x s))) (sym e) (all_in (λ q. before q.0 q.1 (extend x s)) pairs k p i) in
              let met : In p.0 x = before_met p.0 s x [] (λ q. ok.apart p p i i (sym e ∙ sym q)) new k' in
              T_not (flown x p.0) (in_left n x p.0 l).2 (in_flown x p.0 met)

      back : T (not (waits pairs (left n x) s)) → T (respects pairs (extend x s))
      back k =
          in_all (λ p. before p.0 p.1 (extend x s)) pairs
          (λ p i. before-extend p.0 p.1 s x (all_in (λ q. before q.0 q.1 x) pairs h p i) (met p i))
        where
          met : (p : Pair) → In p pairs → s ≡ p.1 → In p.0 x
          met p i e =
              let r = ok.only p i in
              flown_in x p.0
              (not_not (flown x p.0)
              (λ f. T_not (waits pairs (left n x) s) k (rw e (waits_in pairs (left n x) p i (left_in n x p.0 r.0 r.1 f)))))

  pub children_respect : (x : Node) → T (respects pairs x) → children n pairs x ≡ keep (respects pairs) (extensions n x)
  unfolding children ready extensions
  children_respect x h =
      sym (keep-map (extend x) (λ s. not (waits pairs (left n x) s)) (respects pairs) (left n x) (λ s m. ready-respects x s h m))

  pub child_respects : (x c : Node) → T (respects pairs x) → In c (children n pairs x) → T (respects pairs c)
  child_respects x c h m =
      let (s, i, e) = in_children n pairs x c m in
      let (l, w) = in_ready pairs (left n x) s i in
      rw (e, ready-respects x s h l) w

  -- a stop to come need not wait, or what it waits for need not
  pub ready_some : (rest : List ℕ) (s : ℕ) → In s rest → (r : ℕ) × In r (ready pairs rest)
  ready_some rest s m = go (either (waits pairs rest s))
    where
      go : T (waits pairs rest s) ⊎ T (not (waits pairs rest s)) → (r : ℕ) × In r (ready pairs rest)
      go (inl w) =
          let (p, i, e, l) = in_waits pairs rest s w in
          (p.0, ready_in pairs rest p.0 l (not_T (waits pairs rest p.0) (λ v. first p i (in_waits pairs rest p.0 v))))
        where
          first : (p : Pair) → In p pairs → (q : Pair) × In q pairs × (p.0 ≡ q.1) × In q.0 rest → ⊥
          first p i (q, j, e, l) = ok.apart q p j i (sym e)
      go (inr h) = (s, ready_in pairs rest s m h)

  pub child_some : (x : Node) → (T (complete n x) → ⊥) → (c : Node) × In c (children n pairs x)
  child_some x partial = at (left n x) refl
    where
      at : (rest : List ℕ) → left n x ≡ rest → (c : Node) × In c (children n pairs x)
      at [] e = absurd (partial (left-complete n x e))
      at (s ∷ rest) e =
          let (r, m) = ready_some (left n x) s (rw e in_head) in
          (extend x r, children_in n pairs x r m)

  module _ (P : Problem Node) (kids : (x : Node) → P.children x ≡ children n pairs x) where
    -- from every node a complete one is reached
    pub descends : (x : Node) → (y : Node) × T (complete n y) × Leads P x y
    descends x = go (length (left n x)) x (omega arith)
      where
        go : (k : ℕ) (x : Node) → length (left n x) ≤ k → (y : Node) × T (complete n y) × Leads P x y
        go zero x h = (x, left-complete n x (no_members (left n x) (λ s m. omega (arith, in_nonempty m))), stay)
        go (suc k) x h = at (either (complete n x)) (go k)
          where
            at :
                T (complete n x) ⊎ T (not (complete n x)) → ((z : Node) → length (left n z) ≤ k → (y : Node) × T (complete n y) × Leads P z y)
                → (y : Node) × T (complete n y) × Leads P x y
            at (inl whole) again = (x, whole, stay)
            at (inr partial) again =
                let (c, m) = child_some x (T_not (complete n x) partial) in
                let (s, i, e) = in_children n pairs x c m in
                let l : In s (left n x) = (in_ready pairs (left n x) s i).0 in
                let smaller : length (left n c) ≤ k = rw e (omega (arith, size-left n x, size-left n (extend x s), size-extend n x s l)) in
                let (y, whole, leads) = again c smaller in
                (y, whole, down (subst (λ (l : List Node). In c l) (sym (kids x)) m) leads)

    -- an order that respects the pairs is reached: each next stop need not wait
    pub allowed_leads : (x : Node) → Allowed n pairs x → Leads P [] x
    allowed_leads x a = stops_lead x next
      where
        next : (y : Node) (s : ℕ) (z : Node) → y ++ (s ∷ z) ≡ x → In (extend y s) (P.children y)
        next y s z e =
            let p : Partial n (y ++ (s ∷ z)) = subst (Partial n) (sym e) (order_partial n x a.order) in
            let l : In s (left n y) = next-left n y s z p in
            let h : T (respects pairs (y ++ (s ∷ z))) = subst (λ (w : Node). T (respects pairs w)) (sym e) a.respected in
            let k : T (respects pairs (extend y s)) = respects-front pairs (extend y s) z (subst (λ (w : Node). T (respects pairs w)) (sym (append_assoc y (s ∷ []) z)) h) in
            subst (λ (c : List Node). In (extend y s) c) (sym (kids y))
            (children_in n pairs y s (ready_in pairs (left n y) s l (subst T (ready-respects y s (respects-front pairs y (s ∷ z) h) l) k)))

    -- and what is reached respects them
    leads_respects : {x y : Node} → Leads P x y → T (respects pairs x) → T (respects pairs y)
    leads_respects stay h = h
    leads_respects (down {x} {c} m l) h = leads_respects l (child_respects x c h (subst (λ (l : List Node). In c l) (kids x) m))

    pub leads_allowed : (x : Node) → T (complete n x) → Leads P [] x → Allowed n pairs x
    leads_allowed x whole l = record {
      order = partial_order n x (leads_partial n P (λ y c m. kids-extend n pairs y c (subst (λ (l : List Node). In c l) (kids y) m)) l (partial_root n)) whole;
      respected = leads_respects l (respects_root pairs);
    }

-- the list of the orders that respect the pairs
pub in_orders_with : (n : ℕ) (pairs : List Pair) (x : Node) → In x (orders_with n pairs) → Allowed n pairs x
unfolding orders_with
in_orders_with n pairs x m =
    let (i, h) = in_keep (respects pairs) (orders n) x m in
    record { order = in_orders n x i; respected = h }

pub orders_with_in : (n : ℕ) (pairs : List Pair) (x : Node) → Allowed n pairs x → In x (orders_with n pairs)
unfolding orders_with
orders_with_in n pairs x a = keep_in (respects pairs) (orders n) x (orders_in n x a.order) a.respected

pub distinct-orders_with : (n : ℕ) (pairs : List Pair) → Distinct (orders_with n pairs)
unfolding orders_with
distinct-orders_with n pairs = distinct-keep (respects pairs) (distinct-orders n)

-- without pairs
pub ready-none : (rest : List ℕ) → ready [] rest ≡ rest
unfolding ready waits
ready-none rest = keep_all (λ s. true) rest (λ s m. tt)

pub no_pairs : (n : ℕ) (x : Node) → children n [] x ≡ extensions n x
unfolding children extensions
no_pairs n x = ap (map (extend x)) (ready-none (left n x))

-- pairs of which all are of a pairing make one
pub pairing_same : (n : ℕ) (ps qs : List Pair) → ((p : Pair) → In p qs → In p ps) → Pairing n ps → Pairing n qs
pairing_same n ps qs among ok = record { only = λ p m. ok.only p (among p m); apart = λ p q i j. ok.apart p q (among p i) (among q j) }

-- which pairs there are is all that counts
module _ (ps qs : List Pair) (same : (p : Pair) → In p ps ↔ In p qs) where
  pub respects-same : (x : Node) → respects ps x ≡ respects qs x
  unfolding respects
  respects-same x = same_tests (respects ps x) (respects qs x) (go ps qs (λ p. (same p).1)) (go qs ps (λ p. (same p).0))
    where
      go : (ps qs : List Pair) → ((p : Pair) → In p qs → In p ps) → T (respects ps x) → T (respects qs x)
      go ps qs among h = in_all (λ p. before p.0 p.1 x) qs (λ p m. all_in (λ q. before q.0 q.1 x) ps h p (among p m))

  waits-same : (rest : List ℕ) (s : ℕ) → waits ps rest s ≡ waits qs rest s
  waits-same rest s = same_tests (waits ps rest s) (waits qs rest s) (go ps qs (λ p. (same p).0)) (go qs ps (λ p. (same p).1))
    where
      go : (ps qs : List Pair) → ((p : Pair) → In p ps → In p qs) → T (waits ps rest s) → T (waits qs rest s)
      go ps qs among h = let (p, m, e, l) = in_waits ps rest s h in rw e (waits_in qs rest p (among p m) l)

  ready-same : (rest : List ℕ) → ready ps rest ≡ ready qs rest
  unfolding ready
  ready-same rest = keep_same (λ s. not (waits ps rest s)) (λ s. not (waits qs rest s)) rest (λ s m. ap not (waits-same rest s))

  pub children-same : (n : ℕ) (x : Node) → children n ps x ≡ children n qs x
  unfolding children
  children-same n x = ap (map (extend x)) (ready-same (left n x))
