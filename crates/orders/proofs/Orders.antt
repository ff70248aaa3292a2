-- The list `orders n`: it holds every order of 1 to n, nothing else, none twice, and n! of them. Level k holds the partial orders of
-- length k; the orders are those of level n.
use mathlib.Core.Path.{◌≡◌, refl, ap, sym, ◌∙◌, subst}
use mathlib.Core.List.Memᴰ
use mathlib.Core.List.{[], ◌∷◌}
use Prim.Native.Nat.{ℕ, zero, suc, ◌+◌, ◌*◌}
use native.Mathlib.Nat.{mul_assoc}
use native.Mathlib.Omega.{arith}
use lib.ListN.{length, length-append, length-map}
use Rattle.lists.specs.Lists.{In, Distinct, none, more}
use Rattle.lists.proofs.Members.{in_head, in_each, each_in}
use Rattle.lists.proofs.Numbers.{length-each, sum_same, sum_const}
use Rattle.lists.proofs.Distinct.{distinct-map, distinct-each}
use Rattle.orders.specs.Orders.{Node, left, extend, extensions, Order, level, orders, factorial, Partial}
use Rattle.orders.proofs.Sets.{size-left, distinct-left, in_extensions, extensions_in}
use Rattle.orders.proofs.Partial.{partial_root, partial_child, partial_made, partial_size}
use Rattle.orders.proofs.Order.{order_partial, order-length, full_order}

-- what is in a level
length-extend : (x : Node) (s : ℕ) → length (extend x s) ≡ suc (length x)
length-extend x s = omega (arith, length-append x (s ∷ []))

in_level : (n k : ℕ) (x : Node) → In x (level n k) → Partial n x × (length x ≡ k)
unfolding level
in_level n zero x m = rw (Memᴰ.eq_of_singleton m) (partial_root n, refl)
in_level n (suc k) x m =
    let (y, i, j) = in_each (extensions n) (level n k) x m in
    let (s, l, e) = in_extensions n y x j in
    let h : Partial n y × (length y ≡ k) = in_level n k y i in
    (partial_child n y x h.0 j, ap length e ∙ length-extend y s ∙ ap suc h.1)

level_in : (n : ℕ) (x : Node) → Partial n x → In x (level n (length x))
unfolding level
level_in n = partial_made n (λ x. In x (level n (length x))) in_head go
  where
    go : (x : Node) (s : ℕ) → In x (level n (length x)) → In s (left n x) → In (extend x s) (level n (length (extend x s)))
    go x s i m = rw (length-extend x s) (each_in (extensions n) (level n (length x)) x (extend x s) i (extensions_in n x s m))

-- a level has no node twice: a child shows its parent and its last stop
extend_same : (x y : Node) (s t : ℕ) → extend x s ≡ extend y t → (x ≡ y) × (s ≡ t)
extend_same [] [] s t e = (refl, cc)
extend_same [] (b ∷ y) s t e = absurd (let z : length (s ∷ []) ≡ length (b ∷ extend y t) = ap length e in omega (arith, length-extend y t))
extend_same (a ∷ x) [] s t e = absurd (let z : length (a ∷ extend x s) ≡ length (t ∷ []) = ap length e in omega (arith, length-extend x s))
extend_same (a ∷ x) (b ∷ y) s t e =
    let h : a ≡ b = cc in
    let k : extend x s ≡ extend y t = cc in
    let r : (x ≡ y) × (s ≡ t) = extend_same x y s t k in
    (cc, r.1)

distinct-level : (n k : ℕ) → Distinct (level n k)
unfolding level extensions
distinct-level n zero = more Memᴰ.not-nil none
distinct-level n (suc k) = distinct-each (extensions n) own shows (distinct-level n k)
  where
    own : (x : Node) → Distinct (extensions n x)
    own x = distinct-map (extend x) (λ s t e. (extend_same x x s t e).1) (distinct-left n x)

    shows : (x y c : Node) → In c (extensions n x) → In c (extensions n y) → x ≡ y
    shows x y c i j =
        let (s, m, e) = in_extensions n x c i in
        let (t, l, f) = in_extensions n y c j in
        (extend_same x y s t (sym e ∙ f)).0

-- Each node of level k is a partial order of length k, so it leaves n - k stops and has as many children. Hence a level's length
-- times (n - k)! is the same at every level: n! at level 0, and the number of orders at level n.
length-level : (n k m : ℕ) → k + suc m ≡ n → length (level n (suc k)) ≡ length (level n k) * suc m
unfolding level extensions
length-level n k m e =
    length-each (extensions n) (level n k)
    ∙ sum_same (λ x. length (extensions n x)) (λ x. suc m) (level n k) go
    ∙ sum_const (suc m) (level n k)
  where
    go : (x : Node) → In x (level n k) → length (extensions n x) ≡ suc m
    go x i =
        let h : Partial n x × (length x ≡ k) = in_level n k x i in
        length-map (left n x) (extend x) ∙ omega (arith, size-left n x, partial_size n x h.0)

count-level : (n k m : ℕ) → k + m ≡ n → length (level n k) * factorial m ≡ factorial n
unfolding level
count-level n zero m e = let f : m ≡ n = omega arith in rw f (omega arith)
count-level n (suc k) m e =
    let f : k + suc m ≡ n = omega arith in
    ap (λ (l : ℕ). l * factorial m) (length-level n k m f)
    ∙ mul_assoc (length (level n k)) (suc m) (factorial m) ∙ count-level n k (suc m) f

-- the orders
pub orders_in : (n : ℕ) (x : Node) → Order n x → In x (orders n)
unfolding orders
orders_in n x o = subst (λ (k : ℕ). In x (level n k)) (order-length n x o) (level_in n x (order_partial n x o))

pub in_orders : (n : ℕ) (x : Node) → In x (orders n) → Order n x
unfolding orders
in_orders n x m = let h : Partial n x × (length x ≡ n) = in_level n n x m in full_order n x h.0 h.1

pub distinct-orders : (n : ℕ) → Distinct (orders n)
unfolding orders
distinct-orders n = distinct-level n n

pub length-orders : (n : ℕ) → length (orders n) ≡ factorial n
unfolding orders
length-orders n = let e : length (level n n) * 1 ≡ factorial n = count-level n n 0 (omega arith) in omega arith
