-- Laws of `exchanged`.
--   exchanged-length, exchanged_self, exchanged_twice    it has as many stops; of a position with itself it changes nothing; made again it is undone
--   exchanged-order                                      it has the same stops, so that of an order it is an order
use mathlib.Core.Path.{◌≡◌, ap, sym, ◌∙◌}
use mathlib.Core.List.{[], ◌∷◌}
use mathlib.Core.Logic.{◌⊎◌, inl, inr, ◌≢◌}
use Prim.Native.Nat.{ℕ, ◌<◌}
use native.Mathlib.Omega.{arith}
use lib.ListN.{length, get_or, set, length-set}
use lib.Seq.{get_or-set_same, get_or-set_other, set-get_or, set-set, set_comm}
use Rattle.lists.proofs.Tests.{compared}
use Rattle.orders.specs.Orders.{Node, Order, count}
use Rattle.orders.proofs.Order.{count_set, order_counts}
use Rattle.first_answer.specs.Exchanges.{exchanged}
use Rattle.first_answer.specs.Examples

module _ (x : Node) where
  pub exchanged-length : (p q : ℕ) → length (exchanged x p q) ≡ length x
  unfolding exchanged
  exchanged-length p q = simp length-set

  pub exchanged_self : (p : ℕ) → exchanged x p p ≡ x
  unfolding exchanged
  exchanged_self p = set-set x p (get_or x p 0) (get_or x p 0) ∙ set-get_or x p 0

  module _ (p q : ℕ) (inside-p : p < length x) (inside-q : q < length x) where
    -- p and q differ: each position gets the other's stop, and then its own again
    twice_apart : p ≢ q → exchanged (exchanged x p q) p q ≡ x
    unfolding exchanged
    twice_apart n =
        let a = get_or x p 0 in
        let b = get_or x q 0 in
        let y = set (set x p b) q a in
        let at_p : get_or y p 0 ≡ b = get_or-set_other (set x p b) q p a 0 n ∙ get_or-set_same x p b 0 inside-p in
        let at-q : get_or y q 0 ≡ a = get_or-set_same (set x p b) q a 0 (omega (arith, length-set x p b)) in
        rw (at-q, at_p, set_comm (set x p b) q p a a (λ e. n (sym e)), set-set x p b a, set-get_or x p 0, set-set x q a b, set-get_or x q 0)

    pub exchanged_twice : exchanged (exchanged x p q) p q ≡ x
    exchanged_twice = go (compared p q)
      where
        go : (p ≡ q) ⊎ (p ≢ q) → exchanged (exchanged x p q) p q ≡ x
        go (inl e) = rw (← e, exchanged_self p) (exchanged_self p)
        go (inr n) = twice_apart n

    -- what stands at position q once position p has the same
    at_second : get_or (set x p (get_or x q 0)) q 0 ≡ get_or x q 0
    at_second = go (compared q p)
      where
        go : (q ≡ p) ⊎ (q ≢ p) → get_or (set x p (get_or x q 0)) q 0 ≡ get_or x q 0
        go (inl e) = rw (← e) (get_or-set_same x q (get_or x q 0) 0 inside-q)
        go (inr e) = get_or-set_other x p q (get_or x q 0) 0 e

    -- position p loses a stop that position q gets, and the other way round
    exchanged_counts : (s : ℕ) → count s (exchanged x p q) ≡ count s x
    unfolding exchanged
    exchanged_counts s =
        let y : Node = set x p (get_or x q 0) in
        omega (
          arith,
          count_set s (get_or x q 0) x p inside-p,
          count_set s (get_or x p 0) y q (omega (arith, length-set x p (get_or x q 0))),
          ap (λ (r : ℕ). count s (r ∷ [])) at_second,
        )

    pub exchanged-order : (n : ℕ) → Order n x → Order n (exchanged x p q)
    exchanged-order = order_counts x (exchanged x p q) exchanged_counts
