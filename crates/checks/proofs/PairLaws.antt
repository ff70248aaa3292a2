-- A starting order that check 5 let pass is a partial order, if only the empty one.
use mathlib.Core.Path.{◌≡◌, sym, subst}
use mathlib.Core.Bool.{Bool, false, not}
use mathlib.Core.List.{List, []}
use mathlib.Core.Logic.{◌⊎◌, inl, inr}
use Prim.Native.Nat.{ℕ}
use lib.Dec.{T}
use Rattle.orders.specs.Orders.{Partial, Order}
use Rattle.orders.proofs.Partial.{partial_root}
use Rattle.orders.proofs.Order.{order_partial}
use Rattle.answer.specs.Checks.{cause₅}
use Rattle.answer.proofs.Passes.{start_passes}

pub given_partial : (n : ℕ) (start : List ℕ) → cause₅ n start ≡ false → Partial n start
given_partial n start e = go (start_passes n start (subst (λ (b : Bool). T (not b)) (sym e) tt))
  where
    go : (start ≡ []) ⊎ Order n start → Partial n start
    go (inl f) = subst (Partial n) (sym f) (partial_root n)
    go (inr o) = order_partial n start o
