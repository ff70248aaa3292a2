-- A pair file whose bytes are stops of 1 to n, none of them twice: what `precedence_of` asks of it, and that the precedence that it makes has its pairs.
use mathlib.Core.Path.{◌≡◌}
use mathlib.Core.List.{List}
use mathlib.Core.Logic.{◌↔◌}
use Prim.Native.Nat.{ℕ, ◌≤◌}
use native.Mathlib.Omega.{arith}
use Rattle.sizes.specs.Sizes.{most_stops}
use Rattle.lists.specs.Lists.{In, Distinct}
use Rattle.orders.specs.Orders.{Node}
use Rattle.orders.specs.Pairs.{Pair, pairs_of, Pairing, respects}
use Rattle.orders.proofs.Pairs.{pairing_same, respects-same}
use Rattle.orders.proofs.PairFile.{file_pairing}
use Rattle.pairs.specs.Code.{OfStops, precedence_of, pairs_in}
use Rattle.pairs.proofs.FileLaws.{precedence_pairs}

module _ (n : ℕ) (few : n ≤ most_stops) (bytes : List ℕ) (only : (s : ℕ) → In s bytes → (1 ≤ s) × (s ≤ n)) (once : Distinct bytes) where
  pub of_stops : OfStops bytes
  of_stops s m = let h = only s m in (h.0, omega arith)

  pub its_pairs : (p : Pair) → In p (pairs_in (precedence_of bytes)) ↔ In p (pairs_of bytes)
  its_pairs = precedence_pairs bytes of_stops once

  pub its_pairing : Pairing n (pairs_in (precedence_of bytes))
  its_pairing = pairing_same n (pairs_of bytes) (pairs_in (precedence_of bytes)) (λ p. (its_pairs p).0) (file_pairing n bytes only once)

  pub its_respects : (x : Node) → respects (pairs_in (precedence_of bytes)) x ≡ respects (pairs_of bytes) x
  its_respects = respects-same (pairs_in (precedence_of bytes)) (pairs_of bytes) its_pairs
