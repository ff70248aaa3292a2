-- The sets of a node as words (`mask`: bit s-1 is stop s's): the stops that it flies and those that it leaves.
--   mask-stops, set_small      together the two words are 2 to the power n, less 1
--   stops-set, stops-left      the stops can be read back
--   rest_small                 what a word leaves of n stops are stops of a day
--   rest-left                  where the word is that of a node's set, these are the stops that the node leaves
--   ones-set                   and those flown counted
--   mask-extend, ones-extend, stops_child    what one more stop does to both, and to the count
use mathlib.Core.Path.{◌≡◌, ap, ◌∙◌}
use Prim.Native.Nat.{ℕ, ◌+◌, ◌-◌, ◌^◌, ◌≤◌, ◌<◌}
use native.Mathlib.Omega.{arith}
use lib.Count.{ones}
use lib.ListN.{length}
use Rattle.sizes.specs.Sizes.{most_stops}
use Rattle.lists.specs.Lists.{In}
use Rattle.lists.proofs.Distinct.{sum-without}
use Rattle.orders.specs.Orders.{Node, flown, set_of, left, mask, size, extend}
use Rattle.orders.proofs.Sets.{distinct-left, left-extend, size-extend}
use Rattle.stops.specs.Code.{stops_in}
use Rattle.stops.proofs.SetBits.{stops_in-ones, stops_in-mask, stops_in-others, mask_small, mask-others, all_small}
use Rattle.records.specs.Examples

pub mask-stops : (n : ℕ) (x : Node) → mask (set_of n x) + mask (left n x) ≡ 2 ^ n - 1
unfolding mask set_of left
mask-stops n x = omega (arith, mask_small (flown x) n, mask-others (flown x) n)

mask_leave : (n : ℕ) (x : Node) (s : ℕ) → In s (left n x) → mask (left n x) ≡ 2 ^ (s - 1) + mask (left n (extend x s))
unfolding mask
mask_leave n x s m = rw (left-extend n x s) (sum-without (λ r. 2 ^ (r - 1)) s (distinct-left n x) m)

pub mask-extend : (n : ℕ) (x : Node) (s : ℕ) → In s (left n x) → mask (set_of n (extend x s)) ≡ mask (set_of n x) + 2 ^ (s - 1)
mask-extend n x s m = omega (arith, mask-stops n x, mask-stops n (extend x s), mask_leave n x s m)

-- the stops that any set leaves are stops of a day
pub rest_small : (n : ℕ) → n ≤ most_stops → (m : ℕ) → 2 ^ n - 1 - m < 2 ^ most_stops
rest_small n few m = omega (arith, all_small n few)

module _ (n : ℕ) (few : n ≤ most_stops) (x : Node) where
  pub set_small : mask (set_of n x) < 2 ^ most_stops
  set_small = omega (arith, mask-stops n x, all_small n few)

  pub stops-set : stops_in (mask (set_of n x)) ≡ set_of n x
  unfolding mask set_of
  stops-set = stops_in-mask (flown x) n few

  pub stops-left : stops_in (2 ^ n - 1 - mask (set_of n x)) ≡ left n x
  unfolding mask set_of left
  stops-left = stops_in-others (flown x) n few

  pub rest-left : (m : ℕ) → m ≡ mask (set_of n x) → stops_in (2 ^ n - 1 - m) ≡ left n x
  rest-left m e = ap (λ (k : ℕ). stops_in (2 ^ n - 1 - k)) e ∙ stops-left

  pub ones-set : ones (mask (set_of n x)) ≡ size n x
  unfolding size
  ones-set = stops_in-ones (mask (set_of n x)) set_small ∙ ap length stops-set

-- one stop more is one more counted
pub ones-extend :
    (n : ℕ) → n ≤ most_stops → (x : Node) (s : ℕ) → In s (left n x) → ones (mask (set_of n x)) + 1 ≡ size n (extend x s)
ones-extend n few x s m = omega (arith, ones-set n few x, size-extend n x s m)

pub stops_child :
    (n : ℕ) → n ≤ most_stops → (x : Node) (s : ℕ) → In s (left n x)
    → stops_in (2 ^ n - 1 - mask (set_of n x) - 2 ^ (s - 1)) ≡ left n (extend x s)
stops_child n few x s m = ap stops_in (omega (arith, mask-extend n x s m)) ∙ stops-left n few (extend x s)
