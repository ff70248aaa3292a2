-- Laws behind the functions that test a starting order.
--   counted_more    how often a stop stands among the first elements of a list, and one more
--   all_is, all_from    a test of all of a list, and of all numbers from one on, as the library makes it
--   stop_flown      the numbers 1 to n are stops, and no others
--   other_length    a list of another length is no order
use mathlib.Core.Path.{refl, ◌≡◌}
use mathlib.Core.Bool.{◌&&◌, Bool, true, false}
use mathlib.Core.List.{List, [], ◌∷◌}
use mathlib.Core.Logic.{◌≢◌}
use Prim.Native.Nat.{ℕ, zero, suc, ◌+◌, ◌<◌}
use native.Mathlib.Numerals.{add-one}
use native.Mathlib.Omega.{arith}
use lib.Dec.{T, leb, eqb, not_T, leb→le, le→leb}
use lib.ListN.{length, get_or, take, length-append}
use lib.Seq.{take-suc}
use Rattle.std.specs.List.{list_all, range_with_len}
use mir.Val.{bool_byte}
use Rattle.lists.specs.Lists.{put, keep, all, from}
use Rattle.lists.proofs.Keep.{keep_append}
use Rattle.lists.proofs.Tests.{to_false, same_tests, and_left, and_right, and_both}
use Rattle.orders.specs.Orders.{Node, stops, flown, count, is_order}
use Rattle.orders.proofs.Sets.{in_stops, stops_in_lem, in_flown, flown_in}
use Rattle.orders.proofs.Order.{is_order_order, order-length}

-- how often s stands among the first k
module _ (s : ℕ) (x : Node) where
  one : (b : Bool) (y : ℕ) → length (put b y []) ≡ bool_byte b
  one true y = refl
  one false y = refl

  same : (y : ℕ) → eqb s y ≡ eqb y s
  same y = grind arith

  pub counted_more : (k : ℕ) → k < length x → count s (take k x) + bool_byte (eqb (get_or x k 0) s) ≡ count s (take (k + 1) x)
  unfolding count
  counted_more k h =
      let y : ℕ = get_or x k 0 in
      rw (add-one k, take-suc x k 0 h, keep_append (eqb s) (take k x) (y ∷ []), length-append (keep (eqb s) (take k x)) (keep (eqb s) (y ∷ [])), ← same y, one (eqb s y) y)

-- a test of all is the library's
pub all_is : {A : Type 0} (test : A → Bool) (xs : List A) → list_all test xs ≡ all test xs
all_is test [] = refl
all_is test (x ∷ xs) = rw (all_is test xs)

pub all_from : (test : ℕ → Bool) (a k : ℕ) → list_all test (range_with_len a k) ≡ all test (from a k)
all_from test a zero = refl
all_from test a (suc k) = rw (add-one a, all_from test (suc a) k)

-- the numbers 1 to n are stops, and no others
stop_in : (n s : ℕ) → T (leb 1 s && leb s n) → T (flown (stops n) s)
stop_in n s h = in_flown (stops n) s (stops_in_lem n s (leb→le 1 s (and_left (leb 1 s) (leb s n) h)) (leb→le s n (and_right (leb 1 s) (leb s n) h)))

in_stop : (n s : ℕ) → T (flown (stops n) s) → T (leb 1 s && leb s n)
in_stop n s h = let (p, q) = in_stops n s (flown_in (stops n) s h) in and_both (leb 1 s) (leb s n) (le→leb 1 s p) (le→leb s n q)

pub stop_flown : (n s : ℕ) → flown (stops n) s ≡ (leb 1 s && leb s n)
stop_flown n s = same_tests (flown (stops n) s) (leb 1 s && leb s n) (in_stop n s) (stop_in n s)

-- a list of another length is no order
pub other_length : (n : ℕ) (x : Node) → length x ≢ n → is_order n x ≡ false
other_length n x h = to_false (is_order n x) (not_T (is_order n x) (λ t. h (order-length n x (is_order_order n x t))))
