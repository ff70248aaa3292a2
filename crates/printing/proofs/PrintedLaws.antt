-- What is printed, case by case.
--   printed-refused               a report with a number
--   printed_lines                 a report without one, of whose order no more than its places are looked at
--   lines_seven, lines_stopped    .. without a mark, and with one
--   known_lines_lem                   the lines of an order that is known
use mathlib.Core.Path.{◌≡◌, refl, ap, sym, ◌∙◌}
use mathlib.Core.List.{List, [], ◌∷◌}
use mathlib.Core.Logic.{◌≢◌}
use Prim.Native.Nat.{ℕ, zero, suc, min}
use native.Mathlib.Omega.{arith}
use lib.ListN.{length, take, get_or}
use Rattle.sizes.specs.Sizes.{order_places}
use Rattle.answer.specs.declared.Report.{Report}
use Rattle.report_format.specs.Printed.{refused_line, answer_lines, seven_lines, known_lines, stopped_lines, printed_by, printed}

by_number : (k n : ℕ) (r : Report) → r.number ≡ k → printed n r ≡ printed_by k r.mark n r
unfolding printed
by_number k n r e = rw e

refused_by : (k mark n : ℕ) (r : Report) → k ≢ 0 → printed_by k mark n r ≡ refused_line k
unfolding printed_by
refused_by zero mark n r h = absurd (h refl)
refused_by (suc k) mark n r h = refl

pub printed-refused : (n : ℕ) (r : Report) → r.number ≢ 0 → printed n r ≡ refused_line r.number
printed-refused n r h = by_number r.number n r refl ∙ refused_by r.number r.mark n r h

pub lines_seven : (mark n : ℕ) (r : Report) → mark ≡ 0 → printed_by 0 mark n r ≡ seven_lines n r
unfolding printed_by
lines_seven mark n r e = rw e

pub lines_stopped : (mark n : ℕ) (r : Report) → mark ≢ 0 → printed_by 0 mark n r ≡ stopped_lines n r
unfolding printed_by
lines_stopped zero n r h = absurd (h refl)
lines_stopped (suc mark) n r h = refl

pub known_lines_lem : (first n : ℕ) (r : Report) → first ≢ 0 → known_lines first n r ≡ answer_lines n r
unfolding known_lines
known_lines_lem zero n r h = absurd (h refl)
known_lines_lem (suc stop) n r h = refl

take_places : (n : ℕ) (xs : List ℕ) → take (min n (length xs)) xs ≡ take n xs
take_places zero xs = rw (let e : min 0 (length xs) ≡ 0 = omega arith in e)
take_places (suc n) [] = rw (let e : min (suc n) 0 ≡ 0 = omega arith in e)
take_places (suc n) (x ∷ xs) =
    rw (let e : min (suc n) (suc (length xs)) ≡ suc (min n (length xs)) = omega arith in e) (ap (λ (l : List ℕ). x ∷ l) (take_places n xs))

module _ (n count : ℕ) (r : Report) (same : answer_lines count r ≡ answer_lines n r) where
  known_same : (first : ℕ) → known_lines first count r ≡ known_lines first n r
  unfolding known_lines
  known_same zero = refl
  known_same (suc stop) = same

  lines_same : (mark : ℕ) → printed_by 0 mark count r ≡ printed_by 0 mark n r
  unfolding printed_by seven_lines stopped_lines
  lines_same zero = rw same
  lines_same (suc mark) = rw (known_same (get_or r.order 0 0))

pub printed_lines :
    (n count : ℕ) (r : Report) → count ≡ min n order_places → length r.order ≡ order_places → r.number ≡ 0
    → printed_by 0 r.mark count r ≡ printed n r
unfolding answer_lines
printed_lines n count r e long z = lines_same n count r (rw (e, ← long, take_places n r.order)) r.mark ∙ sym (by_number 0 n r z)
