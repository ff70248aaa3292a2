-- What holds of contents that checks 1 to 5 let pass, and of their bytes.
--   Passed, passed    each number is within its bounds
--   length-trailer, length-file, file_short    how long the file is
use mathlib.Core.Path.{◌≡◌, refl, ap}
use mathlib.Core.List.Memᴰ
use mathlib.Core.List.{List, [], ◌++◌}
use mathlib.Core.Logic.{◌⊎◌, inl, inr}
use Prim.Native.Nat.{ℕ, ◌*◌, ◌≤◌}
use native.Mathlib.Omega.{arith}
use lib.ListN.{length, length-append}
use Rattle.sizes.specs.Sizes.{most_stops, order_places, dearest_leg, longest}
use Rattle.lists.specs.Lists.{In, each}
use Rattle.orders.specs.Orders.{Order}
use Rattle.orders.proofs.Order.{order-length}
use Rattle.answer.proofs.Passes.{job_passed}
use Rattle.job_format.specs.Bytes.{word, AllBytes}
use Rattle.job_format.specs.Contents.{Contents, Trailer, trailer_length, area, trailer_of, trailer_bytes, bytes_of, file_length}
use Rattle.job_format.specs.Demands.{Passes}
use Rattle.job_format.proofs.ByteLaws.{length_each_word}
use Rattle.job_format.proofs.LayoutLaws.{area_small}

pub record Passed (c : Contents) : Type 0 where
  pub some : 1 ≤ c.job.n
  pub few : c.job.n ≤ most_stops
  pub square : length c.table ≡ area c.job.n
  pub cheap : (w : ℕ) → In w c.table → w ≤ dearest_leg
  pub selection : c.job.selection ≤ 3
  pub rules : c.job.rules ≤ 15
  pub bound : c.job.bound ≤ 3
  pub short : length c.start ≤ order_places
  pub bytes : AllBytes c.start

-- an order is as long as n says, and of bytes
order_short : (n : ℕ) (x : List ℕ) → n ≤ most_stops → (x ≡ []) ⊎ Order n x → (length x ≤ order_places) × AllBytes x
order_short n x h (inl e) = rw e (omega arith, λ b m. absurd (Memᴰ.not-nil m))
order_short n x h (inr o) = (omega (arith, order-length n x o), λ b m. omega (arith, o.only b m))

pub passed : (c : Contents) → Passes c → Passed c
passed c e =
    let p = (job_passed c.job c.table c.start 0 e).0 in
    let order = order_short c.job.n c.start p.legs.priced.few p.start in
    record {
      some = p.legs.some;
      few = p.legs.priced.few;
      square = p.legs.priced.square;
      cheap = p.legs.priced.legs;
      selection = p.selection;
      rules = p.rules;
      bound = p.bound;
      short = order.0;
      bytes = order.1;
    }

pub length-trailer : (t : Trailer) → length (trailer_bytes t) ≡ trailer_length
unfolding trailer_bytes word
length-trailer t = refl

pub length-file : (c : Contents) → length c.table ≡ area c.job.n → length (bytes_of c) ≡ file_length c.job.n (length c.start)
unfolding bytes_of
length-file c square =
    let table : List ℕ = each word c.table in
    let t : List ℕ = trailer_bytes (trailer_of c) in
    omega
    (arith, length-append (table ++ c.start) t, length-append table c.start, length_each_word c.table, length-trailer (trailer_of c), ap (λ (k : ℕ). 4 * k) square)

pub file_short : (c : Contents) → Passed c → length (bytes_of c) ≤ longest
file_short c p = omega (arith, length-file c p.square, area_small c.job.n p.few, p.short)
