-- The starting order made into a record, stop by stop, for its words (`src/best.rt`, `started`).
--   empty_best, order-given         no order is given, or one is
--   Flown, flown-none, flown_more   after some stops
--   flown_wide                      the words have room for the next stop
--   flown_best                      at the end, with the order's cost, they are those of the best order known
use mathlib.Core.Path.{◌≡◌, refl, ap, sym, ◌∙◌, subst}
use mathlib.Core.List.{[], ◌∷◌, ◌++◌}
use mathlib.Core.Logic.{◌⊎◌, inl, inr, ◌≢◌}
use mathlib.Core.Option.{some, map}
use Prim.Native.Nat.{ℕ, suc, ◌+◌, ◌≤◌, ◌<◌}
use native.Mathlib.Numerals.{add-one}
use native.Mathlib.Omega.{arith}
use lib.Dec.{not_T}
use lib.ListN.{length, get_or, take, drop}
use lib.Seq.{take-suc, take_all, split_at}
use Rattle.sizes.specs.Sizes.{most_stops, above_every_cost}
use Rattle.lists.specs.Lists.{In, Distinct}
use Rattle.lists.proofs.Members.{in_head}
use Rattle.lists.proofs.Parts.{in_get_or}
use Rattle.lists.proofs.Distinct.{append_apart}
use Rattle.orders.specs.Orders.{Node, Partial, Order, flown, left, extend}
use Rattle.orders.proofs.Sets.{left_in, flown_in}
use Rattle.orders.proofs.Partial.{partial_root, partial_extend}
use Rattle.orders.proofs.Order.{order-complete, order-length}
use Rattle.days.proofs.Walk.{bound_exact}
use Rattle.stops.specs.Stops.{day_on}
use Rattle.stops.specs.Code.{empty_record, extended, Wide}
use Rattle.stops.specs.declared.node_record.Record.{Record}
use Rattle.stops.proofs.StopsWalk.{rows_walk}
use Rattle.records.specs.Code.{encode}
use Rattle.records.proofs.Encode.{built, built_none, built_words, built_wide, built_more}
use Rattle.answer.specs.Answer.{given}
use Rattle.children.specs.Code.{Table, encode_of, IsBest, Rows}
use Rattle.children.specs.declared.setting.Setting.{Setting}

-- no order is given, or one is
pub empty_best :
    (f : Node → Record) (y : Node) → length y ≡ 0
    → IsBest (record { upper = above_every_cost; first = 0; second = 0 }) (map f (given y))
empty_best f [] h = (refl, refl, refl)
empty_best f (s ∷ y) h = absurd (omega arith)

given_some : (y : Node) → 1 ≤ length y → given y ≡ some y
given_some [] h = absurd (omega arith)
given_some (s ∷ y) h = refl

pub order-given : (n : ℕ) (y : Node) → (y ≡ []) ⊎ Order n y → length y ≢ 0 → Order n y
order-given n y (inl e) h = absurd (h (ap length e))
order-given n y (inr o) h = o

-- An order y is made into a record stop by stop. After k stops it is what is built of them.
pub record Flown (n : ℕ) (y : Node) (k : ℕ) (x : Record) : Type 0 where
  pub partial : Partial n (take k y)
  pub words : x ≡ built n (take k y)

pub flown-none : (n : ℕ) (y : Node) {x : Record} → x ≡ empty_record → Flown n y 0 x
flown-none n y e = record { partial = partial_root n; words = e ∙ built_none n }

-- The next stop is one that the stops before it leave, since an order has no stop twice: so the record extended by it is that of one stop
-- more.
module _ {n : ℕ} (few : n ≤ most_stops) {y : Node} (o : Order n y) {k : ℕ} {x : Record} (f : Flown n y k x) (inside : k < length y) where
  abbrev next : ℕ
  next = get_or y k 0

  split : y ≡ take k y ++ (next ∷ drop (suc k) y)
  split = split_at y k 0 inside

  next-left : In next (left n (take k y))
  next-left =
      let b : (1 ≤ next) × (next ≤ n) = o.only next (in_get_or y k 0 inside) in
      left_in n (take k y) next b.0 b.1
      (not_T (flown (take k y) next)
      (λ m. append_apart (take k y) (next ∷ drop (suc k) y) (subst Distinct split o.once) next (flown_in (take k y) next m) in_head))

  pub flown_wide : Wide x next 0
  flown_wide = rw f.words (built_wide n few (take k y) f.partial next next-left)

  pub flown_more : Flown n y (k + 1) (extended x next 0)
  flown_more = record {
    partial = rw more (partial_extend n (take k y) next f.partial next-left);
    words = rw (f.words, more) (built_more n few (take k y) f.partial next next-left);
  }
    where
      more : take (k + 1) y ≡ extend (take k y) next
      more = rw (add-one k) (take-suc y k 0 inside)

-- an order is complete, so its bound, plain or close, is its cost
pub flown_best :
    {d : Setting} {t : Table} {y : Node} {k v : ℕ} {x : Record} → Rows d t → Order d.n y → Flown d.n y k x → length y ≤ k
    → v ≡ (day_on d.n t).cost y → IsBest (record { upper = v; first = x.first; second = x.second }) (map (encode_of d t) (given y))
unfolding encode_of encode
flown_best {d} {t} {y} {k} rows o f whole e =
    let n = d.n in
    rw (given_some y (omega (arith, order-length n y o, rows.some)), f.words, take_all k y whole)
    (e ∙ sym (bound_exact (rows_walk n t) d.bound rows.bound y (order-complete n y o)), (built_words n y).1, (built_words n y).2)
