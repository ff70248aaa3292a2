-- `digits_before` meets its contract. The invariant: the digits left tell what all of them do.
use mathlib.Core.Path.{◌≡◌}
use Prim.Native.Nat.{◌-◌}
use Rattle.sizes.specs.Sizes.{word_stops}
use Rattle.stops.specs.Code.{digits_before}
use Rattle.stops.proofs.order_words.digits_before.Given as goal

abbrev pub invariant-loop : goal.invariant-loop
invariant-loop l = digits_before (word_stops - l.counter) l.x l.y ≡ digits_before word_stops l.a l.b
