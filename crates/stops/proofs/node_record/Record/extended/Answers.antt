-- `Record::extended` meets its contract: the stops counted are few (`SetBits`), and the shifts put one bit into the set and one digit into
-- the order (`Digits`).
use mathlib.Core.Path.{refl}
use native.Mathlib.Omega.{arith}
use borrow.Author.Tests.{lt-ltb, le-ltb}
use Prim.Native.Nat.{◌-◌, ◌^◌, ◌<◌, ◌≤◌}
use native.Mathlib.Nat.{add-zero}
use Rattle.sizes.specs.Sizes.{most_stops, word_stops}
use Rattle.stops.specs.Code.{extended}
use Rattle.stops.proofs.Digits.{bit_small, bit_shifted, digit_shifted, digit-fits}
use Rattle.stops.proofs.SetBits.{stops_in-ones, stops_in_few}
use Rattle.stops.proofs.node_record.Record.extended.Goals as goal

pub overflow_add-self : goal.overflow_add-self
overflow_add-self c =
    let m = c.args.self.set in
    let small : m < 2 ^ most_stops = c.requires.set_small in
    record { fits = omega (arith, stops_in-ones m small, stops_in_few m small) }

pub overflow_add-self-2 : goal.overflow_add-self-2
overflow_add-self-2 c =
    let a = c.args in
    let w = c.requires in
    record { fits = rw (bit_shifted a.stop w.few) (omega (arith, bit_small a.stop w.few, w.set_small)) }

pub overflow_add-self-then-place-lt-WORD_STOPS : goal.overflow_add-self-then-place-lt-WORD_STOPS
overflow_add-self-then-place-lt-WORD_STOPS c =
    let a = c.args in
    let w = c.requires in
    let low : a.self.size < word_stops = omega arith in
    record { fits = rw (digit_shifted a.self.size a.stop low w.few) (digit-fits a.self.size a.stop low w.few a.self.first (w.first_small low)) }

pub overflow_add-self-else-place-lt-WORD_STOPS : goal.overflow_add-self-else-place-lt-WORD_STOPS
overflow_add-self-else-place-lt-WORD_STOPS c =
    let a = c.args in
    let w = c.requires in
    let high : word_stops ≤ a.self.size = omega arith in
    let low : a.self.size - word_stops < word_stops = omega (arith, w.room) in
    record {
      fits =
          rw (digit_shifted (a.self.size - word_stops) a.stop low w.few)
          (digit-fits (a.self.size - word_stops) a.stop low w.few a.self.second (w.second_small high));
    }

pub returns-then-place-lt-WORD_STOPS : goal.returns-then-place-lt-WORD_STOPS
unfolding extended
returns-then-place-lt-WORD_STOPS c =
    let a = c.args in
    let w = c.requires in
    let low : a.self.size < word_stops = omega arith in
    rw (bit_shifted a.stop w.few, digit_shifted a.self.size a.stop low w.few, lt-ltb a.self.size word_stops low, add-zero a.self.second) refl

pub returns-else-place-lt-WORD_STOPS : goal.returns-else-place-lt-WORD_STOPS
unfolding extended
returns-else-place-lt-WORD_STOPS c =
    let a = c.args in
    let w = c.requires in
    let high : word_stops ≤ a.self.size = omega arith in
    let low : a.self.size - word_stops < word_stops = omega (arith, w.room) in
    rw (bit_shifted a.stop w.few, digit_shifted (a.self.size - word_stops) a.stop low w.few, le-ltb a.self.size word_stops high, add-zero a.self.first) refl
