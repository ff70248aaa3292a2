-- `Record::last` meets its contract: each `return` is the case of `last_stop` that its tests name.
use mathlib.Core.Logic.{◌≢◌}
use Prim.Native.Nat.{◌-◌, ◌<◌, ◌≤◌}
use native.Mathlib.Omega.{arith}
use borrow.Author.Tests.{eq-eqb, ne_eqb, le-leb, lt-leb}
use Rattle.sizes.specs.Sizes.{most_stops, word_stops}
use Rattle.stops.specs.Code.{last_stop}
use Rattle.stops.proofs.Digits.{digit_pow}
use Rattle.stops.proofs.node_record.Record.last.Goals as goal

pub returns-then-size-eq0 : goal.returns-then-size-eq0
unfolding last_stop
returns-then-size-eq0 c = let size = c.args.self.size in simp (eq-eqb size 0 c.if-size-eq0.true)

pub returns-then-size-le-WORD_STOPS : goal.returns-then-size-le-WORD_STOPS
unfolding last_stop
returns-then-size-le-WORD_STOPS c =
    let size = c.args.self.size in
    let some : size ≢ 0 = c.if-size-eq0.false in
    let few : size ≤ word_stops = omega arith in
    simp (digit_pow (size - 1), ne_eqb size 0 some, le-leb size word_stops few)

pub returns-then-size-le-MOST_STOPS : goal.returns-then-size-le-MOST_STOPS
unfolding last_stop
returns-then-size-le-MOST_STOPS c =
    let size = c.args.self.size in
    let some : size ≢ 0 = c.if-size-eq0.false in
    let many : word_stops < size = omega arith in
    let few : size ≤ most_stops = omega arith in
    simp (digit_pow (size - 1 - word_stops), ne_eqb size 0 some, lt-leb size word_stops many, le-leb size most_stops few)

pub returns : goal.returns
unfolding last_stop
returns c =
    let size = c.args.self.size in
    let some : size ≢ 0 = c.if-size-eq0.false in
    let many : most_stops < size = omega arith in
    simp (ne_eqb size 0 some, lt-leb size word_stops (let h : word_stops < size = omega arith in h), lt-leb size most_stops many)
