-- `order::stop_at` meets its contract: the digit stands in the first word, or in the second where the first has no room.
use Prim.Native.Nat.{◌-◌}
use native.Mathlib.Omega.{arith}
use borrow.Author.Tests.{lt-ltb, le-ltb}
use Rattle.sizes.specs.Sizes.{word_stops}
use Rattle.stops.proofs.Digits.{digit_pow}
use Rattle.records.specs.Records.{stop_at}
use borrow.Author.Rules.{rules}
use Rattle.records.proofs.order.stop_at.Goals as goal

pub overflow_shr-result : goal.overflow_shr-result
overflow_shr-result c = search rules

pub returns-then-k-lt-WORD_STOPS : goal.returns-then-k-lt-WORD_STOPS
unfolding stop_at
returns-then-k-lt-WORD_STOPS c =
    let k = c.args.k in
    (simp (digit_pow k, lt-ltb k word_stops c.if-k-lt-WORD_STOPS.true), omega arith)

pub returns : goal.returns
unfolding stop_at
returns c =
    let k = c.args.k in
    (simp (digit_pow (k - word_stops), le-ltb k word_stops c.if-k-lt-WORD_STOPS.false), omega arith)
