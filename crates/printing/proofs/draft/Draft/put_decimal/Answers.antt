-- `put_decimal` meets its contract: a space, and behind it the digits.
use mathlib.Core.Path.{◌≡◌, ap, ◌∙◌}
use mathlib.Core.List.{List, [], ◌∷◌, ◌++◌, append_assoc}
use Prim.Native.Nat.{ℕ}
use native.Mathlib.Omega.{arith}
use lib.ListN.{length, take, length-append, length-take}
use Rattle.printing.proofs.DigitLaws.{fewest_few, space_digits}
use Rattle.printing.proofs.draft.Draft.put_decimal.Goals as goal

pub returns : goal.returns
returns c =
    let old = c.args.self.now in
    let fewest = c.decimal-count.ensures.len in
    let few = fewest_few _ _ fewest c.ranges.x.fits in
    let digits : List ℕ = take c.decimal-count.result c.decimal-count.new.out in
    let both : c.put_bytes-2.new.self ≡ old ++ ((32 ∷ []) ++ digits) = rw (c.put_bytes-2.ensures, c.put_bytes.ensures) (append_assoc old (32 ∷ []) digits) in
    (both ∙ rw (space_digits _ _ _ fewest c.decimal-count.ensures.digits), omega (arith, few, simp (length-append, length-take) at (ap length both)))
