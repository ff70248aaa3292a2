-- `put_counts` meets its contract: five lines, one behind the other.
use mathlib.Core.Path.{◌≡◌}
use mathlib.Core.List.{List, [], ◌∷◌, ◌++◌, append_assoc}
use Prim.Native.Nat.{ℕ}
use native.Mathlib.Omega.{arith}
use Rattle.report_format.specs.Text.{line}
use Rattle.report_format.specs.Printed.{count_lines}
use Rattle.printing.proofs.lines.put_counts.Goals as goal

five : (old a b c d e : List ℕ) → old ++ a ++ b ++ c ++ d ++ e ≡ old ++ (a ++ b ++ c ++ d ++ e)
five old a b c d e = simp append_assoc

pub returns : goal.returns
unfolding count_lines line
returns c =
    let r = c.args.r in (
      rw (c.put_line-5.ensures.0, c.put_line-4.ensures.0, c.put_line-3.ensures.0, c.put_line-2.ensures.0, c.put_line.ensures.0)
          (five c.args.draft.now (line "branched" (r.branched ∷ [])) (line "generated" (r.generated ∷ [])) (line "eliminated" (r.eliminated ∷ [])) (line "active" (r.active ∷ [])) (line "most" (r.most ∷ []))),
      omega arith,
    )
