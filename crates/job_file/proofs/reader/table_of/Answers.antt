-- The goals of `reader::table_of` that the search leaves.
use mathlib.Core.Path.{refl, ap, sym, ◌∙◌}
use mathlib.Core.List.{[], ◌∷◌, ◌++◌}
use Prim.Native.Nat.{ℕ}
use native.Mathlib.Omega.{arith}
use Rattle.sizes.specs.Sizes.{table_numbers}
use Rattle.lists.specs.Lists.{padded}
use Rattle.lists.proofs.Padded.{padded_one}
use Rattle.job_format.specs.Reader.{words_in}
use Rattle.job_format.proofs.ByteLaws.{words-next, length-words}
use Rattle.job_file.proofs.reader.table_of.Goals as goal

pub loop-k-init : goal.loop-k-init
unfolding padded words_in
loop-k-init c = refl

pub loop-k-preserved : goal.loop-k-preserved
loop-k-preserved c =
    let at = c.loop-k in
    let file = c.args.file.now in
    let next = words-next at.k file ∙ ap (λ (x : ℕ). words_in at.k file ++ (x ∷ [])) (sym c.word_at.ensures) in
    rw at.invariant (padded_one table_numbers _ _ at.k _ (length-words at.k file) next (omega arith))
