-- What is looked at of the input: a byte more than the longest job has is enough to know what is printed, however long the input is.
use mathlib.Core.Path.{◌≡◌, refl, sym, ◌∙◌}
use mathlib.Core.Bool.{Bool, true, false}
use mathlib.Core.List.{List}
use Prim.Native.Nat.{ℕ, suc, ◌<◌}
use native.Mathlib.Omega.{arith}
use lib.Dec.{ltb}
use lib.ListN.{length, take, length-take}
use lib.Seq.{take_all}
use borrow.Author.Tests.{ltb-true, ltb-false}
use Rattle.sizes.specs.Sizes.{longest}
use Rattle.plan.specs.Output.{output}
use Rattle.plan.proofs.OutputLaws.{long_output}

pub front_enough : (input : List ℕ) → output (take (suc longest) input) ≡ output input
front_enough input = go (ltb longest (length input)) refl
  where
    go : (b : Bool) → ltb longest (length input) ≡ b → output (take (suc longest) input) ≡ output input
    go true e =
        let long : longest < length input = ltb-true longest (length input) e in
        let front : longest < length (take (suc longest) input) = omega (arith, length-take (suc longest) input) in
        sym (long_output (take (suc longest) input) front) ∙ long_output input long
    go false e = rw (take_all (suc longest) input (omega (arith, ltb-false longest (length input) e)))
