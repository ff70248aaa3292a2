-- Which bounds are closer than which: close than plain, for each way that a day may end, and never across.
use Rattle.std.specs.Prelude.{refl, ℕ}
use Rattle.std.proofs.Common.{inl, inr, arith}
use Rattle.days.specs.Days.{Closer}

close_than_plain : Closer 1 0 × Closer 3 2
close_than_plain = (inl (refl, refl), inr (refl, refl))

-- j is as close as k at most
abbrev NotCloser : ℕ → ℕ → Type 0
NotCloser j k = Closer j k → ⊥

never_across : NotCloser 2 1 × NotCloser 2 0 × NotCloser 3 1 × NotCloser 3 0
never_across = (two_one_lem, two_zero, three_one, three_zero)
  where
    two_one_lem : NotCloser 2 1
    two_one_lem (inl h) = omega (arith, h)
    two_one_lem (inr h) = omega (arith, h)

    two_zero : NotCloser 2 0
    two_zero (inl h) = omega (arith, h)
    two_zero (inr h) = omega (arith, h)

    three_one : NotCloser 3 1
    three_one (inl h) = omega (arith, h)
    three_one (inr h) = omega (arith, h)

    three_zero : NotCloser 3 0
    three_zero (inl h) = omega (arith, h)
    three_zero (inr h) = omega (arith, h)
