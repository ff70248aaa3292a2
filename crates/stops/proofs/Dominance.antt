-- Laws of `rec_dominates`.
--   Precedes, Dominates, dominates_parts, parts_dominate    what it asks of two records, one by one
--   refused, path_dearer                                    where one of these fails, so does the test; a dearer path fails
--   path_cheaper, paths_agree                               of records of one size, set and last stop, the path costs tell, or the orders do
use mathlib.Core.Path.{◌≡◌, sym}
use mathlib.Core.Bool.{true, false, ◌&&◌, ◌||◌}
use mathlib.Core.Logic.{inl, inr}
use Prim.Native.Nat.{◌<◌}
use native.Mathlib.Omega.{arith}
use lib.Dec.{T, ltb, eqb, eqb→eq, not_T}
use Rattle.lists.proofs.Tests.{and_parts, parts_and, to_true, to_false, same_tests, equal_eqb, Tied, tied_cases, cases_tied}
use Rattle.stops.specs.Code.{last_stop, rec_smaller, rec_dominates}
use Rattle.stops.specs.declared.node_record.Record.{Record}

-- the cheaper path or, where both cost the same, the smaller order (request A.8)
abbrev pub Precedes : Record → Record → Type 0
Precedes y z = Tied y.path z.path (rec_smaller y z)

pub record Dominates (y z : Record) : Type 0 where
  pub size : y.size ≡ z.size
  pub set : y.set ≡ z.set
  pub last : last_stop y ≡ last_stop z
  pub precedes : Precedes y z

module _ (y z : Record) where
  pub dominates_parts : T (rec_dominates y z) → Dominates y z
  unfolding rec_dominates
  dominates_parts t =
      let (s, m, l, p) =
      and_parts (eqb y.size z.size) (eqb y.set z.set) (eqb (last_stop y) (last_stop z))
      (ltb y.path z.path || eqb y.path z.path && rec_smaller y z) t in
      record {
        size = eqb→eq y.size z.size s;
        set = eqb→eq y.set z.set m;
        last = eqb→eq (last_stop y) (last_stop z) l;
        precedes = tied_cases y.path z.path (rec_smaller y z) p;
      }

  pub parts_dominate : Dominates y z → T (rec_dominates y z)
  unfolding rec_dominates
  parts_dominate d =
      parts_and (eqb y.size z.size) (eqb y.set z.set) (eqb (last_stop y) (last_stop z))
      (ltb y.path z.path || eqb y.path z.path && rec_smaller y z)
      (equal_eqb y.size z.size d.size)
      (equal_eqb y.set z.set d.set)
      (equal_eqb (last_stop y) (last_stop z) d.last)
      (cases_tied y.path z.path (rec_smaller y z) d.precedes)

  pub refused : (Dominates y z → ⊥) → false ≡ rec_dominates y z
  refused h = sym (to_false (rec_dominates y z) (not_T (rec_dominates y z) (λ t. h (dominates_parts t))))

  pub path_dearer : z.path < y.path → Dominates y z → ⊥
  path_dearer h d = go d.precedes
    where
      go : Precedes y z → ⊥
      go (inl l) = omega arith
      go (inr (e, s)) = omega arith

  module _ (a : y.size ≡ z.size) (b : y.set ≡ z.set) (e : last_stop y ≡ last_stop z) where
    dominate : Precedes y z → T (rec_dominates y z)
    dominate p = parts_dominate (record { size = a; set = b; last = e; precedes = p })

    pub path_cheaper : y.path < z.path → true ≡ rec_dominates y z
    path_cheaper h = sym (to_true (rec_dominates y z) (dominate (inl h)))

    pub paths_agree : y.path ≡ z.path → rec_smaller y z ≡ rec_dominates y z
    paths_agree h = same_tests (rec_smaller y z) (rec_dominates y z) (λ s. dominate (inr (h, s))) (λ t. go (dominates_parts t).precedes)
      where
        go : Precedes y z → T (rec_smaller y z)
        go (inl l) = absurd (omega arith)
        go (inr (f, s)) = s
