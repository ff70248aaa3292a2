-- What request A.6 says of a first order (specs/Request), proved, a theorem for each type.
use mathlib.Core.Path.{◌≡◌, sym, ap, ap₂, subst, ◌∙◌}
use mathlib.Core.Bool.{Bool, not}
use mathlib.Core.List.{List, [], map}
use Prim.Native.Nat.{ℕ}
use lib.Dec.{T}
use Rattle.orders.specs.Orders.{Node, extend}
use Rattle.orders.specs.Pairs.{pairs_of, OnePairs, Pairing, respects, children}
use Rattle.orders.proofs.Pairs.{respects-same}
use Rattle.stops.specs.Tables.{rows}
use Rattle.stops.specs.Legs.{legs}
use Rattle.stops.specs.Bounds.{ends_away}
use Rattle.answer.specs.Checks.{no_such_bound, cause₁₁, or_later, table_cause, first_cause}
use Rattle.answer.proofs.Passes.{pairs_pass, pairs_pairing, known_bound}
use Rattle.answer.proofs.JobCause.{table_causes}
use Rattle.first_answer.specs.First.{legs_of}
use Rattle.first_answer.specs.Request.{first_on, pairs_last, NextAsChildren, FirstNoPairs, BadPairsRefused, FirstSequencePlaysNoPart}
use Rattle.first_answer.proofs.NearestOrder.{next_stops-ready}
use Rattle.first_answer.proofs.First.{first_on_lem}

pub next_as_children : NextAsChildren
unfolding children
next_as_children n pairs x passed h =
    let ok : Pairing n (pairs_of pairs) = pairs_pairing (pairs_pass n pairs (subst (λ (b : Bool). T (not b)) (sym passed) tt)) in
    ap (map (extend x)) (next_stops-ready n ok x h)

pub first_no_pairs : FirstNoPairs
unfolding respects first_cause cause₁₁ legs_of
first_no_pairs n bound table r e = e ∙ first_on_lem n bound table []

pub bad_pairs_refused : BadPairsRefused
bad_pairs_refused n bound table pairs r e passed known bad =
    e ∙ first_on_lem n bound table pairs
    ∙ ap (first_on (legs (rows n (ends_away bound) table)) (respects (pairs_of pairs)) n)
    (known_bound n bound table pairs known ∙ (table_causes n table).none passed (pairs_last n pairs) ∙ ap (λ (b : Bool). or_later b 11 0) bad)

-- pairs that two files have make one test
one_test : (a b : List ℕ) → OnePairs a b → respects (pairs_of a) ≡ respects (pairs_of b)
one_test a b same i x = respects-same (pairs_of a) (pairs_of b) same x i

pub first_sequence_plays_no_part : FirstSequencePlaysNoPart
unfolding first_cause
first_sequence_plays_no_part n bound table a b r s e f same causes =
    e ∙ first_on_lem n bound table a
    ∙ ap₂ (λ (allowed : Node → Bool) (k : ℕ). first_on (legs (rows n (ends_away bound) table)) allowed n k) (one_test a b same)
    (ap (λ (eleven : Bool). table_cause n table (or_later (no_such_bound bound) 4 (or_later eleven 11 0))) causes)
    ∙ sym (f ∙ first_on_lem n bound table b)
