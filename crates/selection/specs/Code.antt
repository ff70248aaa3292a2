-- What choosing a record means. These definitions are the code's own: a reader of the promise needs none of them.
--   nth_of                numbers counted from the front or from the end
--   is_open               a record up to a limit that is not complete
--   OpenAt, FirstOpen     the first such among some places, if there is one
--   Chosen, Chose         a place has the node that a selection picks
use Rattle.std.specs.Prelude.{◌≡◌, Bool, true, false, not, ◌&&◌, List, ℕ, ◌+◌, ◌-◌, ◌<◌, leb, eqb, get_or, Option, Some, None, Result, Ok, Err}
use Rattle.search.specs.Problem.{Problem}
use Rattle.search.specs.Selection.{chosen, select_by}
use Rattle.stops.specs.Code.{empty_record}
use Rattle.stops.specs.declared.node_record.Record.{Record}
use Rattle.answer.specs.declared.refusal.Refusal.{Refusal}
use Rattle.answer.specs.Refusals.{number}
use Rattle.lanes.specs.Code.{sized, is_live, live_of, others_of}
use Rattle.blocks.specs.Code.{Before}

-- number c of those from `from` to `to`, counted from 0 and from the front or, if late, from the end
abbrev pub nth_of : Bool → ℕ → ℕ → ℕ → ℕ
nth_of true from to c = to - 1 - c
nth_of false from to c = from + c

-- x has a bound up to a limit and is not complete, of n stops
abbrev pub is_open : ℕ → ℕ → Record → Bool
is_open n limit x = leb x.bound limit && not (eqb (sized x).size n)

-- r is the first or, if late, the last of the places that Q holds of with an open record
pub record OpenAt (late : Bool) (Q : ℕ → Type 0) (n limit : ℕ) (recs : List Record) (r : ℕ) : Type 0 where
  pub among : Q r
  pub opens : is_open n limit (get_or recs r empty_record) ≡ true
  pub before : (j : ℕ) → Q j → Before late j r → is_open n limit (get_or recs j empty_record) ≡ false

-- that place, or none where no record at such a place is open
abbrev pub FirstOpen : Bool → (ℕ → Type 0) → ℕ → ℕ → List Record → Option ℕ → Type 0
FirstOpen late Q n limit recs (Some r) = OpenAt late Q n limit recs r
FirstOpen late Q n limit recs None = (j : ℕ) → Q j → is_open n limit (get_or recs j empty_record) ≡ false

-- i is where the node stands that a selection picks of the active ones; a node of size n is complete
pub record Chosen (n : ℕ) (recs : List Record) (used selection i : ℕ) : Type 0 where
  pub inside : i < used
  pub live : is_live (get_or recs i empty_record) ≡ true
  pub picks :
      (P : Problem Record) → ((x : Record) → P.complete x ≡ eqb x.size n)
      → select_by P (λ x. x.bound) selection (live_of used recs) ≡ chosen (sized (get_or recs i empty_record)) (others_of used i recs)

-- the place is that of the node picked; a selection above 3 is refused, and the refusal's number is 4
abbrev pub Chose : ℕ → List Record → ℕ → ℕ → Result ℕ Refusal → Type 0
Chose n recs used selection (Ok i) = Chosen n recs used selection i
Chose n recs used selection (Err e) = (3 < selection) × (number e ≡ 4)
