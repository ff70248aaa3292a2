-- Laws of choosing, by lanes' laws of nodes and blocks' laws of selections. Where there is a node, the least bound of the places is the floor
-- of the nodes (`floor-least`). The place that a search ends at is where the node stands that its selection picks:
--   chosen_first                       selection 2
--   chosen_open, chosen_complete       selections 0, 1 and 3, where some node up to their limit is open and where none is (`over_shut`,
--                                      `low_open`)
--   open_like                          of as good as the same places the first open record is the same
use mathlib.Core.Path.{◌≡◌, refl, sym, ◌∙◌, subst}
use mathlib.Core.Bool.{Bool, true, false, not, ◌&&◌}
use mathlib.Core.List.{List}
use Prim.Native.Nat.{ℕ, ◌≤◌, ◌<◌}
use native.Mathlib.Omega.{arith}
use borrow.Author.Tests.{eqb-true, eqb-false, not-true, not-false}
use lib.Dec.{T, leb, eqb, leb→le, le→leb, not_T}
use lib.ListN.{length, get_or}
use Rattle.std.specs.Prelude.{Option, Some, None}
use Rattle.lists.specs.Lists.{least}
use Rattle.lists.proofs.Tests.{tests, to_true, to_false}
use Rattle.lists.proofs.Numbers.{least_is}
use Rattle.stops.specs.Code.{empty_record}
use Rattle.stops.specs.declared.node_record.Record.{Record}
use Rattle.lanes.specs.Sizes.{every_bound}
use Rattle.lanes.specs.Code.{sized, live_of}
use Rattle.lanes.proofs.LiveLaws.{live_in_lem, in_live}
use Rattle.blocks.specs.Code.{bound_at, Least, Before, Foremost}
use Rattle.blocks.proofs.BlockLaws.{least_like}
use Rattle.blocks.proofs.SelectLaws.{below_live, Prefers, select-first, select_open, select-complete, least_met}
use Rattle.selection.specs.Code.{is_open, FirstOpen, Chosen}

-- a record above the limit is not open, and one up to it is if it is not complete
pub over_shut : (n limit : ℕ) (x : Record) → limit < x.bound → is_open n limit x ≡ false
over_shut n limit x h = rw (to_false (leb x.bound limit) (not_T (leb x.bound limit) (λ t. omega (arith, tests))))

pub low_open : (n limit : ℕ) (x : Record) → x.bound ≤ limit → is_open n limit x ≡ not (eqb (sized x).size n)
low_open n limit x h = rw (to_true (leb x.bound limit) (le→leb x.bound limit h))

-- so one up to it that is not open is complete
shut_whole : (n limit : ℕ) (x : Record) → is_open n limit x ≡ false → x.bound ≤ limit → (sized x).size ≡ n
shut_whole n limit x e h = eqb-true (sized x).size n (not-false (eqb (sized x).size n) (sym (low_open n limit x h) ∙ e))

open_parts : (b c : Bool) → (b && not c) ≡ true → T b × (c ≡ false)
open_parts true c e = (tt, not-true c e)
open_parts false c e = absurd (subst T (sym e) tt)

-- the first open record of as good as the same places
pub open_like :
    (late : Bool) (Q R : ℕ → Type 0) (n limit : ℕ) (recs : List Record) (r : Option ℕ) → ((i : ℕ) → Q i → R i) → ((i : ℕ) → R i → Q i)
    → FirstOpen late Q n limit recs r → FirstOpen late R n limit recs r
open_like late Q R n limit recs (Some r) wide narrow o = record {
  among = wide r o.among;
  opens = o.opens;
  before = λ j q b. o.before j (narrow j q) b;
}
open_like late Q R n limit recs None wide narrow o = λ j q. o j (narrow j q)

module _ (recs : List Record) (used : ℕ) (fits : used ≤ length recs) where
  pub floor-least :
      (r : ℕ) → Least (λ (i : ℕ). (0 ≤ i) × (i < used)) (bound_at recs) r → 0 < length (live_of used recs)
      → r ≡ least (λ x. x.bound) (live_of used recs)
  unfolding sized
  floor-least r l some =
      let (live, there) =
      least_met recs used fits r (least_like _ (λ (i : ℕ). i < used) _ _ r (λ i h. (omega arith, h)) (λ i p low. p.1) (λ i p. refl) l) some in
      let (i, (among, e)) = l.met live in
      let x : Record = get_or recs i empty_record in
      least_is (λ y. y.bound) (live_of used recs) r (sized x)
      (in_live recs used fits i among.1 (below_live x (omega arith)))
      (sym e)
      (λ y m. let (j, h, _, same) = live_in_lem recs used y m in rw same (l.low j (omega arith, h)))

  -- 2: the first node
  pub chosen_first : (n r : ℕ) → Foremost false recs used every_bound r → Chosen n recs used 2 r
  chosen_first n r found = record {
    inside = found.inside;
    live = below_live (get_or recs r empty_record) (omega (arith, found.within));
    picks = λ P complete. select-first recs used fits r found P;
  }

  -- 0, 1 and 3: the first up to the limit that is open; if none is, the first
  module _ (n : ℕ) {k limit : ℕ} {late : Bool} (p : Prefers recs used k late limit) where
    pub chosen_open :
        (r : ℕ) → r < used → is_open n limit (get_or recs r empty_record) ≡ true
        → ((j : ℕ) → j < used → Before late j r → is_open n limit (get_or recs j empty_record) ≡ false) → Chosen n recs used k r
    chosen_open r h e before =
        let x : Record = get_or recs r empty_record in
        let (within, left) = open_parts (leb x.bound limit) (eqb (sized x).size n) e in
        let low : x.bound ≤ limit = leb→le x.bound limit within in
        record {
          inside = h;
          live = below_live x (omega (arith, p.live));
          picks = λ P complete.
              select_open recs used fits p n P complete r h low (eqb-false (sized x).size n left)
              (λ j inside b. shut_whole n limit (get_or recs j empty_record) (before j inside b));
        }

    pub chosen_complete :
        (r : ℕ) → Foremost late recs used limit r → ((j : ℕ) → j < used → is_open n limit (get_or recs j empty_record) ≡ false) → Chosen n recs used k r
    chosen_complete r found all = record {
      inside = found.inside;
      live = below_live (get_or recs r empty_record) (omega (arith, found.within, p.live));
      picks = λ P complete.
          select-complete recs used fits p n P complete r found (λ j inside. shut_whole n limit (get_or recs j empty_record) (all j inside));
    }
