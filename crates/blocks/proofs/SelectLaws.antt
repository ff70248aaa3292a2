-- From places to the selection. The nodes among the first places of the pool are those before a live place, the node at it and those
-- behind it, each of which stands at a live place (lanes' laws; `live_behind`). So the node at a live place is the one that a selection
-- picks if none ranks lower, and each that comes before it, from the selection's side, ranks higher (`select_live`):
--   select-first                       selection 2: the first live place
--   select_open, select-complete       selections 0, 1 and 3, which prefer nodes that are not complete (`Prefers`): the foremost place up to
--                                      their limit whose node is not complete; if all up to it are complete, the foremost one
--   prefers_least, prefers_any         the limit is the least bound for 0 and 1 (request A.8), any bound for 3
-- Where there is a node, there is a live place (`some_live`), so that the least bound is met (`least_met`).
use mathlib.Core.Path.{◌≡◌, refl, ap, sym, ◌∙◌, subst}
use mathlib.Core.Bool.{Bool, true, false, cond}
use mathlib.Core.List.Memᴰ
use mathlib.Core.List.{List, [], ◌∷◌, ◌++◌}
use mathlib.Core.Logic.{⊎_elim}
use Prim.Native.Nat.{ℕ, suc, ◌+◌, ◌*◌, ◌≤◌, ◌<◌}
use native.Mathlib.Omega.{arith}
use borrow.Author.Tests.{eq-eqb, ne_eqb}
use lib.Dec.{T, ltb, eqb, ltb→lt, lt→ltb, not_T}
use lib.ListN.{length, get_or, take}
use lib.Seq.{slice, take-length, get_or-take, get_or-drop, length-slice}
use Rattle.lists.specs.Lists.{In}
use Rattle.lists.proofs.Tests.{tests, ordered, to_true, to_false}
use Rattle.lists.proofs.Members.{in_head}
use Rattle.search.specs.Problem.{Problem}
use Rattle.search.specs.Selection.{Choice, nothing, chosen, select_by}
use Rattle.search.proofs.General.{beats, prefer, against, pick}
use Rattle.search.proofs.Pick.{picked_of, picked_in}
use Rattle.search.proofs.PlainSelection.{select_is_pick, late_by, waits, low_rank, rank_by}
use Rattle.stops.specs.Code.{empty_record}
use Rattle.stops.specs.declared.node_record.Record.{Record}
use Rattle.lanes.specs.Sizes.{gone, every_bound}
use Rattle.lanes.specs.Code.{sized, is_live, live_in, live_of, others_of}
use Rattle.lanes.proofs.LiveLaws.{live_split, live_in_lem}
use Rattle.blocks.specs.Code.{bound_at, Least, Before, Foremost}

-- A node that goes before those in front of it, and before which none behind it goes, is the one that is picked.
pick_split :
    {N : Type 0} (late : Bool) (rank : N → ℕ) (front back : List N) (b : N) → ((x : N) → In x front → T (beats late rank b x))
    → ((x : N) → In x back → T (beats late rank x b) → ⊥) → pick late rank (front ++ b ∷ back) ≡ chosen b (front ++ back)
unfolding pick against prefer
pick_split {N} late rank [] back b before behind = go (pick late rank back) refl
  where
    go : (c : Choice N) → pick late rank back ≡ c → against late rank b back c ≡ chosen b back
    go nothing e = refl
    go (chosen y ys) e =
        rw (to_false (beats late rank y b) (not_T (beats late rank y b) (behind y (picked_in (picked_of rank late back y ys e)))))
pick_split late rank (x ∷ front) back b before behind =
    rw (
      pick_split late rank front back b (λ y i. before y (Memᴰ.tail i)) behind,
      to_true (beats late rank b x) (before x in_head),
    )

-- A record is live if its bound is below that of gone ones.
live_below : (x : Record) → is_live x ≡ true → x.bound < gone
unfolding is_live
live_below x e = ltb→lt x.bound gone (subst T (sym e) tt)

pub below_live : (x : Record) → x.bound < gone → is_live x ≡ true
unfolding is_live
below_live x h = to_true (ltb x.bound gone) (lt→ltb x.bound gone h)

-- b goes before a node x in front of it, and no x behind it before b: b ranks no higher than x, and lower where x comes before it.
module _ {N : Type 0} (rank : N → ℕ) (b x : N) (r j : ℕ) (up : rank b ≤ rank x) where
  beats-front : (late : Bool) → j < r → (Before late j r → rank b < rank x) → T (beats late rank b x)
  unfolding beats
  beats-front true h lower = omega (arith, tests)
  beats-front false h lower = omega (arith, tests, lower h)

  beats-behind : (late : Bool) → r < j → (Before late j r → rank b < rank x) → T (beats late rank x b) → ⊥
  unfolding beats
  beats-behind true h lower t = omega (arith, tests, lower h)
  beats-behind false h lower t = omega (arith, tests)

-- whether a record waits, where one of size n is complete
module _ (P : Problem Record) (n : ℕ) (x : Record) (complete : P.complete x ≡ eqb x.size n) where
  waits_whole : x.size ≡ n → waits P x ≡ 1
  waits_whole e = rw (complete, eq-eqb x.size n e)

  waits_not : (x.size ≡ n → ⊥) → waits P x ≡ 0
  waits_not e = rw (complete, ne_eqb x.size n e)

-- the node at a place, and its rank by selection k
abbrev node_at : List Record → ℕ → Record
node_at recs j = sized (get_or recs j empty_record)

abbrev rank_at : Problem Record → List Record → ℕ → ℕ → ℕ
rank_at P recs k j = rank_by P (λ x. x.bound) k (node_at recs j)

-- Selection k looks, from one side, for a node with a bound up to a limit, first for one that is not complete: such nodes rank from `base` on,
-- complete ones one behind the others, and nodes above the limit behind them all.
pub record Prefers (recs : List Record) (used k : ℕ) (late : Bool) (limit : ℕ) : Type 0 where
  pub few : k ≤ 3
  pub side : late_by k ≡ late
  pub live : limit < gone
  pub base : ℕ
  pub within : (P : Problem Record) (j : ℕ) → j < used → bound_at recs j ≤ limit → rank_at P recs k j ≡ base + waits P (node_at recs j)
  pub beyond : (P : Problem Record) (j : ℕ) → limit < bound_at recs j → bound_at recs j < gone → base + 1 < rank_at P recs k j

-- 0 and 1: up to the least bound
pub prefers_least :
    {recs : List Record} {used : ℕ} (late : Bool) (m : ℕ) → Least (λ (i : ℕ). i < used) (bound_at recs) m → m < gone
    → Prefers recs used (cond late 1 0) late m
unfolding sized
prefers_least {recs} {used} late m l live = go late
  where
    by : (k : ℕ) (b : Bool) → k ≤ 3 → late_by k ≡ b → ((P : Problem Record) (x : Record) → rank_by P (λ y. y.bound) k x ≡ low_rank P (λ y. y.bound) x)
        → Prefers recs used k b m
    by k b few side ranks = record {
      few = few;
      side = side;
      live = live;
      base = 2 * m;
      within = λ P j inside low. omega (arith, ranks P (node_at recs j), l.low j inside);
      beyond = λ P j high h. omega (arith, ranks P (node_at recs j));
    }

    go : (b : Bool) → Prefers recs used (cond b 1 0) b m
    go true = by 1 true (omega arith) refl (λ P x. refl)
    go false = by 0 false (omega arith) refl (λ P x. refl)

-- 3: up to any bound
pub prefers_any : {recs : List Record} {used : ℕ} → Prefers recs used 3 true every_bound
prefers_any = record {
  few = omega arith;
  side = refl;
  live = omega arith;
  base = 0;
  within = λ P j inside low. omega arith;
  beyond = λ P j high h. absurd (omega arith);
}

-- The first `used` records, with a live one at r.
module _ (recs : List Record) (used : ℕ) (fits : used ≤ length recs) where
  live_behind :
      (r : ℕ) (x : Record) → In x (live_in (slice (suc r) used recs))
      → (j : ℕ) × ((r < j) × ((j < used) × ((bound_at recs j < gone) × (x ≡ node_at recs j))))
  live_behind r x m =
      let part = slice (suc r) used recs in
      let (j, inside, live, e) = live_in_lem part (length part) x (rw (take-length part) m) in
      let near : suc r + j < used = omega (arith, length-slice (suc r) used recs fits) in
      let same : get_or part j empty_record ≡ get_or recs (suc r + j) empty_record =
      get_or-drop (suc r) (take used recs) j empty_record ∙ get_or-take used recs (suc r + j) empty_record near in
      (suc r + j, (omega arith, (near, (live_below (get_or recs (suc r + j) empty_record) (rw (← same) live), e ∙ ap sized same))))

  -- the node at a live place is picked if none ranks lower, nor as low that comes before it
  select_live :
      (P : Problem Record) (k r : ℕ) → k ≤ 3 → r < used → bound_at recs r < gone
      → ((j : ℕ) → j < used → bound_at recs j < gone → rank_at P recs k r ≤ rank_at P recs k j)
      → ((j : ℕ) → j < used → bound_at recs j < gone → Before (late_by k) j r → rank_at P recs k r < rank_at P recs k j)
      → select_by P (λ x. x.bound) k (live_of used recs) ≡ chosen (node_at recs r) (others_of used r recs)
  select_live P k r few h live least before =
      ap (select_by P (λ x. x.bound) k) (live_split recs used fits r h (below_live (get_or recs r empty_record) live))
      ∙ select_is_pick P (λ x. x.bound) k few _
      ∙ pick_split (late_by k) rank (live_in (take r recs)) (live_in (slice (suc r) used recs)) (node_at recs r)
      (λ x i.
      let (j, near, low, e) = live_in_lem recs r x i in
      let inside : j < used = omega arith in
      let under = live_below (get_or recs j empty_record) low in
      rw e (beats-front rank (node_at recs r) (node_at recs j) r j (least j inside under) (late_by k) near (before j inside under)))
      (λ x i.
      let (j, (near, (inside, (low, e)))) = live_behind r x i in
      rw e (beats-behind rank (node_at recs r) (node_at recs j) r j (least j inside low) (late_by k) near (before j inside low)))
    where
      rank : Record → ℕ
      rank = rank_by P (λ x. x.bound) k

  -- 2: the first live place
  pub select-first :
      (r : ℕ) → Foremost false recs used every_bound r
      → (P : Problem Record) → select_by P (λ x. x.bound) 2 (live_of used recs) ≡ chosen (node_at recs r) (others_of used r recs)
  select-first r found P =
      select_live P 2 r (omega arith) found.inside (omega (arith, found.within)) (λ j inside low. omega arith)
      (λ j inside low before. absurd (omega (arith, found.before j inside before)))

  -- 0, 1 and 3, where one of size n is complete
  module _
      {k limit : ℕ} {late : Bool} (p : Prefers recs used k late limit) (n : ℕ) (P : Problem Record)
      (complete : (x : Record) → P.complete x ≡ eqb x.size n) where
    -- what is at most the ranks up to the limit, and those above it, is at most any
    all_up : (v j : ℕ) → bound_at recs j < gone → v ≤ p.base + 2 → (bound_at recs j ≤ limit → v ≤ rank_at P recs k j) → v ≤ rank_at P recs k j
    all_up v j live up near = ⊎_elim near (λ o. omega (arith, p.beyond P j o live)) (ordered (bound_at recs j) limit)

    -- the rank of a complete node up to the limit
    whole_rank : (j : ℕ) → j < used → bound_at recs j ≤ limit → (node_at recs j).size ≡ n → rank_at P recs k j ≡ p.base + 1
    whole_rank j inside low whole =
        omega (arith, p.within P j inside low, waits_whole P n (node_at recs j) (complete (node_at recs j)) whole)

    -- the foremost node up to the limit that is not complete
    pub select_open :
        (r : ℕ) → r < used → bound_at recs r ≤ limit → ((node_at recs r).size ≡ n → ⊥)
        → ((j : ℕ) → j < used → Before late j r → bound_at recs j ≤ limit → (node_at recs j).size ≡ n)
        → select_by P (λ x. x.bound) k (live_of used recs) ≡ chosen (node_at recs r) (others_of used r recs)
    select_open r h low left before =
        let at : rank_at P recs k r ≡ p.base =
        omega (arith, p.within P r h low, waits_not P n (node_at recs r) (complete (node_at recs r)) left) in
        select_live P k r p.few h (omega (arith, p.live))
        (λ j inside live. all_up _ j live (omega (arith, at)) (λ o. omega (arith, at, p.within P j inside o)))
        (λ j inside live b.
        let whole = before j inside (subst (λ (l : Bool). Before l j r) p.side b) in
        omega (arith, all_up (p.base + 1) j live (omega arith) (λ o. omega (arith, whole_rank j inside o (whole o)))))

    -- .. or, if all nodes up to it are complete, the foremost of them
    pub select-complete :
        (r : ℕ) → Foremost late recs used limit r → ((j : ℕ) → j < used → bound_at recs j ≤ limit → (node_at recs j).size ≡ n)
        → select_by P (λ x. x.bound) k (live_of used recs) ≡ chosen (node_at recs r) (others_of used r recs)
    select-complete r found all =
        let at : rank_at P recs k r ≡ p.base + 1 = whole_rank r found.inside found.within (all r found.inside found.within) in
        select_live P k r p.few found.inside (omega (arith, p.live, found.within))
        (λ j inside live. all_up _ j live (omega (arith, at)) (λ o. omega (arith, at, whole_rank j inside o (all j inside o))))
        (λ j inside live b.
        omega (arith, at, p.beyond P j (found.before j inside (subst (λ (l : Bool). Before l j r) p.side b)) live))

  -- Where there is a node, there is a live place, and the least bound is met.
  pub some_live : 0 < length (live_of used recs) → (i : ℕ) × ((i < used) × (bound_at recs i ≤ every_bound))
  some_live h = go (live_of used recs) refl h
    where
      go : (l : List Record) → live_of used recs ≡ l → 0 < length l → (i : ℕ) × ((i < used) × (bound_at recs i ≤ every_bound))
      go [] e some = absurd (omega arith)
      go (x ∷ xs) e some =
          let (i, inside, live, same) = live_in_lem recs used x (subst (λ (l : List Record). In x l) (sym e) in_head) in
          (i, (inside, omega (arith, live_below (get_or recs i empty_record) live)))

  pub least_met :
      (m : ℕ) → Least (λ (i : ℕ). i < used) (bound_at recs) m → 0 < length (live_of used recs)
      → (m < gone) × ((i : ℕ) × ((i < used) × (bound_at recs i ≤ m)))
  least_met m l h =
      let (i, (inside, low)) = some_live h in
      let live : m < gone = omega (arith, l.low i inside) in
      let (j, (near, e)) = l.met live in
      (live, (j, (near, omega arith)))
