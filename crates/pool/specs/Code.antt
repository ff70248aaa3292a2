-- What holds of the pool and the index while a call works. These definitions are the code's own: a reader of the promise needs none of them.
--   Laid, LaidTo        the records, a layout and the index belong together; with minima that know a number of the records alone
--   Ranked, RankedTo    the least bounds of the blocks are right; for so many records
--   OnePool             two layouts of one pool, with the same kept
use Rattle.std.specs.Prelude.{◌≡◌, List, ℕ, ◌+◌, ◌*◌, ◌^◌, ◌≤◌, ◌<◌, T, length}
use Rattle.stops.specs.declared.node_record.Record.{Record}
use Rattle.lanes.specs.Sizes.{blocks}
use Rattle.lanes.specs.Layouts.{active_lane, far_lane}
use Rattle.lanes.specs.declared.layout.Layout.{Layout}
use Rattle.chains.specs.Code.{Walkable}
use Rattle.blocks.specs.Code.{Blocked}

pub record RankedTo (recs : List Record) (p : Layout) (count : ℕ) (index : List ℕ) : Type 0 where
  pub minima : Blocked recs count (2 ^ p.shift) index
  pub reach : blocks * 2 ^ p.shift < 2 ^ 62

abbrev pub Ranked : List Record → Layout → List ℕ → Type 0
Ranked recs p index = RankedTo recs p p.used index

-- the two lanes have room beside each other; what is linked has right chains, and few enough records; what is ranked has right minima
pub record LaidTo (recs : List Record) (p : Layout) (count : ℕ) (index : List ℕ) : Type 0 where
  pub whole : p.capacity ≡ length recs
  pub some : 1 ≤ p.capacity
  pub fits : p.used + p.far ≤ p.capacity
  pub lane : Walkable recs (active_lane p) index
  pub far_lane_lem : Walkable recs (far_lane p) index
  pub few : T p.linked → p.capacity < 2 ^ 32
  pub far_few : T p.far_linked → p.capacity < 2 ^ 32
  pub ranks : T p.ranked → RankedTo recs p count index

abbrev pub Laid : List Record → Layout → List ℕ → Type 0
Laid recs p index = LaidTo recs p p.used index

pub record OnePool (p q : Layout) : Type 0 where
  pub capacity : q.capacity ≡ p.capacity
  pub ranked : q.ranked ≡ p.ranked
  pub linked : q.linked ≡ p.linked
  pub far_linked : q.far_linked ≡ p.far_linked
