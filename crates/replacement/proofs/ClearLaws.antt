-- Laws of a lane from whose end records that are gone are taken off.
--   taking_slots     the children that take part in rule 8 stand in their slots
--   laid_trimmed     the pool and the index still belong together
--   left_few         how many nodes are left once one has left and others are struck out
--   kept-cleared     what the pool is then
use mathlib.Core.Path.{◌≡◌, refl, ap, sym, ◌∙◌}
use mathlib.Core.Bool.{Bool, true, false, not}
use mathlib.Core.List.Memᴰ
use mathlib.Core.List.{List}
use mathlib.Core.Logic.{◌⊎◌, inl, inr}
use Prim.Native.Nat.{ℕ, zero, suc, ◌+◌, ◌-◌, ◌≤◌, ◌<◌}
use native.Mathlib.Nat.{add-suc, add-zero}
use native.Mathlib.Omega.{arith}
use borrow.Author.Tests.{ltb-false}
use lib.ListN.{length, get_or, set, length-set}
use lib.Seq.{get_or-set_other}
use Rattle.lists.specs.Lists.{keep}
use Rattle.stops.specs.Code.{empty_record}
use Rattle.stops.specs.declared.node_record.Record.{Record}
use Rattle.stops.proofs.SetBits.{stops_in_zero}
use Rattle.records.specs.Code.{Slotted}
use Rattle.lanes.specs.Sizes.{gone, active_heads, far_heads}
use Rattle.lanes.specs.Code.{sized, is_live, marked, live_of, others_of}
use Rattle.lanes.specs.declared.layout.Layout.{Layout}
use Rattle.lanes.specs.Layouts.{active_lane, far_lane}
use Rattle.lanes.proofs.LiveLaws.{live_trim, live_marked, others_few, far_like}
use Rattle.chains.specs.Code.{Sized, counting, Walkable, Only}
use Rattle.chains.proofs.ChainLaws.{alike_same, chained_like}
use Rattle.blocks.specs.Code.{Blocked}
use Rattle.blocks.proofs.KeepLaws.{blocked_like, blocked_fewer}
use Rattle.pool.specs.Code.{Laid}
use Rattle.replacement.specs.declared.change.Change.{Change}
use Rattle.replacement.specs.Code.{Strikes, Changing, Kept}
use Rattle.replacement.proofs.StrikeLaws.{strikes_live}
use Rattle.replacement.proofs.TidyLaws.{numbered}

-- the children that take part in rule 8 stand in their slots
pub taking_slots :
    {recs : List Record} {p : Layout} {i : ℕ} {c : Change} {kids : List Record} → Changing recs p i c kids
    → Slotted c.taking kids × Sized c.taking kids
taking_slots {c = c} {kids} change = go change.takes
  where
    go : (c.taking ≡ c.alive) ⊎ (c.taking ≡ 0) → Slotted c.taking kids × Sized c.taking kids
    go (inl e) = rw e (change.slotted, change.sizes)
    go (inr e) =
        rw e (record { small = omega arith; room = change.slotted.room }, λ s m. absurd (Memᴰ.not-nil (rw stops_in_zero at m)))

gone_bound : (x : Record) → is_live x ≡ false → gone ≤ x.bound
unfolding is_live
gone_bound x e = ltb-false x.bound gone e

-- the minima are those of fewer records, where the others are gone
blocked_down :
    (recs : List Record) (e d width : ℕ) (index : List ℕ) → ((j : ℕ) → e ≤ j → j < e + d → is_live (get_or recs j empty_record) ≡ false)
    → Blocked recs (e + d) width index → Blocked recs e width index
blocked_down recs e zero width index none b = rw add-zero at b
blocked_down recs e (suc d) width index none b =
    blocked_down recs e d width index (λ j l h. none j l (omega arith))
    (blocked_fewer recs (e + d) width index (rw add-suc at b) (gone_bound (get_or recs (e + d) empty_record) (none (e + d) (omega arith) (omega arith))))

-- the far lane is apart from the heads of the active one
far_walkable :
    (recs : List Record) (p : Layout) (index index' : List ℕ) → Only active_heads index index' → Walkable recs (far_lane p) index
    → Walkable recs (far_lane p) index'
far_walkable recs p index index' o w = record {
  lies = w.lies;
  chains = λ on.
      chained_like recs recs (far_lane p) index index' (λ j h. alike_same _ _ refl) (λ h l. o.behind (far_heads + h) (omega arith))
      (rw o.same_length (w.chains on).room) (w.chains on);
}

module _
    (recs : List Record) (p : Layout) (index index' : List ℕ) (e active : ℕ) (laid : Laid recs p index) (below : e ≤ p.used)
    (walkable : Walkable recs (counting (active_lane p) e) index') (only : Only active_heads index index')
    (none : (j : ℕ) → e ≤ j → j < p.used → is_live (get_or recs j empty_record) ≡ false)
  where
    pub laid_trimmed : Laid recs (numbered p e active) index'
    laid_trimmed = record {
      whole = laid.whole;
      some = laid.some;
      fits = omega (arith, laid.fits);
      lane = walkable;
      far_lane_lem = far_walkable recs p index index' only laid.far_lane_lem;
      few = laid.few;
      far_few = laid.far_few;
      ranks = λ t.
          let ranks = laid.ranks t in
          let b = ranks.minima in
          let there : e + (p.used - e) ≡ p.used = omega arith in
          record {
            minima = blocked_down recs e (p.used - e) _ index' (λ j l h. none j l (omega arith))
                (rw there (blocked_like recs recs p.used _ index index' (λ i h. refl) b.inside
                (λ k h. sym (only.before k (omega arith))) (omega (arith, only.same_length, b.whole)) b));
            reach = ranks.reach;
          };
    }

-- one node leaves, and those that pass a test are struck out
module _
    (recs : List Record) (p : Layout) (i : ℕ) {test : Record → Bool} {recs' recs'' : List Record} {lost : ℕ} (below : i < p.used)
    (inside : p.used ≤ length recs) (live : is_live (get_or recs i empty_record) ≡ true)
    (left : recs' ≡ set recs i (marked (get_or recs i empty_record))) (strikes : Strikes test p.used recs' recs'' lost)
  where
    long : length recs' ≡ length recs
    long = ap length left ∙ length-set recs i (marked (get_or recs i empty_record))

    others : live_of p.used recs' ≡ others_of p.used i recs
    others = ap (live_of p.used) left ∙ live_marked recs p.used inside i below

    pub left_few : suc (lost + length (live_of p.used recs'')) ≡ length (live_of p.used recs)
    left_few = omega (arith, strikes.count, ap length others, others_few recs p.used inside i below live)

    left-nodes : live_of p.used recs'' ≡ keep (λ x. not (test x)) (others_of p.used i recs)
    left-nodes = strikes_live strikes (omega (arith, long)) ∙ ap (keep (λ x. not (test x))) others

    elsewhere : (j : ℕ) → p.used ≤ j → get_or recs'' j empty_record ≡ get_or recs j empty_record
    elsewhere j h =
        strikes.behind j h ∙ ap (λ (l : List Record). get_or l j empty_record) left
        ∙ get_or-set_other recs i j (marked (get_or recs i empty_record)) empty_record (λ s. omega arith)

    pub kept-cleared :
        (index index' : List ℕ) (e : ℕ) → p.active ≡ length (live_of p.used recs) → Laid recs'' p index
        → (e ≤ p.used)
        × (Walkable recs'' (counting (active_lane p) e) index'
        × (Only active_heads index index' × ((j : ℕ) → e ≤ j → j < p.used → is_live (get_or recs'' j empty_record) ≡ false)))
        → Kept recs p (keep (λ x. not (test x)) (others_of p.used i recs)) recs'' (numbered p e (p.active - 1 - lost)) index'
    kept-cleared index index' e counted laid (low, (walkable, (only, none))) = record {
      laid = laid_trimmed recs'' p index index' e (p.active - 1 - lost) laid low walkable only none;
      one_pool = record { capacity = refl; ranked = refl; linked = refl; far_linked = refl };
      nodes = live_trim recs'' p.used (omega (arith, laid.whole, laid.fits)) e low none ∙ left-nodes;
      counted = omega (arith, counted, left_few, ap length left-nodes);
      far-count = refl;
      far-end = far_like recs'' recs p.far (strikes.same_length ∙ long)
          (λ j a b. ap sized (elsewhere j (omega (arith, laid.whole, laid.fits))));
    }
