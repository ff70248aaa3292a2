-- The active lane tidied: nothing goes, or it is squeezed, linked and ranked anew.
--   numbered                          a layout with other numbers of active records and nodes
--   tidy_kept                         nothing is above a limit
--   rerankable                        what squeezing the active lane leaves can be ranked, once it is linked
--   squeezed_kept                     and is the pool with its nodes up to a limit
use mathlib.Core.Path.{◌≡◌, refl, sym, ap, ◌∙◌}
use mathlib.Core.List.{List}
use Prim.Native.Nat.{ℕ, ◌+◌, ◌*◌, ◌-◌, ◌^◌, ◌≤◌, ◌<◌}
use native.Mathlib.Omega.{arith}
use lib.Dec.{T, le→leb}
use lib.ListN.{length, get_or}
use lib.Seq.{slice, length-slice, get_or-drop}
use Rattle.lists.specs.Lists.{In, keep}
use Rattle.lists.proofs.Keep.{keep_all}
use Rattle.lists.proofs.Numbers.{keep_parts}
use Rattle.stops.specs.Code.{empty_record}
use Rattle.stops.specs.declared.node_record.Record.{Record}
use Rattle.records.specs.Code.{Sifted}
use Rattle.lanes.specs.Sizes.{gone, blocks, active_heads, far_heads}
use Rattle.lanes.specs.Code.{is_within, live_of}
use Rattle.lanes.specs.declared.layout.Layout.{Layout}
use Rattle.lanes.specs.Layouts.{active_lane}
use Rattle.lanes.proofs.LiveLaws.{live_like, live_squeezed, squeezed_few}
use Rattle.chains.specs.Code.{Inside, Chained, Relinked, Only}
use Rattle.chains.proofs.ChainLaws.{alike_same, place-front, chained_like}
use Rattle.blocks.specs.Code.{Same}
use Rattle.pool.specs.Code.{Laid, Ranked}
use Rattle.replacement.specs.Code.{Kept}
use Rattle.replacement.proofs.FrameLaws.{inside_like, far_walkable, far-same}

abbrev pub numbered : Layout → ℕ → ℕ → Layout
numbered p used active = record {
  capacity = p.capacity;
  used = used;
  active = active;
  far = p.far;
  shift = p.shift;
  ranked = p.ranked;
  linked = p.linked;
  far_linked = p.far_linked;
}

-- nothing is above the limit
pub tidy_kept :
    (recs : List Record) (p : Layout) (index : List ℕ) (limit : ℕ) → Laid recs p index → p.active ≡ length (live_of p.used recs)
    → ((x : Record) → In x (live_of p.used recs) → x.bound ≤ limit)
    → Kept recs p (keep (is_within limit) (live_of p.used recs)) recs p index
unfolding is_within
tidy_kept recs p index limit laid counted low =
    let all : keep (is_within limit) (live_of p.used recs) ≡ live_of p.used recs =
    keep_all (is_within limit) (live_of p.used recs) (λ x m. le→leb x.bound limit (low x m)) in
    record {
      laid = laid;
      one_pool = record { capacity = refl; ranked = refl; linked = refl; far_linked = refl };
      nodes = sym all;
      counted = counted ∙ ap length (sym all);
      far-count = refl;
      far-end = refl;
    }

-- the active lane is squeezed to e records, linked and ranked
module _
    (recs recs₁ : List Record) (p : Layout) (index : List ℕ) (limit e : ℕ) (laid : Laid recs p index)
    (sifted : Sifted (is_within limit) recs 0 p.used 0 recs₁ e)
  where
    fewer : e ≤ p.used
    fewer =
        omega
        (arith, sifted.count, keep_parts (is_within limit) (slice 0 p.used recs), length-slice 0 p.used recs (omega (arith, laid.fits, laid.whole)))

    lies : Inside recs₁ (active_lane (numbered p e e))
    lies = record {
      inside = λ j h. rw (place-front 0 j refl) (omega (arith, fewer, sifted.same_length, laid.fits, laid.whole));
      apart = λ h. absurd (omega arith);
    }

    module _
        (recs₂ : List Record) (index₁ : List ℕ) (only : Only active_heads index index₁) (relinked : Relinked recs₁ (active_lane (numbered p e e)) recs₂)
      where
        long : length recs₂ ≡ length recs
        long = relinked.same_length ∙ sifted.same_length

        pub rerankable :
            T p.ranked
            → (blocks ≤ length index₁) × ((e ≤ length recs₂) × ((e ≤ blocks * 2 ^ p.shift) × (blocks * 2 ^ p.shift < 2 ^ 62)))
        rerankable t =
            let r = laid.ranks t in (
              omega (arith, r.minima.whole, only.same_length),
              (omega (arith, fewer, long, laid.fits, laid.whole), (omega (arith, fewer, r.minima.reach), r.reach)),
            )

        -- the records behind are as they were
        behind : (i : ℕ) → p.used ≤ i → get_or recs₂ i empty_record ≡ get_or recs i empty_record
        behind i h =
            let n : p.used + (i - p.used) ≡ i = omega arith in
            relinked.others i (λ j less there. omega (arith, fewer, sym (place-front 0 j refl) ∙ there))
            ∙ ap (λ (k : ℕ). get_or recs₁ k empty_record) (sym n)
            ∙ sym (get_or-drop p.used recs₁ (i - p.used) empty_record)
            ∙ ap (λ (l : List Record). get_or l (i - p.used) empty_record) sifted.behind
            ∙ get_or-drop p.used recs (i - p.used) empty_record
            ∙ ap (λ (k : ℕ). get_or recs k empty_record) n

        nodes : limit < gone → live_of e recs₂ ≡ keep (is_within limit) (live_of p.used recs)
        nodes small =
            let inside : e ≤ length recs = omega (arith, fewer, laid.fits, laid.whole) in
            live_like recs₂ recs₁ e (omega (arith, long)) (omega (arith, sifted.same_length)) (λ i h. relinked.same_nodes i)
            ∙ live_squeezed limit small recs recs₁ p.used e sifted

        pub squeezed_kept :
            limit < gone → (index₂ : List ℕ) → (T p.linked → Chained recs₂ (active_lane (numbered p e e)) index₁)
            → (T p.ranked → Ranked recs₂ (numbered p e e) index₂) → Same index₁ index₂
            → Kept recs p (keep (is_within limit) (live_of p.used recs)) recs₂ (numbered p e e) index₂
        squeezed_kept small index₂ chained ranks same = record {
          laid = record {
            whole = laid.whole ∙ sym long;
            some = laid.some;
            fits = omega (arith, fewer, laid.fits);
            lane = record {
              lies = inside_like recs₁ recs₂ (active_lane (numbered p e e)) relinked.same_length lies;
              chains = λ t.
                  chained_like recs₂ recs₂ (active_lane (numbered p e e)) index₁ index₂ (λ j h. alike_same _ _ refl)
                  (λ h l. same.behind (active_heads + h) (omega arith)) (rw same.same_length (chained t).room) (chained t);
            };
            far_lane_lem = far_walkable recs recs₂ index index₂ p long (same.same_length ∙ only.same_length) laid.whole laid.fits behind
                (λ h l. same.behind (far_heads + h) (omega arith) ∙ only.behind (far_heads + h) (omega arith)) laid.far_lane_lem;
            few = laid.few;
            far_few = laid.far_few;
            ranks = ranks;
          };
          one_pool = record { capacity = refl; ranked = refl; linked = refl; far_linked = refl };
          nodes = nodes small;
          counted = squeezed_few limit small recs recs₁ p.used e sifted ∙ ap length (live_squeezed limit small recs recs₁ p.used e sifted);
          far-count = refl;
          far-end = far-same recs recs₂ index index p long refl laid.whole laid.fits behind;
        }
