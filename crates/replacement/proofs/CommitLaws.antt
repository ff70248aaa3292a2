-- The parts of `commit`, one after the other: what each leaves meets what the next asks, and the last leaves the pool `Committed`.
--   unbeaten_of, within-staying    the nodes that no child dominates; those of them up to the limit stay
--   tidiable                      what is left of the active nodes can be tidied
--   roomy                         then the branched node has room at the far end
--   committed                     and the pool has the children that survive
use mathlib.Core.Path.{◌≡◌, sym, ap, subst, ◌∙◌}
use mathlib.Core.Bool.{Bool, true, false, not, ◌&&◌, and-false, and-true}
use mathlib.Core.List.{List, ◌++◌}
use mathlib.Core.Logic.{◌⊎◌}
use Prim.Native.Nat.{ℕ, ◌+◌, ◌^◌, ◌≤◌, ◌<◌}
use native.Mathlib.Omega.{arith}
use lib.Dec.{leb}
use lib.ListN.{length, length-append}
use Rattle.sizes.specs.Sizes.{most_stops}
use Rattle.lists.specs.Lists.{In, keep}
use Rattle.lists.proofs.Keep.{keep-keep, keep_same}
use Rattle.lists.proofs.Members.{in_keep}
use Rattle.stops.specs.Code.{stops_in}
use Rattle.stops.specs.declared.node_record.Record.{Record}
use Rattle.records.specs.Code.{slots}
use Rattle.records.proofs.SlotLaws.{slots_length}
use Rattle.lanes.specs.Sizes.{gone}
use Rattle.lanes.specs.Code.{sized, is_within, live_of, others_of, far_of}
use Rattle.lanes.specs.declared.layout.Layout.{Layout}
use Rattle.pool.specs.Code.{Laid, OnePool}
use Rattle.replacement.specs.Code.{is_beaten, is_staying, staying_of, far_with, Changing, Kept, Committed}
use Rattle.replacement.specs.declared.change.Change.{Change}
use Rattle.replacement.proofs.FrameLaws.{one_pool_on}

and_swap : (a b : Bool) → (a && b) ≡ (b && a)
and_swap true b = sym (and-true b)
and_swap false b = sym (and-false b)

-- the nodes without the branched one that no child dominates
abbrev pub unbeaten_of : List Record → Layout → ℕ → Change → List Record → List Record
unbeaten_of recs p i c kids = keep (λ x. not (is_beaten (slots c.taking kids) x)) (others_of p.used i recs)

-- those of them up to the limit stay
pub within-staying :
    (recs : List Record) (p : Layout) (i : ℕ) (c : Change) (kids : List Record)
    → keep (is_within c.limit) (unbeaten_of recs p i c kids) ≡ staying_of recs p i c kids
unfolding staying_of is_staying is_within
within-staying recs p i c kids =
    let ys = slots c.taking kids in
    let free : Record → Bool = λ x. not (is_beaten ys x) in
    let others = others_of p.used i recs in
    keep-keep (is_within c.limit) free others
    ∙ keep_same (λ x. free x && is_within c.limit x) (is_staying c.limit ys) others
    (λ x m. and_swap (free x) (leb x.bound c.limit))

module _
    (recs : List Record) (p : Layout) (i : ℕ) (c : Change) (kids : List Record) (h : Changing recs p i c kids)
    (fits : length (staying_of recs p i c kids) + length (slots c.alive kids) + c.far ≤ p.capacity)
    (recs₁ : List Record) (q₁ : Layout) (index₁ : List ℕ) (cleared : Kept recs p (unbeaten_of recs p i c kids) recs₁ q₁ index₁)
  where
    stays : keep (is_within c.limit) (live_of q₁.used recs₁) ≡ staying_of recs p i c kids
    stays = ap (keep (is_within c.limit)) cleared.nodes ∙ within-staying recs p i c kids

    low : c.fell ≡ false → (x : Record) → In x (live_of q₁.used recs₁) → x.bound ≤ c.limit
    low kept x m =
        let there : In x (unbeaten_of recs p i c kids) = subst (λ (l : List Record). In x l) cleared.nodes m in
        h.right kept x (in_keep (λ y. not (is_beaten (slots c.taking kids) y)) (others_of p.used i recs) x there).0

    pub tidiable :
        (Laid recs₁ q₁ index₁ × (q₁.active ≡ length (live_of q₁.used recs₁)))
        × ((c.limit < gone)
        × ((c.alive < 2 ^ most_stops)
        × ((c.fell ≡ false → (x : Record) → In x (live_of q₁.used recs₁) → x.bound ≤ c.limit)
        × (length (keep (is_within c.limit) (live_of q₁.used recs₁)) + length (stops_in c.alive) + c.far ≤ q₁.capacity))))
    tidiable = (
      (cleared.laid, cleared.counted ∙ ap length (sym cleared.nodes)),
      (
        h.limited,
        (
          h.slotted.small,
          (low, omega (arith, ap length stays, slots_length kids c.alive, cleared.one_pool.capacity)),
        ),
      ),
    )

    module _
        (recs₂ : List Record) (q₂ : Layout) (index₂ : List ℕ)
        (tidied : Kept recs₁ q₁ (keep (is_within c.limit) (live_of q₁.used recs₁)) recs₂ q₂ index₂)
        (room : q₂.used + length (stops_in c.alive) + c.far ≤ q₂.capacity)
      where
        far : q₂.far ≡ p.far
        far = tidied.far-count ∙ cleared.far-count

        pub roomy :
            (b : Record) → b ≡ sized b
            → (Laid recs₂ q₂ index₂ × (b ≡ sized b))
            × ((q₂.used + c.far ≤ q₂.capacity) × (((c.far ≡ 0) × (q₂.far ≡ 0)) ⊎ (c.far ≡ q₂.far + 1)))
        roomy b whole = ((tidied.laid, whole), (omega arith, rw far h.back))

        module _
            (b : Record) (recs₃ : List Record) (q₃ : Layout) (index₃ : List ℕ)
            (held :
            (Laid recs₃ q₃ index₃ × OnePool q₂ q₃)
            × (((q₃.used ≡ q₂.used) × (q₃.active ≡ q₂.active))
            × ((live_of q₂.used recs₃ ≡ live_of q₂.used recs₂)
            × ((q₃.far ≡ c.far) × (far_of c.far recs₃ ≡ far_with c.far b (far_of q₂.far recs₂))))))
          where
            nodes : live_of q₃.used recs₃ ≡ staying_of recs p i c kids
            nodes = ap (λ (n : ℕ). live_of n recs₃) held.1.0.0 ∙ held.1.1.0 ∙ tidied.nodes ∙ stays

            counted : q₃.active ≡ length (staying_of recs p i c kids)
            counted = held.1.0.1 ∙ tidied.counted ∙ ap length stays

            pub committed :
                (recs₄ : List Record) (q₄ : Layout) (index₄ : List ℕ)
                → Kept recs₃ q₃ (live_of q₃.used recs₃ ++ slots c.alive kids) recs₄ q₄ index₄
                → Committed recs p i b c kids recs₄ q₄ index₄
            committed recs₄ q₄ index₄ joined = record {
              laid = joined.laid;
              one_pool =
                  one_pool_on p q₁ q₄ cleared.one_pool (one_pool_on q₁ q₂ q₄ tidied.one_pool (one_pool_on q₂ q₃ q₄ held.0.1 joined.one_pool));
              nodes = joined.nodes ∙ ap (λ (l : List Record). l ++ slots c.alive kids) nodes;
              counted =
                  omega
                  (arith, joined.counted, length-append (live_of q₃.used recs₃) (slots c.alive kids), ap length nodes);
              far-count = joined.far-count ∙ held.1.1.1.0;
              far-end =
                  ap (λ (n : ℕ). far_of n recs₄) (sym held.1.1.1.0)
                  ∙ joined.far-end
                  ∙ ap (λ (n : ℕ). far_of n recs₃) held.1.1.1.0
                  ∙ held.1.1.1.1
                  ∙ ap (far_with c.far b) behind;
            }
              where
                behind : far_of q₂.far recs₂ ≡ far_of p.far recs
                behind =
                    ap (λ (n : ℕ). far_of n recs₂) tidied.far-count
                    ∙ tidied.far-end
                    ∙ ap (λ (n : ℕ). far_of n recs₁) cleared.far-count
                    ∙ cleared.far-end
