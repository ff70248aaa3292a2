-- How the passes of `settle` join: the active lane squeezed, the sizes of both lanes put back, and the pool laid out. The first passes
-- leave the far end alone, and what is put back there leaves the front alone.
use mathlib.Core.Path.{◌≡◌, sym, ap, ◌∙◌}
use mathlib.Core.List.{List, ◌++◌, map, reverse, append-nil}
use Prim.Native.Nat.{ℕ, ◌+◌, ◌-◌, ◌≤◌}
use native.Mathlib.Omega.{arith}
use lib.ListN.{length, take, drop, replicate, length-map, drop_of_length-le}
use lib.Seq.{take_all, take_at, drop_at, take-take, take-append-le, length-take-le}
use Rattle.lists.proofs.Slices.{drop_further}
use Rattle.stops.specs.Code.{empty_record}
use Rattle.stops.specs.declared.node_record.Record.{Record}
use Rattle.records.specs.Code.{Sifted}
use Rattle.records.proofs.SiftLaws.{sifted_within}
use Rattle.lanes.specs.Sizes.{every_bound}
use Rattle.lanes.specs.Code.{sized, is_within, live_of, far_of}
use Rattle.lanes.proofs.SqueezeLaws.{changed, length-changed}
use Rattle.lanes.proofs.LiveLaws.{every_live}

abbrev Squeezed : List Record → ℕ → List Record → ℕ → Type 0
Squeezed l used l₁ a = Sifted (is_within every_bound) l 0 used 0 l₁ a

module _ (n used far a : ℕ) (l l₁ : List Record) (whole : n ≡ length l) (room : used + far ≤ n) (squeezed : Squeezed l used l₁ a) where
  pub back_below : a ≤ used
  back_below = sifted_within _ _ _ _ _ _ _ squeezed (omega arith) (omega arith) (omega arith)

  module _ (l₂ : List Record) (front : l₂ ≡ changed sized 0 a l₁) where
    pub back_long : length l₂ ≡ n
    back_long = ap length front ∙ length-changed sized 0 a l₁ (omega arith) (omega (arith, back_below, squeezed.same_length))
        ∙ squeezed.same_length ∙ sym whole

    module _ (l₃ : List Record) (back : l₃ ≡ changed sized (n - far) n l₂) where
      pub back_whole : length l₃ ≡ n
      back_whole = ap length back ∙ length-changed sized (n - far) n l₂ (omega arith) (omega (arith, back_long)) ∙ back_long

      abbrev nodes : List Record
      nodes = map sized (take a l₁)

      nodes_long : length nodes ≡ a
      nodes_long = length-map (take a l₁) sized ∙ length-take-le a l₁ (omega (arith, back_below, squeezed.same_length))

      nodes_live : nodes ≡ live_of used l
      nodes_live = ap (map sized) squeezed.front ∙ every_live (take used l)

      active : take a l₃ ≡ nodes
      active =
          ap (take a) back
          ∙ take-append-le a (take (n - far) l₂) _ (omega (arith, back_below, length-take-le (n - far) l₂ (omega (arith, back_long))))
          ∙ take-take a (n - far) l₂ (omega (arith, back_below))
          ∙ ap (take a) front
          ∙ take_at nodes (drop a l₁) a nodes_long

      rest : drop (n - far) l₂ ≡ drop (n - far) l
      rest =
          drop_further a l₂ l₁ (ap (drop a) front ∙ drop_at nodes (drop a l₁) a nodes_long) (n - far) (omega (arith, back_below))
          ∙ drop_further used l₁ l squeezed.behind (n - far) (omega arith)

      branched : drop (n - far) l₃ ≡ far_of far l
      branched =
          ap (drop (n - far)) back
          ∙ drop_at (take (n - far) l₂) _ (n - far) (length-take-le (n - far) l₂ (omega (arith, back_long)))
          ∙ rw (take_all n l₂ (omega (arith, back_long)), drop_of_length-le l₂ {i = n} (omega (arith, back_long)), append-nil, rest, ← whole)

      pub back_joins :
          (l₄ : List Record) → l₄ ≡ take a l₃ ++ (reverse (drop (n - far) l₃) ++ replicate (n - (a + far)) empty_record)
          → l₄ ≡ live_of used l ++ (reverse (far_of far l) ++ replicate (n - (length (live_of used l) + far)) empty_record)
      back_joins l₄ settled =
          let many : a ≡ length (live_of used l) = sym nodes_long ∙ ap length nodes_live in
          rw (settled, active, nodes_live, branched, ← many)
