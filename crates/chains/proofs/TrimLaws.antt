-- Laws of records taken off the end of the lane at the pool's front (`Trimmed`): the last one, which is gone, leaves (`trimmed_one`).
use mathlib.Core.Path.{◌≡◌, sym, subst, ◌∙◌}
use mathlib.Core.Bool.{Bool, true, false, cond}
use mathlib.Core.List.{List}
use mathlib.Core.Logic.{◌⊎◌, inl, inr}
use Prim.Native.Nat.{ℕ, suc, ◌+◌, ◌-◌, ◌≤◌, ◌<◌}
use native.Mathlib.Omega.{arith}
use lib.Dec.{T}
use lib.ListN.{get_or, set, length-set}
use lib.Seq.{get_or-set_other}
use Rattle.lists.proofs.Tests.{compared, to_true}
use Rattle.stops.specs.Code.{empty_record}
use Rattle.stops.specs.declared.node_record.Record.{Record}
use Rattle.lanes.specs.Sizes.{heads}
use Rattle.lanes.specs.Code.{sized, is_live, place_of}
use Rattle.lanes.specs.declared.Lane.{Lane}
use Rattle.chains.specs.Code.{bucket_of, key_at, counting, Chained, Walkable, Only}
use Rattle.chains.proofs.WalkLaws.{bucket_head}
use Rattle.chains.proofs.ChainLaws.{chained_fewer, place-front}

-- the lane has its first k records still, with the index as it should be for these, and those behind are gone
pub record Trimmed (recs : List Record) (p : Lane) (index index' : List ℕ) (k : ℕ) : Type 0 where
  pub below : k ≤ p.count
  pub walkable : Walkable recs (counting p k) index'
  pub only : Only p.heads index index'
  pub left : (j : ℕ) → k ≤ j → j < p.count → is_live (get_or recs j empty_record) ≡ false

-- the index once record i has left the lane
abbrev pub index_without : List Record → Lane → ℕ → List ℕ → List ℕ
index_without recs p i index =
    cond p.linked (set index (p.heads + bucket_of (sized (get_or recs i empty_record))) (get_or recs i empty_record).size) index

only_one :
    (from b v : ℕ) (index index' : List ℕ) → b < heads → Only from index index' → Only from index (set index' (from + b) v)
only_one from b v index index' h o = record {
  same_length = length-set index' (from + b) v ∙ o.same_length;
  before = λ j k. get_or-set_other index' (from + b) j v 0 (λ e. omega arith) ∙ o.before j k;
  behind = λ j k. get_or-set_other index' (from + b) j v 0 (λ e. omega arith) ∙ o.behind j k;
}

module _ (recs : List Record) (p : Lane) (index index' : List ℕ) (front : p.end ≡ 0) where
  -- the index without record k, as the laws of chains have it
  fewer_index :
      (k : ℕ) → T p.linked
      → index_without recs p k index' ≡ set index' (p.heads + key_at recs p.end k) (get_or recs (place_of p.end (suc k)) empty_record).size
  fewer_index k on = rw (place-front p.end k front, to_true p.linked on)

  fewer : (k : ℕ) → Walkable recs (counting p (suc k)) index' → Walkable recs (counting p k) (index_without recs p k index')
  fewer k w = record {
    lies = record { inside = λ j h. w.lies.inside j (omega arith); apart = λ h. omega (arith, w.lies.apart h) };
    chains = λ on.
        subst (λ (l : List ℕ). Chained recs (counting p k) l) (sym (fewer_index k on)) (chained_fewer p k recs index' (w.chains on));
  }

  same-heads : (k : ℕ) → Only p.heads index index' → Only p.heads index (index_without recs p k index')
  same-heads k o = go p.linked
    where
      x : Record
      x = get_or recs k empty_record

      go : (b : Bool) → Only p.heads index (cond b (set index' (p.heads + bucket_of (sized x)) x.size) index')
      go true = only_one p.heads (bucket_of (sized x)) x.size index index' (bucket_head (sized x)) o
      go false = o

  pub trimmed_one :
      (k : ℕ) → Trimmed recs p index index' k → 0 < k → is_live (get_or recs (k - 1) empty_record) ≡ false → (index'' : List ℕ)
      → index'' ≡ index_without recs p (k - 1) index' → Trimmed recs p index index'' (k - 1)
  trimmed_one k t h gone index'' e =
      let last : k ≡ suc (k - 1) = omega arith in
      rw e record {
        below = omega (arith, t.below);
        walkable = fewer (k - 1) (subst (λ (n : ℕ). Walkable recs (counting p n) index') last t.walkable);
        only = same-heads (k - 1) t.only;
        left = λ j l m. one j (compared j (k - 1)) l m;
      }
    where
      one : (j : ℕ) → (j ≡ k - 1) ⊎ (j ≡ k - 1 → ⊥) → k - 1 ≤ j → j < p.count → is_live (get_or recs j empty_record) ≡ false
      one j (inl s) l m = rw s gone
      one j (inr n) l m = t.left j (omega arith) m
