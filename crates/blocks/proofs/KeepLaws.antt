-- Least bounds of blocks, kept right.
--   same_none, same_set, same-on          an index that differs in the minima alone: one as it is, one stored to, one after another
--   cleared                               the minima are clear
--   blocked_set, blocked_but, blocked_joins    one minimum found anew; one record changed; one record joins
--   blocked_spared                        a record leaves that was not the least of its block
--   blocked_like, blocked_fewer, blocked_none  bounds and minima as before; a gone record less; no record
use mathlib.Core.Path.{◌≡◌, refl, sym, ap, ◌∙◌}
use mathlib.Core.List.{List, ◌++◌}
use mathlib.Core.Logic.{◌⊎◌, inl, inr, ⊎_elim, ◌≢◌}
use Prim.Native.Nat.{ℕ, suc, ◌+◌, ◌-◌, ◌*◌, ◌/◌, ◌≤◌, ◌<◌, min}
use native.Mathlib.Omega.{arith}
use lib.ListN.{length, get_or, set, drop, replicate, length-set, length-append, length-drop}
use lib.Seq.{get_or-set_same, get_or-set_other, get_or-drop}
use Rattle.std.proofs.lemmas.List.{length-replicate, get_or-replicate, get_or_append_left, get_or-append_right}
use Rattle.lists.proofs.Tests.{compared}
use Rattle.stops.specs.Code.{empty_record}
use Rattle.stops.specs.declared.node_record.Record.{Record}
use Rattle.lanes.specs.Sizes.{gone, blocks}
use Rattle.lanes.specs.Code.{marked}
use Rattle.blocks.specs.Code.{bound_at, Least, in_block, BlockedBut, Blocked, Same}
use Rattle.blocks.proofs.BlockLaws.{last_or, least-none, least_joins, least_like, block_below}

pub same_none : (index : List ℕ) → Same index index
same_none index = record { same_length = refl; behind = λ j h. refl }

pub same_set : (index : List ℕ) (k v : ℕ) → k < blocks → Same index (set index k v)
same_set index k v h = record { same_length = length-set index k v; behind = λ j b. get_or-set_other index k j v 0 (λ e. omega (arith, e)) }

pub same-on : (index index' index'' : List ℕ) → Same index index' → Same index' index'' → Same index index''
same-on index index' index'' a b = record { same_length = b.same_length ∙ a.same_length; behind = λ j h. b.behind j h ∙ a.behind j h }

-- the minima are clear: the first n words are the bound of gone records, and the words behind are as they were
pub cleared :
    (n : ℕ) (index : List ℕ) → n ≤ length index
    → let index' = replicate n gone ++ drop n index in
    ((k : ℕ) → k < n → get_or index' k 0 ≡ gone) × (length index' ≡ length index) × ((j : ℕ) → n ≤ j → get_or index' j 0 ≡ get_or index j 0)
cleared n index h = (
  λ k below. get_or_append_left (replicate n gone) (drop n index) 0 k (omega (arith, length-replicate n gone)) ∙ get_or-replicate n k gone 0 below,
  omega (arith, length-append (replicate n gone) (drop n index), length-replicate n gone, length-drop n index),
  λ j behind.
      get_or-append_right (replicate n gone) (drop n index) n j 0 (length-replicate n gone) behind
      ∙ get_or-drop n index (j - n) 0
      ∙ ap (λ i. get_or index i 0) (omega (arith, behind)),
)

-- the minimum of block k is found anew
pub blocked_set :
    (recs : List Record) (used width : ℕ) (index : List ℕ) (k m : ℕ)
    → BlockedBut k recs used width index → k < blocks → Least (in_block used width k) (bound_at recs) m → Blocked recs used width (set index k m)
blocked_set recs used width index k m b h l = record {
  whole = rw (length-set index k m) b.whole;
  wide = b.wide;
  reach = b.reach;
  inside = b.inside;
  each = λ j low other. go j low (compared j k);
}
  where
    go : (j : ℕ) → j < blocks → (j ≡ k) ⊎ (j ≢ k) → Least (in_block used width j) (bound_at recs) (get_or (set index k m) j 0)
    go j low (inl e) = rw (e, get_or-set_same index k m 0 (omega (arith, b.whole))) l
    go j low (inr n) = rw (get_or-set_other index k j m 0 n) (b.each j low n)

-- the record at i changes: only the minimum of its block may be wrong
pub blocked_but :
    (recs recs' : List Record) (used width : ℕ) (index : List ℕ) (i : ℕ) (x : Record)
    → Blocked recs used width index → recs' ≡ set recs i x → BlockedBut (i / width) recs' used width index
blocked_but recs recs' used width index i x b e = record {
  whole = b.whole;
  wide = b.wide;
  reach = b.reach;
  inside = rw (e, length-set recs i x) b.inside;
  each = λ k low other.
      least_like (in_block used width k) (in_block used width k) (bound_at recs) (bound_at recs') (get_or index k 0) (λ j p. p) (λ j p h. p)
      (λ j p.
      ap (λ (l : List Record). bound_at l j) e
      ∙ ap (λ (r : Record). r.bound) (get_or-set_other recs i j x empty_record (λ s. other (sym p.1 ∙ ap (λ (n : ℕ). n / width) s))))
      (b.each k low (λ s. omega (arith, s)));
}

-- a record leaves whose bound is above the minimum of its block: another record has that
pub blocked_spared :
    (recs recs' : List Record) (used width : ℕ) (index : List ℕ) (i : ℕ)
    → Blocked recs used width index → i < used → recs' ≡ set recs i (marked (get_or recs i empty_record))
    → get_or index (i / width) 0 < bound_at recs i → Blocked recs' used width index
unfolding marked
blocked_spared recs recs' used width index i b below e above = record {
  whole = b.whole;
  wide = b.wide;
  reach = b.reach;
  inside = others.inside;
  each = λ k low other. go k low (compared k (i / width)) (b.each k low other);
}
  where
    others : BlockedBut (i / width) recs' used width index
    others = blocked_but recs recs' used width index i (marked (get_or recs i empty_record)) b e

    same : (j : ℕ) → j ≢ i → bound_at recs' j ≡ bound_at recs j
    same j n =
        ap (λ (l : List Record). bound_at l j) e
        ∙ ap (λ (r : Record). r.bound) (get_or-set_other recs i j (marked (get_or recs i empty_record)) empty_record n)

    left : bound_at recs' i ≡ gone
    left =
        ap (λ (l : List Record). bound_at l i) e
        ∙ ap (λ (r : Record). r.bound)
        (get_or-set_same recs i (marked (get_or recs i empty_record)) empty_record (omega (arith, b.inside)))

    here :
        (m : ℕ) (P : ℕ → Type 0) → m < bound_at recs i → Least P (bound_at recs) m → Least P (bound_at recs') m
    here m P h was = record {
      most = was.most;
      low = λ j p. low j p (compared j i);
      met = λ less. let (j, (p, q)) = was.met less in (j, (p, same j (λ s. omega (arith, q, ap (bound_at recs) s)) ∙ q));
    }
      where
        low : (j : ℕ) → P j → (j ≡ i) ⊎ (j ≢ i) → m ≤ bound_at recs' j
        low j p (inl s) = let q = ap (bound_at recs') s in omega (arith, q, left, was.most)
        low j p (inr n) = rw (same j n) (was.low j p)

    go :
        (k : ℕ) → k < blocks → (k ≡ i / width) ⊎ (k ≢ i / width) → Least (in_block used width k) (bound_at recs) (get_or index k 0)
        → Least (in_block used width k) (bound_at recs') (get_or index k 0)
    go k low (inl s) was = here (get_or index k 0) (in_block used width k) (rw s above) was
    go k low (inr n) was = others.each k low n

-- the record at u joins its block
pub blocked_joins :
    (recs : List Record) (u width : ℕ) (index : List ℕ) (v : ℕ)
    → Blocked recs u width index → u < length recs → u < blocks * width → v ≡ min (get_or index (u / width) 0) (bound_at recs u)
    → Blocked recs (u + 1) width (set index (u / width) v)
blocked_joins recs u width index v b inside reach l = record {
  whole = rw (length-set index (u / width) v) b.whole;
  wide = b.wide;
  reach = omega arith;
  inside = omega arith;
  each = λ k low other. go k (compared k (u / width)) (b.each k low other);
}
  where
    here : u / width < blocks
    here = block_below width b.wide u blocks reach

    go :
        (k : ℕ) → (k ≡ u / width) ⊎ (k ≢ u / width) → Least (in_block u width k) (bound_at recs) (get_or index k 0)
        → Least (in_block (u + 1) width k) (bound_at recs) (get_or (set index (u / width) v) k 0)
    go k (inl e) was =
        rw (e, get_or-set_same index (u / width) v 0 (omega (arith, here, b.whole)))
        (least_joins (in_block u width (u / width)) (in_block (u + 1) width (u / width)) (bound_at recs) (get_or index (u / width) 0) u v
        (λ j p. ⊎_elim (λ h. inl (h, p.1)) inr (last_or u j p.0)) (λ j p. (omega (arith, p.0), p.1)) (omega arith, refl) l (rw e at was))
    go k (inr n) was =
        rw (get_or-set_other index (u / width) k v 0 n)
        (least_like (in_block u width k) (in_block (u + 1) width k) (bound_at recs) (bound_at recs) (get_or index k 0)
        (λ j p. (⊎_elim (λ h. h) (λ e. absurd (n (sym p.1 ∙ ap (λ (i : ℕ). i / width) e))) (last_or u j p.0), p.1))
        (λ j p h. (omega (arith, p.0), p.1)) (λ j p. refl) was)

-- Blocked rests on the bounds of the places in use and the minima alone
pub blocked_like :
    (recs recs' : List Record) (used width : ℕ) (index index' : List ℕ)
    → ((i : ℕ) → i < used → bound_at recs i ≡ bound_at recs' i)
    → used ≤ length recs' → ((k : ℕ) → k < blocks → get_or index k 0 ≡ get_or index' k 0) → blocks ≤ length index'
    → Blocked recs used width index → Blocked recs' used width index'
blocked_like recs recs' used width index index' like inside minima whole b = record {
  whole = whole;
  wide = b.wide;
  reach = b.reach;
  inside = inside;
  each = λ k low other.
      rw (← minima k low)
      (least_like (in_block used width k) (in_block used width k) (bound_at recs) (bound_at recs') (get_or index k 0) (λ j p. p) (λ j p h. p)
      (λ j p. sym (like j p.0)) (b.each k low other));
}

-- a gone record behind the others counts for nothing
pub blocked_fewer :
    (recs : List Record) (u width : ℕ) (index : List ℕ)
    → Blocked recs (suc u) width index → gone ≤ bound_at recs u → Blocked recs u width index
blocked_fewer recs u width index b dead = record {
  whole = b.whole;
  wide = b.wide;
  reach = omega (arith, b.reach);
  inside = omega (arith, b.inside);
  each = λ k low other.
      least_like (in_block (suc u) width k) (in_block u width k) (bound_at recs) (bound_at recs) (get_or index k 0)
      (λ j p. (omega (arith, p.0), p.1)) (λ j p h. (less j p.0 h (compared j u), p.1)) (λ j p. refl) (b.each k low other);
}
  where
    less : (j : ℕ) → j < suc u → bound_at recs j < gone → (j ≡ u) ⊎ (j ≢ u) → j < u
    less j h live (inl e) = absurd (let l : bound_at recs u < gone = rw (← e) live in omega arith)
    less j h live (inr n) = omega (arith, n)

-- no record is in use, and the minima are clear
pub blocked_none :
    (recs : List Record) (width : ℕ) (index : List ℕ)
    → 1 ≤ width → blocks ≤ length index → ((k : ℕ) → k < blocks → get_or index k 0 ≡ gone) → Blocked recs 0 width index
blocked_none recs width index wide whole clear = record {
  whole = whole;
  wide = wide;
  reach = omega arith;
  inside = omega arith;
  each = λ k low other. rw (clear k low) (least-none (in_block 0 width k) (bound_at recs) (λ i p. omega (arith, p.0)));
}
