-- Linking a lane from nothing.
--   relinked_same, relinked_on, relinked_more    what changes of the pool's records
--   Relinking                                    the lane's first k records are linked, one after the other
use mathlib.Core.Path.{◌≡◌, refl, sym, ap, ◌∙◌}
use mathlib.Core.List.{List}
use mathlib.Core.Logic.{◌⊎◌, inl, inr, ◌≢◌}
use Prim.Native.Nat.{ℕ, suc, ◌+◌, ◌≤◌, ◌<◌}
use native.Mathlib.Numerals.{add-one}
use native.Mathlib.Omega.{arith}
use lib.Dec.{T}
use lib.ListN.{length, get_or, set, length-set}
use lib.Seq.{get_or-set_same, get_or-set_other}
use Rattle.lists.proofs.Tests.{compared}
use Rattle.stops.specs.Code.{empty_record}
use Rattle.stops.specs.declared.node_record.Record.{Record}
use Rattle.lanes.specs.Sizes.{heads}
use Rattle.lanes.specs.Code.{sized, place_of}
use Rattle.lanes.specs.declared.Lane.{Lane}
use Rattle.chains.specs.Code.{counting, Inside, Chained, joined_of, index_with, Relinked, Only}
use Rattle.chains.proofs.JoinLaws.{sized_twice, sized_joined, only_same, only_on, only_with}
use Rattle.chains.proofs.ChainLaws.{chained_none, chained_set}

pub relinked_same : (recs : List Record) (p : Lane) → Relinked recs p recs
relinked_same recs p = record { same_length = refl; same_nodes = λ i. refl; others = λ i h. refl }

pub relinked_on : (a b c : List Record) (p : Lane) → Relinked a p b → Relinked b p c → Relinked a p c
relinked_on a b c p r s = record {
  same_length = s.same_length ∙ r.same_length;
  same_nodes = λ i. s.same_nodes i ∙ r.same_nodes i;
  others = λ i h. s.others i h ∙ r.others i h;
}

-- record k of a lane gets another size word
pub relinked_more :
    (recs : List Record) (p : Lane) (k : ℕ) (y : Record) → k < p.count → place_of p.end (suc k) < length recs
    → sized y ≡ sized (get_or recs (place_of p.end (suc k)) empty_record) → Relinked recs p (set recs (place_of p.end (suc k)) y)
relinked_more recs p k y h inside same = record {
  same_length = length-set recs (place_of p.end (suc k)) y;
  same_nodes = λ i. go i (compared i (place_of p.end (suc k)));
  others = λ i n. get_or-set_other recs (place_of p.end (suc k)) i y empty_record (λ e. n k h (sym e));
}
  where
    go :
        (i : ℕ) → (i ≡ place_of p.end (suc k)) ⊎ (i ≢ place_of p.end (suc k))
        → sized (get_or (set recs (place_of p.end (suc k)) y) i empty_record) ≡ sized (get_or recs i empty_record)
    go i (inl e) = rw (e, get_or-set_same recs (place_of p.end (suc k)) y empty_record inside) same
    go i (inr n) = ap sized (get_or-set_other recs (place_of p.end (suc k)) i y empty_record n)

-- the first k records of a lane are linked; index₀ is the index with its heads cleared
pub record Relinking (recs₀ : List Record) (p : Lane) (index₀ : List ℕ) (recs : List Record) (index : List ℕ) (k : ℕ) : Type 0 where
  pub chained : Chained recs (counting p k) index
  pub only : Only p.heads index₀ index
  pub relinked : Relinked recs₀ p recs

pub relinking_starts :
    (recs : List Record) (p : Lane) (index : List ℕ) → p.heads + heads ≤ length index
    → ((h : ℕ) → h < heads → get_or index (p.heads + h) 0 ≡ 0) → Relinking recs p index recs index 0
relinking_starts recs p index fits none =
    record { chained = chained_none recs p index fits none; only = only_same p.heads index; relinked = relinked_same recs p }

module _
    {recs₀ : List Record} {p : Lane} {index₀ : List ℕ} {recs : List Record} {index : List ℕ} {k : ℕ}
    (l : Relinking recs₀ p index₀ recs index k) (on : T p.linked) (lies : Inside recs₀ p) (more : k < p.count)
  where
    relinking_next :
        Relinking recs₀ p index₀
        (set recs (place_of p.end (suc k)) (joined_of p index (sized (get_or recs (place_of p.end (suc k)) empty_record))))
        (index_with p (suc k) index (sized (get_or recs (place_of p.end (suc k)) empty_record)))
        (suc k)
    relinking_next = record {
      chained = chained_set p k recs index x on (sym (sized_twice z)) inside (λ e. omega (arith, lies.apart e)) l.chained;
      only = only_on p.heads index₀ index (index_with p (suc k) index x) l.only (only_with p (suc k) index x);
      relinked = relinked_on recs₀ recs (set recs i y) p l.relinked
          (relinked_more recs p k y more inside (sized_joined p index x ∙ sized_twice z));
    }
      where
        i : ℕ
        i = place_of p.end (suc k)

        z : Record
        z = get_or recs (place_of p.end (suc k)) empty_record

        x : Record
        x = sized z

        y : Record
        y = joined_of p index x

        inside : place_of p.end (suc k) < length recs
        inside = omega (arith, lies.inside k more, l.relinked.same_length)

    pub relinking_again :
        {recs' : List Record} {index' : List ℕ} {i : ℕ} {x y : Record} → i ≡ place_of p.end (k + 1) → x ≡ sized (get_or recs i empty_record)
        → y ≡ joined_of p index x → recs' ≡ set recs i y → index' ≡ index_with p (k + 1) index x → Relinking recs₀ p index₀ recs' index' (k + 1)
    relinking_again {i = i} {x} {y} place read linked stored new =
        let here : i ≡ place_of p.end (suc k) = place ∙ rw (add-one k) in
        rw (stored, new, linked, read, here, add-one k) relinking_next
