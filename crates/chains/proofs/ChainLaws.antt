-- Chains rest on size words and keys of a lane's records, and on its heads.
--   last_with-same                 the last number with some value, of two functions that agree
--   Alike, alike_bucket           two records with the same size word, set and order: they have one bucket; a record and itself marked are so
--   place_apart, place-fits       records of a lane stand apart, and the number of one more fits a word
--   chained_like                  a lane is chained still if its records are alike and its heads the same
--   chained_none                  no record is chained, with heads of nothing
--   chained_next, chained_set     one joins, as number k + 1; stored at its place
--   chained_all                   some join, one after the other, at the pool's front (chained-some: as numbers k + 1 and on)
--   chained_fewer                 the last leaves: the head of its bucket becomes its link
use mathlib.Core.Path.{◌≡◌, refl, sym, ◌∙◌}
use mathlib.Core.List.Memᴰ
use mathlib.Core.List.{List, [], ◌∷◌, ◌++◌, append_assoc}
use mathlib.Core.Logic.{◌⊎◌, inl, inr, ◌≢◌}
use Prim.Native.Nat.{ℕ, zero, suc, ◌+◌, ◌-◌, ◌≤◌, ◌<◌}
use native.Mathlib.Nat.{add-zero}
use native.Mathlib.Omega.{arith}
use borrow.Author.Tests.{eq-eqb, ne_eqb}
use lib.Dec.{T}
use lib.ListN.{length, get_or, take, drop, set, length-set, take-append-drop}
use lib.Seq.{take-suc-set, drop-set-lt, get_or-set_same, get_or-set_other}
use Rattle.lists.specs.Lists.{In}
use Rattle.lists.proofs.Members.{in_head}
use Rattle.lists.proofs.Tests.{compared, to_true}
use Rattle.stops.specs.Code.{empty_record, last_stop}
use Rattle.stops.specs.declared.node_record.Record.{Record}
use Rattle.lanes.specs.Sizes.{heads}
use Rattle.lanes.specs.Code.{sized, place_of, marked}
use Rattle.lanes.specs.declared.Lane.{Lane}
use Rattle.chains.specs.Code.{bucket_of, last_with, key_at, counting, Chained, linked_to, joined_of, index_with, joined_all, index_all}
use Rattle.chains.proofs.WalkLaws.{bucket_head}
use Rattle.chains.proofs.JoinLaws.{sized_joined}

pub last_with-same : (f g : ℕ → ℕ) (h k : ℕ) → ((j : ℕ) → j < k → f j ≡ g j) → last_with f h k ≡ last_with g h k
unfolding last_with
last_with-same f g h zero e = refl
last_with-same f g h (suc k) e = rw (e k (omega arith), last_with-same f g h k (λ j i. e j (omega arith)))

last_with_here : (f : ℕ → ℕ) (h k : ℕ) → f k ≡ h → last_with f h (suc k) ≡ suc k
unfolding last_with
last_with_here f h k e = rw (eq-eqb (f k) h e)

last_with-before : (f : ℕ → ℕ) (h k : ℕ) → f k ≢ h → last_with f h (suc k) ≡ last_with f h k
unfolding last_with
last_with-before f h k n = rw (ne_eqb (f k) h n)

-- two records with the same size word, set and order
pub record Alike (x y : Record) : Type 0 where
  pub same_size : y.size ≡ x.size
  pub same_set : y.set ≡ x.set
  pub same_first : y.first ≡ x.first
  pub same_second : y.second ≡ x.second

pub alike_same : (x y : Record) → y ≡ x → Alike x y
alike_same x y e = rw e record { same_size = refl; same_set = refl; same_first = refl; same_second = refl }

pub alike_marked : (x : Record) → Alike x (marked x)
unfolding marked
alike_marked x = record { same_size = refl; same_set = refl; same_first = refl; same_second = refl }

pub alike_bucket : (x y : Record) → Alike x y → bucket_of (sized y) ≡ bucket_of (sized x)
unfolding bucket_of last_stop sized
alike_bucket x y a = rw (a.same_set, a.same_first, a.same_second)

-- records of a lane stand apart
pub place_apart : (end j k : ℕ) → j < k → (0 < end → suc k ≤ end) → place_of end (suc j) ≢ place_of end (suc k)
place_apart end j k h inside = go (compared end 0)
  where
    go : (end ≡ 0) ⊎ (end ≢ 0) → place_of end (suc j) ≢ place_of end (suc k)
    go (inl e) = rw (eq-eqb end 0 e) (λ s. omega arith)
    go (inr n) = rw (ne_eqb end 0 n) (λ s. omega (arith, inside (omega arith)))

-- the number of one more record is no larger than what bounds the lane's end and the pool
pub place-fits : (end k n m : ℕ) → (0 < end → k < end) → place_of end (k + 1) < n → end < m → n < m → k + 1 < m
place-fits end k n m inside room e f = go (compared end 0)
  where
    go : (end ≡ 0) ⊎ (end ≢ 0) → k + 1 < m
    go (inl z) = let h : k + 1 - 1 < n = rw z at room in omega arith
    go (inr z) = omega (arith, inside (omega arith))

pub chained_like :
    (recs recs' : List Record) (p : Lane) (index index' : List ℕ)
    → ((j : ℕ) → j < p.count
    → Alike (get_or recs (place_of p.end (suc j)) empty_record) (get_or recs' (place_of p.end (suc j)) empty_record))
    → ((h : ℕ) → h < heads → get_or index' (p.heads + h) 0 ≡ get_or index (p.heads + h) 0) → p.heads + heads ≤ length index'
    → Chained recs p index → Chained recs' p index'
chained_like recs recs' p index index' alike same fits c = record {
  room = fits;
  links = λ j h.
      (alike j h).same_size ∙ c.links j h
      ∙ rw (keys j h) (last_with-same (key_at recs p.end) (key_at recs' p.end) (key_at recs' p.end j) j (λ i l. keys i (omega arith)));
  tops = λ h l. same h l ∙ c.tops h l ∙ last_with-same (key_at recs p.end) (key_at recs' p.end) h p.count keys;
}
  where
    keys : (j : ℕ) → j < p.count → key_at recs p.end j ≡ key_at recs' p.end j
    keys j h =
        sym (alike_bucket (get_or recs (place_of p.end (suc j)) empty_record) (get_or recs' (place_of p.end (suc j)) empty_record) (alike j h))

pub chained_none :
    (recs : List Record) (p : Lane) (index : List ℕ) → p.heads + heads ≤ length index
    → ((h : ℕ) → h < heads → get_or index (p.heads + h) 0 ≡ 0) → Chained recs (counting p 0) index
unfolding last_with
chained_none recs p index fits none = record { room = fits; links = λ j h. absurd (omega arith); tops = none }

-- one joins behind the first k
module _
    (p : Lane) (k : ℕ) (recs recs' : List Record) (index : List ℕ) (x : Record) (on : T p.linked) (whole : x ≡ sized x)
    (same : (j : ℕ) → j < k → get_or recs' (place_of p.end (suc j)) empty_record ≡ get_or recs (place_of p.end (suc j)) empty_record)
    (here : get_or recs' (place_of p.end (suc k)) empty_record ≡ joined_of p index x)
    (c : Chained recs (counting p k) index)
  where
    keys : (j : ℕ) → j < k → key_at recs p.end j ≡ key_at recs' p.end j
    keys j h = rw (same j h)

    new_key : key_at recs' p.end k ≡ bucket_of x
    new_key = rw (here, sized_joined p index x, ← whole)

    new_link : (joined_of p index x).size ≡ get_or index (p.heads + bucket_of x) 0
    unfolding joined_of linked_to
    new_link = rw (to_true p.linked on)

    new_index : index_with p (suc k) index x ≡ set index (p.heads + bucket_of x) (suc k)
    unfolding index_with
    new_index = rw (to_true p.linked on)

    new_links :
        (j : ℕ) → (j ≡ k) ⊎ (j ≢ k) → j < suc k
        → (get_or recs' (place_of p.end (suc j)) empty_record).size ≡ last_with (key_at recs' p.end) (key_at recs' p.end j) j
    new_links j (inl e) h =
        rw (e, new_key, here, new_link)
        (c.tops (bucket_of x) (bucket_head x) ∙ last_with-same (key_at recs p.end) (key_at recs' p.end) (bucket_of x) k keys)
    new_links j (inr n) h =
        let l : j < k = omega arith in
        rw (same j l)
        (c.links j l ∙ last_with-same (key_at recs p.end) (key_at recs' p.end) (key_at recs p.end j) j (λ i m. keys i (omega arith)))

    new_tops :
        (h : ℕ) → (bucket_of x ≡ h) ⊎ (bucket_of x ≢ h) → h < heads
        → get_or (set index (p.heads + bucket_of x) (suc k)) (p.heads + h) 0 ≡ last_with (key_at recs' p.end) h (suc k)
    new_tops h (inl e) l =
        rw (← e) (get_or-set_same index (p.heads + bucket_of x) (suc k) 0 (omega (arith, bucket_head x, c.room))
        ∙ sym (last_with_here (key_at recs' p.end) (bucket_of x) k new_key))
    new_tops h (inr n) l =
        get_or-set_other index (p.heads + bucket_of x) (p.heads + h) (suc k) 0 (λ e. n (omega arith))
        ∙ c.tops h l
        ∙ last_with-same (key_at recs p.end) (key_at recs' p.end) h k keys
        ∙ sym (last_with-before (key_at recs' p.end) h k (λ e. n (sym new_key ∙ e)))

    pub chained_next : Chained recs' (counting p (suc k)) (index_with p (suc k) index x)
    chained_next =
        rw new_index record {
          room = rw (length-set index (p.heads + bucket_of x) (suc k)) c.room;
          links = λ j h. new_links j (compared j k) h;
          tops = λ h l. new_tops h (compared (bucket_of x) h) l;
        }

-- the same, with the record stored at its place
pub chained_set :
    (p : Lane) (k : ℕ) (recs : List Record) (index : List ℕ) (x : Record) → T p.linked → x ≡ sized x → place_of p.end (suc k) < length recs
    → (0 < p.end → k < p.end) → Chained recs (counting p k) index
    → Chained (set recs (place_of p.end (suc k)) (joined_of p index x)) (counting p (suc k)) (index_with p (suc k) index x)
chained_set p k recs index x on whole inside apart c =
    let i = place_of p.end (suc k) in
    let y = joined_of p index x in
    chained_next p k recs (set recs i y) index x on whole
    (λ j h. get_or-set_other recs i (place_of p.end (suc j)) y empty_record (place_apart p.end j k h apart))
    (get_or-set_same recs i y empty_record inside)
    c

pub place-front : (end j : ℕ) → end ≡ 0 → place_of end (suc j) ≡ j
place-front end j e = rw e (omega arith)

-- some join one after the other, behind the first k of the pool
joins_on :
    (p : Lane) (k : ℕ) (recs : List Record) (index : List ℕ) (x : Record) (xs : List Record) → k + suc (length xs) ≤ length recs
    → take k recs ++ (joined_all p k index (x ∷ xs) ++ drop (k + suc (length xs)) recs)
    ≡ take (suc k) (set recs k (joined_of p index x))
    ++ (joined_all p (suc k) (index_with p (suc k) index x) xs ++ drop (suc k + length xs) (set recs k (joined_of p index x)))
unfolding joined_all
joins_on p k recs index x xs fits =
    let there : k + suc (length xs) ≡ suc k + length xs = omega arith in
    rw (take-suc-set recs k (joined_of p index x) (omega arith), append_assoc, drop-set-lt (suc k + length xs) recs k (joined_of p index x) (omega arith))
    (rw there)

pub chained_some :
    (p : Lane) (k : ℕ) (recs : List Record) (index : List ℕ) (xs : List Record) → T p.linked → p.end ≡ 0 → k + length xs ≤ length recs
    → ((x : Record) → In x xs → x ≡ sized x) → Chained recs (counting p k) index
    → Chained (take k recs ++ (joined_all p k index xs ++ drop (k + length xs) recs)) (counting p (k + length xs)) (index_all p k index xs)
unfolding index_all joined_all
chained_some p k recs index [] on front fits sizes c = rw (add-zero, take-append-drop) c
chained_some p k recs index (x ∷ xs) on front fits sizes c =
    let there : suc k + length xs ≡ k + suc (length xs) = omega arith in
    let next = set recs k (joined_of p index x) in
    let here : place_of p.end (suc k) ≡ k = place-front p.end k front in
    let one : Chained next (counting p (suc k)) (index_with p (suc k) index x) =
    rw here at (chained_set p k recs index x on (sizes x in_head) (rw here (omega arith)) (λ h. omega arith) c) in
    rw (joins_on p k recs index x xs fits, ← there)
    (chained_some p (suc k) next (index_with p (suc k) index x) xs on front (omega (arith, length-set recs k (joined_of p index x)))
    (λ y i. sizes y (Memᴰ.tail i)) one)

pub chained_all :
    (p : Lane) (recs : List Record) (index : List ℕ) (xs : List Record) → T p.linked → p.end ≡ 0 → p.count + length xs ≤ length recs
    → ((x : Record) → In x xs → x ≡ sized x) → Chained recs p index
    → Chained (take p.count recs ++ (joined_all p p.count index xs ++ drop (p.count + length xs) recs))
    (counting p (p.count + length xs))
    (index_all p p.count index xs)
chained_all p recs index xs = chained_some p p.count recs index xs

-- the last record leaves: the head of its bucket becomes its link
pub chained_fewer :
    (p : Lane) (k : ℕ) (recs : List Record) (index : List ℕ) → Chained recs (counting p (suc k)) index
    → Chained recs (counting p k)
    (set index (p.heads + key_at recs p.end k) (get_or recs (place_of p.end (suc k)) empty_record).size)
chained_fewer p k recs index c = record {
  room = rw (length-set index (p.heads + key_at recs p.end k) link) c.room;
  links = λ j h. c.links j (omega arith);
  tops = λ h l. go h (compared (key_at recs p.end k) h) l;
}
  where
    link : ℕ
    link = (get_or recs (place_of p.end (suc k)) empty_record).size

    below : key_at recs p.end k < heads
    below = bucket_head (sized (get_or recs (place_of p.end (suc k)) empty_record))

    go :
        (h : ℕ) → (key_at recs p.end k ≡ h) ⊎ (key_at recs p.end k ≢ h) → h < heads
        → get_or (set index (p.heads + key_at recs p.end k) link) (p.heads + h) 0 ≡ last_with (key_at recs p.end) h k
    go h (inl e) l =
        rw (← e) (get_or-set_same index (p.heads + key_at recs p.end k) link 0 (omega (arith, below, c.room)) ∙ c.links k (omega arith))
    go h (inr n) l =
        get_or-set_other index (p.heads + key_at recs p.end k) (p.heads + h) link 0 (λ e. n (omega arith))
        ∙ c.tops h l
        ∙ last_with-before (key_at recs p.end) h k n
