-- Laws of records that are marked as gone where they pass a test (`struck`, `Strikes`).
--   walkable_like, laid_like, laid_marked    pools whose records are alike but for bounds; one record marked
--   struck-gone, struck_spared, struck_out, struck_alike, struck_twice    a record that is struck out, or not
--   StruckAt, stays_gone, stays_spared, leaves, struck-count    the record at a place struck out, or not, and how many nodes are left
--   strikes_none, strikes_on, strikes_same, strikes_live        what `Strikes` says of one test after another, and of the nodes
--   StrikingAll, striking_all_starts, striking_all_again, striking_all_ends    a loop over children
use mathlib.Core.Path.{◌≡◌, refl, ap, sym, ◌∙◌}
use mathlib.Core.Bool.{Bool, true, false, not, cond, ◌&&◌, ◌||◌, and-false, or-false, or_assoc}
use mathlib.Core.List.Memᴰ
use mathlib.Core.List.{List, [], ◌∷◌, map, map-append}
use mathlib.Core.Logic.{◌⊎◌, inl, inr, ◌≢◌}
use Prim.Native.Nat.{ℕ, zero, suc, ◌+◌, ◌-◌, ◌^◌, ◌≤◌, ◌<◌}
use native.Mathlib.Omega.{arith}
use mir.Val.{bool_byte}
use borrow.Author.Tests.{le-ltb}
use lib.Dec.{T}
use lib.ListN.{length, get_or, set, take, length-set}
use lib.Seq.{take-suc, get_or-set_same, get_or-set_other, set-get_or}
use Rattle.sizes.specs.Sizes.{most_stops}
use Rattle.lists.specs.Lists.{In, keep}
use Rattle.lists.proofs.Tests.{compared}
use Rattle.stops.specs.Code.{empty_record, rec_dominates, stops_in, First}
use Rattle.stops.specs.declared.node_record.Record.{Record}
use Rattle.records.specs.Code.{in_slot, slots}
use Rattle.records.proofs.SlotLaws.{slots-none, slots-first}
use Rattle.lanes.specs.Sizes.{gone, blocks}
use Rattle.lanes.specs.Code.{sized, is_live, marked, live_in, live_of, place_of}
use Rattle.lanes.specs.declared.Lane.{Lane}
use Rattle.lanes.specs.declared.layout.Layout.{Layout}
use Rattle.lanes.specs.Layouts.{active_lane, far_lane}
use Rattle.lanes.proofs.LiveLaws.{live_marked, others_few, live_more, live_less}
use Rattle.chains.specs.Code.{Walkable}
use Rattle.chains.proofs.ChainLaws.{Alike, alike_same, alike_marked, chained_like}
use Rattle.blocks.specs.Code.{Same}
use Rattle.pool.specs.Code.{Laid, Ranked}
use Rattle.replacement.specs.Code.{struck, is_beaten, Strikes}

-- ---- pools whose records are alike

walkable_like :
    (recs recs' : List Record) (p : Lane) (index index' : List ℕ) → blocks ≤ p.heads → length recs' ≡ length recs
    → ((j : ℕ) → Alike (get_or recs j empty_record) (get_or recs' j empty_record)) → Same index index' → Walkable recs p index → Walkable recs' p index'
walkable_like recs recs' p index index' high long alike same w = record {
  lies = record { inside = λ j h. rw long (w.lies.inside j h); apart = w.lies.apart };
  chains = λ on.
      chained_like recs recs' p index index' (λ j h. alike (place_of p.end (suc j)))
      (λ h l. same.behind (p.heads + h) (omega arith)) (rw same.same_length (w.chains on).room) (w.chains on);
}

pub laid_like :
    (recs recs' : List Record) (p : Layout) (index index' : List ℕ) → length recs' ≡ length recs
    → ((j : ℕ) → Alike (get_or recs j empty_record) (get_or recs' j empty_record)) → Same index index' → (T p.ranked → Ranked recs' p index')
    → Laid recs p index → Laid recs' p index'
laid_like recs recs' p index index' long alike same ranks l = record {
  whole = l.whole ∙ sym long;
  some = l.some;
  fits = l.fits;
  lane = walkable_like recs recs' (active_lane p) index index' (omega arith) long alike same l.lane;
  far_lane_lem = walkable_like recs recs' (far_lane p) index index' (omega arith) long alike same l.far_lane_lem;
  few = l.few;
  far_few = l.far_few;
  ranks = ranks;
}

-- one record marked, and the minima found anew
pub laid_marked :
    (recs recs' : List Record) (p : Layout) (index index' : List ℕ) (i : ℕ) → i < p.used
    → recs' ≡ set recs i (marked (get_or recs i empty_record)) → Same index index' → (T p.ranked → Ranked recs' p index')
    → Laid recs p index → Laid recs' p index'
laid_marked recs recs' p index index' i h e same ranks l =
    laid_like recs recs' p index index' (rw e (length-set recs i y)) (λ j. rw e (go j (compared j i))) same ranks l
  where
    y : Record
    y = marked (get_or recs i empty_record)

    go : (j : ℕ) → (j ≡ i) ⊎ (j ≢ i) → Alike (get_or recs j empty_record) (get_or (set recs i y) j empty_record)
    go j (inl s) =
        rw (s, get_or-set_same recs i y empty_record (omega (arith, l.whole, l.fits))) (alike_marked (get_or recs i empty_record))
    go j (inr n) = alike_same _ _ (get_or-set_other recs i j y empty_record n)

-- ---- a record that is struck out, or not

marked-gone : (x : Record) → is_live (marked x) ≡ false
unfolding is_live marked
marked-gone x = le-ltb gone gone (omega arith)

pub struck-gone : (test : Record → Bool) (x : Record) → is_live x ≡ false → struck test x ≡ x
unfolding struck
struck-gone test x e = rw e

pub struck_spared : (test : Record → Bool) (x : Record) → test (sized x) ≡ false → struck test x ≡ x
unfolding struck
struck_spared test x e = rw (e, and-false)

pub struck_out : (test : Record → Bool) (x : Record) → is_live x ≡ true → test (sized x) ≡ true → struck test x ≡ marked x
unfolding struck
struck_out test x live e = rw (live, e)

pub struck_alike : (test : Record → Bool) (x : Record) → Alike x (struck test x)
unfolding struck
struck_alike test x = go (is_live x && test (sized x))
  where
    go : (b : Bool) → Alike x (cond b (marked x) x)
    go true = alike_marked x
    go false = alike_same x x refl

-- one test after the other
struck_twice : (f g : Record → Bool) (x : Record) → struck g (struck f x) ≡ struck (λ y. f y || g y) x
unfolding struck
struck_twice f g x = go (is_live x) (f (sized x)) refl refl
  where
    go :
        (a b : Bool) → is_live x ≡ a → f (sized x) ≡ b
        → struck g (cond (a && b) (marked x) x) ≡ cond (a && (b || g (sized x))) (marked x) x
    go true true live passes = struck-gone g (marked x) (marked-gone x)
    go true false live passes = rw live
    go false b live passes = struck-gone g x live

-- what becomes of the record at i, and how many leave
module _ (test : Record → Bool) (recs : List Record) (i : ℕ) where
  abbrev pub StruckAt : List Record → Bool → Type 0
  StruckAt recs' r =
      let x = get_or recs i empty_record in (recs' ≡ set recs i (struck test x)) × (r ≡ (is_live x && test (sized x)))

  pub stays_gone : is_live (get_or recs i empty_record) ≡ false → StruckAt recs false
  unfolding struck
  stays_gone e = (rw (e, set-get_or recs i empty_record), rw e)

  pub stays_spared : test (sized (get_or recs i empty_record)) ≡ false → StruckAt recs false
  unfolding struck
  stays_spared e = (rw (e, and-false, set-get_or recs i empty_record), rw (e, and-false))

  pub leaves :
      (recs' : List Record) → is_live (get_or recs i empty_record) ≡ true → test (sized (get_or recs i empty_record)) ≡ true
      → recs' ≡ set recs i (marked (get_or recs i empty_record)) → StruckAt recs' true
  unfolding struck
  leaves recs' live e stored = (rw (live, e) stored, rw (live, e))

-- how many nodes are left
module _ (test : Record → Bool) (recs : List Record) (used i : ℕ) (below : i < used) (inside : used ≤ length recs) where
  strike_count :
      let x = get_or recs i empty_record in
      bool_byte (is_live x && test (sized x)) + length (live_of used (set recs i (struck test x))) ≡ length (live_of used recs)
  unfolding struck
  strike_count = go (is_live x) (test (sized x)) refl
    where
      x : Record
      x = get_or recs i empty_record

      go :
          (a b : Bool) → is_live x ≡ a
          → bool_byte (a && b) + length (live_of used (set recs i (cond (a && b) (marked x) x))) ≡ length (live_of used recs)
      go true true live = rw (live_marked recs used inside i below) (omega (arith, others_few recs used inside i below live))
      go true false live = rw (set-get_or recs i empty_record) (omega arith)
      go false b live = rw (set-get_or recs i empty_record) (omega arith)

-- of the nodes, so many leave
pub struck-count :
    (test : Record → Bool) (recs recs' : List Record) (used i : ℕ) (n : Bool) → i < used → used ≤ length recs → StruckAt test recs i recs' n
    → bool_byte n + length (live_of used recs') ≡ length (live_of used recs)
struck-count test recs recs' used i n below inside (stored, less) = rw (less, stored) (strike_count test recs used i below inside)

-- ---- all that pass a test

module _ (used : ℕ) where
  pub strikes_none : (recs : List Record) → Strikes (λ x. false) used recs recs 0
  strikes_none recs = record {
    same_length = refl;
    each = λ j h. sym (struck_spared (λ x. false) (get_or recs j empty_record) refl);
    behind = λ j h. refl;
    count = omega arith;
  }

  pub strikes_same :
      {f g : Record → Bool} {recs recs' : List Record} {lost : ℕ} → ((x : Record) → f x ≡ g x) → Strikes f used recs recs' lost
      → Strikes g used recs recs' lost
  unfolding struck
  strikes_same {f} {g} {recs} same s = record {
    same_length = s.same_length;
    each = λ j h. s.each j h ∙ struck-same (get_or recs j empty_record);
    behind = s.behind;
    count = s.count;
  }
    where
      struck-same : (x : Record) → struck f x ≡ struck g x
      struck-same x = rw (same (sized x))

  pub strikes_on :
      {f g : Record → Bool} {a b c : List Record} {m n : ℕ} → Strikes f used a b m → Strikes g used b c n
      → Strikes (λ x. f x || g x) used a c (m + n)
  strikes_on {f} {g} {a} s t = record {
    same_length = t.same_length ∙ s.same_length;
    each = λ j h. t.each j h ∙ ap (struck g) (s.each j h) ∙ struck_twice f g (get_or a j empty_record);
    behind = λ j h. t.behind j h ∙ s.behind j h;
    count = omega (arith, s.count, t.count);
  }

-- the nodes that are left are those that do not pass the test
live_struck : (test : Record → Bool) (xs : List Record) → live_in (map (struck test) xs) ≡ keep (λ x. not (test x)) (live_in xs)
unfolding live_in
live_struck test [] = refl
live_struck test (x ∷ xs) = go (is_live x) (test (sized x)) refl refl (live_struck test xs)
  where
    go :
        (a b : Bool) → is_live x ≡ a → test (sized x) ≡ b → live_in (map (struck test) xs) ≡ keep (λ y. not (test y)) (live_in xs)
        → live_in (struck test x ∷ map (struck test) xs) ≡ keep (λ y. not (test y)) (live_in (x ∷ xs))
    go true true live passes again =
        rw (struck_out test x live passes, live_less (marked x) (map (struck test) xs) (marked-gone x), live_more x xs live, passes) again
    go true false live passes again =
        rw (struck_spared test x passes, live_more x (map (struck test) xs) live, live_more x xs live, passes)
        (ap (λ (l : List Record). sized x ∷ l) again)
    go false b live passes again = rw (struck-gone test x live, live_less x (map (struck test) xs) live, live_less x xs live) again

module _
    {test : Record → Bool} {used : ℕ} {recs recs' : List Record} {lost : ℕ} (s : Strikes test used recs recs' lost) (inside : used ≤ length recs)
  where
    struck-front : (k : ℕ) → k ≤ used → take k recs' ≡ map (struck test) (take k recs)
    struck-front zero h = refl
    struck-front (suc k) h =
        take-suc recs' k empty_record (omega (arith, s.same_length))
        ∙ rw (struck-front k (omega arith), s.each k h, take-suc recs k empty_record (omega arith), map-append)

    pub strikes_live : live_of used recs' ≡ keep (λ x. not (test x)) (live_of used recs)
    strikes_live = ap live_in (struck-front used (omega arith)) ∙ live_struck test (take used recs)

-- ---- a loop over children

-- what has been struck out so far is what a child passed dominates: `test` and those left make up all of them
pub record StrikingAll (kids : List Record) (taking used : ℕ) (recs recs' : List Record) (lost left : ℕ) : Type 0 where
  pub small : left < 2 ^ most_stops
  pub among : (s : ℕ) → In s (stops_in left) → In s (stops_in taking)
  pub test : Record → Bool
  pub strikes : Strikes test used recs recs' lost
  pub all : (x : Record) → (test x || is_beaten (slots left kids) x) ≡ is_beaten (slots taking kids) x

pub striking_all_starts :
    (kids : List Record) (taking used : ℕ) (recs : List Record) → taking < 2 ^ most_stops → StrikingAll kids taking used recs recs 0 taking
striking_all_starts kids taking used recs h = record {
  small = h;
  among = λ s i. i;
  test = λ x. false;
  strikes = strikes_none used recs;
  all = λ x. refl;
}

module _
    {kids : List Record} {taking used : ℕ} {recs recs' : List Record} {lost left : ℕ} (l : StrikingAll kids taking used recs recs' lost left)
  where
    pub striking_all_again :
        {recs'' : List Record} {n left' s : ℕ} → First left s → left' ≡ left - 2 ^ (s - 1)
        → Strikes (rec_dominates (in_slot kids s)) used recs' recs'' n → StrikingAll kids taking used recs recs'' (lost + n) left'
    striking_all_again {s = s} o e more = record {
      small = omega (arith, l.small, o.less);
      among = λ r i. l.among r (rw o.others (Memᴰ.tail (rw e at i)));
      test = λ x. l.test x || rec_dominates (in_slot kids s) x;
      strikes = strikes_on used l.strikes more;
      all = λ x.
          rw (e, or_assoc (l.test x) (rec_dominates (in_slot kids s) x) (is_beaten (slots (left - 2 ^ (s - 1)) kids) x))
          (rw (slots-first kids o) at (l.all x));
    }

    pub striking_all_ends : left ≡ 0 → Strikes (is_beaten (slots taking kids)) used recs recs' lost
    striking_all_ends e = strikes_same used (λ x. rw (e, slots-none kids, or-false) at (l.all x)) l.strikes
