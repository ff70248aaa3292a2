-- Laws of the nodes that the pool's places show (`live_in`, `live_of`, `others_of`, `far_of`).
--   live_append, live_more, live_less    of joined records, and of one more in front that is a node, or gone
--   live_nodes                           the nodes lie with the records but for their size words; live_all: records that are all nodes
--   lane_cut, live_split                 the lane cut at a place, and at a node
--   live_trim, live_joined               the lane cut off behind its last node, and with records joined to it
--   live_marked, others_few              the lane with one node marked as gone, which is one node less
--   live_squeezed, squeezed_few          the lane squeezed; every-live: nothing but gone ones left out
--   live_like, far_like                  the lanes of two pools whose places have the same nodes
--   live_in_lem, in_live, live_few           a node of the lane has a place, and back; and there are at most as many as places
use mathlib.Core.Path.{◌≡◌, refl, sym, ap, subst, ◌∙◌}
use mathlib.Core.Bool.{Bool, true, false, ◌&&◌, and-false}
use mathlib.Core.List.{List, [], ◌∷◌, ◌++◌, map, map-append, append-nil}
use Prim.Native.Nat.{ℕ, suc, ◌+◌, ◌-◌, ◌≤◌, ◌<◌, min}
use native.Mathlib.Omega.{arith}
use borrow.Author.Tests.{leb-true, lt-ltb, le-ltb}
use lib.Dec.{T, leb→le, le→leb, ltb→lt, lt→ltb}
use lib.ListN.{length, get_or, set, take, drop, length-append, length-drop, length-map, length-take, get_or-map}
use lib.Seq.{slice, length-slice, length-take-le, take-append-add, take-append_seam, take-take, take-set-lt, get_or-take, get_or-drop, split_at, set_split, ext_get_or}
use Rattle.lists.specs.Lists.{In, keep}
use Rattle.lists.proofs.Empty.{no_members}
use Rattle.lists.proofs.Keep.{keep_append, keep_all, keep-keep, keep_same}
use Rattle.lists.proofs.Map.{keep-map}
use Rattle.lists.proofs.Members.{in_keep, keep_in, in_map, map_in}
use Rattle.lists.proofs.Numbers.{keep_parts}
use Rattle.lists.proofs.Parts.{in_place, in_get_or}
use Rattle.lists.proofs.Slices.{slice_join}
use Rattle.lists.proofs.Tests.{to_true, same_tests}
use Rattle.stops.specs.Code.{empty_record}
use Rattle.stops.specs.declared.node_record.Record.{Record}
use Rattle.records.specs.Code.{Sifted}
use Rattle.lanes.specs.Sizes.{gone, every_bound}
use Rattle.lanes.specs.Code.{sized, is_live, marked, is_within, live_in, live_of, others_of, far_of}

pub live_append : (xs ys : List Record) → live_in (xs ++ ys) ≡ live_in xs ++ live_in ys
unfolding live_in
live_append xs ys = ap (map sized) (keep_append is_live xs ys) ∙ map-append sized (keep is_live xs) (keep is_live ys)

pub live_more : (x : Record) (xs : List Record) → is_live x ≡ true → live_in (x ∷ xs) ≡ sized x ∷ live_in xs
unfolding live_in
live_more x xs e = rw e

pub live_less : (x : Record) (xs : List Record) → is_live x ≡ false → live_in (x ∷ xs) ≡ live_in xs
unfolding live_in
live_less x xs e = rw e

-- whether a record is a node lies with its bound alone
pub sized_live : (x : Record) → is_live (sized x) ≡ is_live x
unfolding is_live sized
sized_live x = refl

sized-within : (limit : ℕ) (x : Record) → is_within limit (sized x) ≡ is_within limit x
unfolding is_within sized
sized-within limit x = refl

marked-gone : (x : Record) → is_live (marked x) ≡ false
unfolding is_live marked
marked-gone x = le-ltb gone gone (omega arith)

pub live_nodes : (xs : List Record) → live_in xs ≡ keep is_live (map sized xs)
unfolding live_in
live_nodes xs = sym (keep-map sized is_live is_live xs (λ x m. sized_live x))

pub live_all : (xs xs' : List Record) → map sized xs' ≡ xs → ((x : Record) → In x xs → is_live x ≡ true) → live_in xs' ≡ xs
live_all xs xs' e all =
    live_nodes xs' ∙ ap (keep is_live) e ∙ keep_all is_live xs (λ x m. subst T (sym (all x m)) tt)

live_none : (xs : List Record) → ((x : Record) → In x xs → is_live x ≡ false) → live_in xs ≡ []
unfolding live_in
live_none xs none =
    ap (map sized)
    (no_members (keep is_live xs) (λ x m. let (i, h) = in_keep is_live xs x m in absurd (subst T (none x i) h)))

module _ (recs : List Record) (used : ℕ) where
  pub live_few : length (live_of used recs) ≤ used
  unfolding live_in
  live_few =
      let long : length (take used recs) ≡ min used (length recs) = length-take used recs in
      omega (arith, length-map (keep is_live (take used recs)) sized, keep_parts is_live (take used recs))

  pub live_in_lem :
      (x : Record) → In x (live_of used recs)
      → (i : ℕ) × (i < used) × (is_live (get_or recs i empty_record) ≡ true) × (x ≡ sized (get_or recs i empty_record))
  unfolding live_in
  live_in_lem x m =
      let (y, k, e) = in_map sized (keep is_live (take used recs)) x m in
      let (t, h) = in_keep is_live (take used recs) y k in
      let (i, b, g) = in_place (take used recs) y empty_record t in
      let long : length (take used recs) ≡ min used (length recs) = length-take used recs in
      let below : i < used = omega arith in
      let there : get_or recs i empty_record ≡ y = sym (get_or-take used recs i empty_record below) ∙ g in
      (i, below, ap is_live there ∙ to_true (is_live y) h, e ∙ ap sized (sym there))

  module _ (inside : used ≤ length recs) where
    long : length (take used recs) ≡ used
    long = length-take-le used recs inside

    pub in_live : (i : ℕ) → i < used → is_live (get_or recs i empty_record) ≡ true → In (sized (get_or recs i empty_record)) (live_of used recs)
    unfolding live_in
    in_live i h live =
        let there : In (get_or recs i empty_record) (take used recs) =
        subst (λ (x : Record). In x (take used recs)) (get_or-take used recs i empty_record h)
        (in_get_or (take used recs) i empty_record (omega (arith, long))) in
        map_in sized (keep_in is_live (take used recs) (get_or recs i empty_record) there (subst T (sym live) tt))

    pub live_trim :
        (e : ℕ) → e ≤ used → ((j : ℕ) → e ≤ j → j < used → is_live (get_or recs j empty_record) ≡ false) → live_of e recs ≡ live_of used recs
    live_trim e below none =
        sym
        (ap live_in (sym (slice_join recs 0 e used (omega arith) below inside))
        ∙ live_append (take e recs) (slice e used recs)
        ∙ ap (λ (l : List Record). live_of e recs ++ l) (live_none (slice e used recs) each)
        ∙ append-nil (live_of e recs))
      where
        each : (x : Record) → In x (slice e used recs) → is_live x ≡ false
        each x m =
            let (i, h, g) = in_place (slice e used recs) x empty_record m in
            let before : e + i < used = omega (arith, length-slice e used recs inside) in
            let there : get_or recs (e + i) empty_record ≡ x =
            sym (get_or-take used recs (e + i) empty_record before) ∙ sym (get_or-drop e (take used recs) i empty_record) ∙ g in
            ap is_live (sym there) ∙ none (e + i) (omega arith) before

    -- the lane cut at place i
    module _ (i : ℕ) (below : i < used) where
      pub lane_cut : take used recs ≡ take i recs ++ (get_or recs i empty_record ∷ slice (suc i) used recs)
      lane_cut =
          split_at (take used recs) i empty_record (omega (arith, long))
          ∙ rw (take-take i used recs (omega arith), get_or-take used recs i empty_record below)

      pub live_split :
          is_live (get_or recs i empty_record) ≡ true
          → live_of used recs ≡ live_in (take i recs) ++ (sized (get_or recs i empty_record) ∷ live_in (slice (suc i) used recs))
      live_split live =
          ap live_in lane_cut ∙ live_append (take i recs) (get_or recs i empty_record ∷ slice (suc i) used recs)
          ∙ ap (λ (l : List Record). live_in (take i recs) ++ l) (live_more (get_or recs i empty_record) (slice (suc i) used recs) live)

      pub live_marked : live_of used (set recs i (marked (get_or recs i empty_record))) ≡ others_of used i recs
      live_marked =
          let y : Record = marked (get_or recs i empty_record) in
          ap live_in
          (take-set-lt used recs i y below
          ∙ set_split (take used recs) i y (omega (arith, long))
          ∙ rw (take-take i used recs (omega arith)))
          ∙ live_append (take i recs) (y ∷ slice (suc i) used recs)
          ∙ ap (λ (l : List Record). live_in (take i recs) ++ l)
          (live_less y (slice (suc i) used recs) (marked-gone (get_or recs i empty_record)))

      pub others_few : is_live (get_or recs i empty_record) ≡ true → suc (length (others_of used i recs)) ≡ length (live_of used recs)
      others_few live =
          rw (live_split live, length-append (live_in (take i recs)) (live_in (slice (suc i) used recs)))
          (omega (arith, length-append (live_in (take i recs)) (sized (get_or recs i empty_record) ∷ live_in (slice (suc i) used recs))))

pub live_joined :
    (recs xs ys : List Record) (k : ℕ) → k ≤ length recs
    → live_of (k + length xs) (take k recs ++ (xs ++ ys)) ≡ live_of k recs ++ live_in xs
live_joined recs xs ys k h =
    let long : length (take k recs) ≡ k = length-take-le k recs h in
    let front : take (k + length xs) (take k recs ++ (xs ++ ys)) ≡ take k recs ++ xs =
    ap (λ (n : ℕ). take (n + length xs) (take k recs ++ (xs ++ ys))) (sym long)
    ∙ take-append-add (take k recs) (xs ++ ys) (length xs)
    ∙ ap (λ (l : List Record). take k recs ++ l) (take-append_seam xs ys) in
    ap live_in front ∙ live_append (take k recs) xs

-- a lane squeezed: a bound up to a limit below that of gone records is a node's, so what is kept are nodes
module _ (limit : ℕ) (small : limit < gone) where
  within_live : (x : Record) → is_within limit x ≡ true → is_live x ≡ true
  unfolding is_within is_live
  within_live x e = lt-ltb x.bound gone (omega (arith, leb-true x.bound limit e))

  live_within : (x : Record) → (is_live x && is_within limit x) ≡ is_within limit x
  live_within x = go (is_within limit x) (within_live x)
    where
      go : (b : Bool) → (b ≡ true → is_live x ≡ true) → (is_live x && b) ≡ b
      go true live = rw (live refl)
      go false live = and-false (is_live x)

  -- what is kept of the records is kept of the nodes
  kept-nodes : (xs : List Record) → map sized (keep (is_within limit) xs) ≡ keep (is_within limit) (live_in xs)
  unfolding live_in
  kept-nodes xs =
      sym
      (keep-map sized (is_within limit) (is_within limit) (keep is_live xs) (λ x m. sized-within limit x)
      ∙ ap (map sized)
      (keep-keep (is_within limit) is_live xs
      ∙ keep_same (λ x. is_live x && is_within limit x) (is_within limit) xs (λ x m. live_within x)))

  kept_live : (xs : List Record) → live_in (keep (is_within limit) xs) ≡ map sized (keep (is_within limit) xs)
  unfolding live_in
  kept_live xs =
      ap (map sized)
      (keep_all is_live (keep (is_within limit) xs)
      (λ x m. subst T (sym (within_live x (to_true (is_within limit x) (in_keep (is_within limit) xs x m).1))) tt))

  module _ (recs recs' : List Record) (used e : ℕ) (sifted : Sifted (is_within limit) recs 0 used 0 recs' e) where
    pub live_squeezed : live_of e recs' ≡ keep (is_within limit) (live_of used recs)
    live_squeezed = ap live_in sifted.front ∙ kept_live (take used recs) ∙ kept-nodes (take used recs)

    pub squeezed_few : e ≡ length (live_of e recs')
    squeezed_few =
        let kept : live_of e recs' ≡ map sized (keep (is_within limit) (take used recs)) = ap live_in sifted.front ∙ kept_live (take used recs) in
        omega (arith, sifted.count, ap length kept, length-map (keep (is_within limit) (take used recs)) sized)

-- with the limit that all nodes keep, all nodes are kept
pub every_live : (xs : List Record) → map sized (keep (is_within every_bound) xs) ≡ live_in xs
unfolding live_in is_within is_live
every_live xs = ap (map sized) (keep_same (is_within every_bound) is_live xs (λ x m. same x))
  where
    same : (x : Record) → is_within every_bound x ≡ is_live x
    same x =
        same_tests (is_within every_bound x) (is_live x)
        (λ h. lt→ltb x.bound gone (omega (arith, leb→le x.bound every_bound h)))
        (λ h. le→leb x.bound every_bound (omega (arith, ltb→lt x.bound gone h)))

-- pools whose places have the same nodes
same-sized :
    (xs ys : List Record) → length xs ≡ length ys
    → ((i : ℕ) → i < length xs → sized (get_or xs i empty_record) ≡ sized (get_or ys i empty_record)) → map sized xs ≡ map sized ys
same-sized xs ys long each =
    ext_get_or (sized empty_record) (map sized xs) (map sized ys) (length-map xs sized ∙ long ∙ sym (length-map ys sized))
    (λ i h.
    get_or-map sized xs i empty_record
    ∙ each i (omega (arith, length-map xs sized))
    ∙ sym (get_or-map sized ys i empty_record))

module _ (recs recs' : List Record) where
  pub live_like :
      (used : ℕ) → used ≤ length recs → used ≤ length recs'
      → ((i : ℕ) → i < used → sized (get_or recs i empty_record) ≡ sized (get_or recs' i empty_record)) → live_of used recs ≡ live_of used recs'
  live_like used h k each =
      live_nodes (take used recs)
      ∙ ap (keep is_live)
      (same-sized (take used recs) (take used recs') (long recs used h ∙ sym (long recs' used k))
      (λ i b.
      let below : i < used = omega (arith, long recs used h) in
      rw (get_or-take used recs i empty_record below, get_or-take used recs' i empty_record below) (each i below)))
      ∙ sym (live_nodes (take used recs'))

  pub far_like :
      (far : ℕ) → length recs ≡ length recs'
      → ((i : ℕ) → length recs - far ≤ i → i < length recs → sized (get_or recs i empty_record) ≡ sized (get_or recs' i empty_record))
      → far_of far recs ≡ far_of far recs'
  far_like far same each =
      let at : ℕ = length recs - far in
      same-sized (drop at recs) (drop at recs') (length-drop at recs ∙ ap (λ n. n - at) same ∙ sym (length-drop at recs'))
      (λ i b.
      rw (get_or-drop at recs i empty_record, get_or-drop at recs' i empty_record)
      (each (at + i) (omega arith) (omega (arith, length-drop at recs))))
      ∙ ap (λ n. map sized (drop (n - far) recs')) same
