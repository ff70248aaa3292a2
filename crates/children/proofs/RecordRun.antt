-- The run on records is the written run: the problem of a setting and a table's rows on records (`Code`) is its problem on nodes, each node
-- encoded as its record.
use mathlib.Core.Path.{◌≡◌, refl, sym, ◌∙◌, ap}
use mathlib.Core.List.{List, [], map, map-map}
use Prim.Native.Nat.{ℕ, ◌+◌, ◌-◌, ◌^◌}
use native.Mathlib.Omega.{arith}
use Rattle.lists.specs.Lists.{In}
use Rattle.lists.proofs.Map.{map_same}
use Rattle.search.proofs.Mapped.{Maps}
use Rattle.orders.specs.Orders.{Node, Partial, extend, set_of, left, mask, size, complete}
use Rattle.orders.specs.Pairs.{ready, children}
use Rattle.orders.proofs.Sets.{empty_set}
use Rattle.orders.proofs.Tree.{complete-size}
use Rattle.orders.proofs.Partial.{partial_root, partial_child, partial_size}
use Rattle.orders.proofs.Pairs.{in_ready, kids-extend}
use Rattle.days.specs.Days.{Day, problem, choices}
use Rattle.days.specs.Code.{Reckoning}
use Rattle.days.proofs.Walk.{Walk, bound_exact}
use Rattle.stops.specs.Stops.{day_on}
use Rattle.stops.specs.Code.{empty_record, extended, last_stop, stops_in, reckon_on}
use Rattle.stops.proofs.StopsWalk.{rows_walk, place-last}
use Rattle.records.specs.Code.{encode}
use Rattle.stops.proofs.SetBits.{stops_in-all}
use Rattle.records.proofs.Mask.{stops-left}
use Rattle.records.proofs.Encode.{encode-last, encode-extend}
use Rattle.records.proofs.EncodeLaws.{encode_child, encode-smaller, encode-dominates}
use Rattle.children.specs.Code.{Table, Rows, problem_of, choices_of, encode_of, rest_of, pairs_by, bounded, born_of, child_of, children_of, root_of, rec_problem, rec_choices}
use Rattle.children.specs.declared.setting.Setting.{Setting}

module _ {d : Setting} {t : Table} (rows : Rows d t) where
  abbrev n : ℕ
  n = d.n

  abbrev k : ℕ
  k = d.bound

  abbrev D : Day
  D = day_on n t

  abbrev R : Reckoning
  R = reckon_on t

  walk : Walk n 3 D R
  walk = rows_walk n t

  -- the record of e
  pub encode_root : root_of d t ≡ encode_of d t []
  unfolding root_of encode_of bounded empty_record encode mask
  encode_root =
      λ i. record { size = sym none i; set = sym unset i; path = sym walk.path_root i; bound = bound i; first = 0; second = 0 }
    where
      none : size n [] ≡ 0
      none = partial_size n [] (partial_root n)

      unset : mask (set_of n []) ≡ 0
      unset = ap mask (empty_set n)

      bound : R.ahead k 0 (stops_in (2 ^ n - 1)) ≡ D.bound k []
      bound = rw (stops_in-all n rows.few, walk.bound_ahead k rows.bound [], walk.path_root, walk.place_root) (omega arith)

  module _ (x : Node) (p : Partial d.n x) where
    pub encode_kid : (s : ℕ) → In s (left n x) → child_of d t (encode_of d t x) s ≡ encode_of d t (extend x s)
    unfolding child_of born_of rest_of encode_of bounded encode
    encode_kid s m =
        ap (λ (q : ℕ). bounded (D.path x + R.further q s + rest q) (extended (encode n D k x) s (R.further q s))) place
        ∙ ap (bounded (D.path x + R.further (R.place x) s + rest (R.place x)))
        (encode-extend n rows.few D k x p s m (R.further (R.place x) s) (walk.path-extend x s m))
        ∙ ap (λ (v : ℕ). bounded v (encode n D k (extend x s))) bound
      where
        -- what the bound adds behind s, flown to from a place
        rest : ℕ → ℕ
        rest q = R.ahead k (R.after q s) (stops_in (2 ^ n - 1 - mask (set_of n x) - 2 ^ (s - 1)))

        place : last_stop (encode n D k x) ≡ R.place x
        place = encode-last n rows.few D k x p ∙ sym (place-last t x)

        bound : D.path x + R.further (R.place x) s + rest (R.place x) ≡ D.bound k (extend x s)
        bound =
            ap (λ (v : ℕ). v + rest (R.place x)) (sym (walk.path-extend x s m)) ∙ sym (encode_child walk rows.few k rows.bound x s m)

    encode-rest : stops_in (rest_of d (encode_of d t x)) ≡ left n x
    unfolding rest_of encode_of encode
    encode-rest = stops-left n rows.few x

    encode-children : children_of d t (encode_of d t x) ≡ map (encode_of d t) (children n (pairs_by d) x)
    unfolding children_of children
    encode-children =
        let next : List ℕ = ready (pairs_by d) (left n x) in
        ap (λ (rest : List ℕ). map (child_of d t (encode_of d t x)) (ready (pairs_by d) rest)) encode-rest
        ∙ map_same (child_of d t (encode_of d t x)) (λ s. encode_of d t (extend x s)) next (λ s m. encode_kid s (in_ready (pairs_by d) (left n x) s m).0)
        ∙ sym (map-map (encode_of d t) (extend x) next)

  pub record_maps : Maps (encode_of d t) (Partial d.n) (problem_of d t) (rec_problem d t) (choices_of d t) (rec_choices d)
  unfolding problem_of problem rec_problem choices_of choices rec_choices complete encode_of encode
  record_maps = record {
    root = encode_root;
    root_valid = partial_root n;
    children = encode-children;
    children_valid = λ x y p m. partial_child n x y p (kids-extend n (pairs_by d) x y m);
    complete = λ x p. refl;
    cost = λ x p whole. bound_exact walk k rows.bound x whole;
    dominates = λ w x p q. encode-dominates walk (place-last t) rows.few k w x p q;
    smaller = λ w x p q whole also. encode-smaller n rows.few D k w x p q (complete-size n w whole ∙ sym (complete-size n x also));
    above = refl;
    selection = refl;
    rules = refl;
    bound = λ x p. refl;
    budget = refl;
  }
