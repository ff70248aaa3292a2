-- The record of a node holds what document 01 says of it: what is computed on records (stops/specs/Code) is what the definitions on
-- orders give, for partial orders of the stops of a day.
--   record_of_encode    the record's fields are the six words of document 01
--   encode-last         the last stop
--   encode-extend       one more stop and what it adds to the path cost, but for the bound
--   encode_wide         the words have room for one more stop
--   built, built_none, built_wide, built_more, built_words    a node's record made of its stops alone, without costs
use mathlib.Core.Path.{◌≡◌, refl, sym, ◌∙◌}
use mathlib.Core.Bool.{false, cond}
use mathlib.Core.List.{[], ◌∷◌}
use mathlib.Core.Logic.{◌⊎◌, inl, inr}
use Prim.Native.Nat.{ℕ, ◌+◌, ◌-◌, ◌^◌, ◌/◌, ◌%◌, ◌≤◌, ◌<◌}
use native.Mathlib.Omega.{arith}
use borrow.Author.Tests.{ne_eqb, le-leb, lt-leb}
use lib.Dec.{leb, eqb}
use lib.ListN.{length, get_or, take, drop}
use Rattle.sizes.specs.Sizes.{most_stops, stop_base, word_stops}
use Rattle.lists.specs.Lists.{In}
use Rattle.lists.proofs.Tests.{ordered}
use Rattle.lists.proofs.Empty.{in_nonempty}
use Rattle.orders.specs.Orders.{Node, set_of, left, mask, last, size, extend, Partial}
use Rattle.orders.proofs.Sets.{empty_set, in_left, size-left, last_element}
use Rattle.orders.proofs.Partial.{partial_size}
use Rattle.days.specs.Days.{Day}
use Rattle.stops.specs.Code.{empty_record, extended, last_stop, Wide}
use Rattle.stops.specs.declared.node_record.Record.{Record}
use Rattle.records.specs.Records.{order_word, record_of}
use Rattle.records.specs.Code.{six, encode}
use Rattle.records.proofs.Mask.{set_small, mask-extend, ones-extend}
use Rattle.records.proofs.OrderWords.{Digits, first-digit, second_digit, first_below, second_below, first-extend, second_extend}

pub record_of_encode : (n : ℕ) (D : Day) (k : ℕ) (x : Node) → record_of n D k x ≡ six (encode n D k x)
unfolding record_of six encode
record_of_encode n D k x = refl

-- a record whose bound is not yet known
abbrev pub unbounded : Record → Record
unbounded r = record { size = r.size; set = r.set; path = r.path; bound = 0; first = r.first; second = r.second }

-- the last digit of a node's words, as `last_stop` reads it
words_last : Node → ℕ
words_last x =
    cond (eqb (length x) 0) 0
    (cond (leb (length x) word_stops) (order_word (take word_stops x) / stop_base ^ (length x - 1) % stop_base + 1)
    (cond (leb (length x) most_stops) (order_word (drop word_stops x) / stop_base ^ (length x - 1 - word_stops) % stop_base + 1) 0))

words_last_lem : (x : Node) → Digits x → length x ≤ most_stops → words_last x ≡ last x
unfolding words_last last
words_last_lem [] d few = refl
words_last_lem (r ∷ y) d few = go (ordered (length x) word_stops) ∙ sym (last_element x (omega arith))
  where
    x : Node
    x = r ∷ y

    go : (length x ≤ word_stops) ⊎ (word_stops < length x) → words_last x ≡ get_or x (length x - 1) 0
    go (inl k) =
        rw (ne_eqb (length x) 0 (omega arith), le-leb (length x) word_stops k) (first-digit x d (length x - 1) (omega arith) (omega arith))
    go (inr k) =
        let e : length x - 1 - word_stops ≡ length x - 1 - word_stops = omega arith in
        rw (ne_eqb (length x) 0 (omega arith), lt-leb (length x) word_stops k, le-leb (length x) most_stops few, e)
        (second_digit x d (length x - 1) (omega arith) (omega arith))

module _ (n : ℕ) (few : n ≤ most_stops) (x : Node) (p : Partial n x) where
  pub partial_digits : Digits x
  partial_digits s m = let h : (1 ≤ s) × (s ≤ n) = p.only s m in omega arith

  pub partial_short : length x ≤ most_stops
  partial_short = omega (arith, partial_size n x p, size-left n x)

module _ (n : ℕ) (few : n ≤ most_stops) (D : Day) (k : ℕ) (x : Node) (p : Partial n x) where
  pub encode-last : last_stop (encode n D k x) ≡ last x
  unfolding last_stop encode words_last
  encode-last = rw (partial_size n x p) (words_last_lem x (partial_digits n few x p) (partial_short n few x p))

  module _ (s : ℕ) (m : In s (left n x)) where
    pub encode-extend :
        (leg : ℕ) → D.path (extend x s) ≡ D.path x + leg → extended (encode n D k x) s leg ≡ unbounded (encode n D k (extend x s))
    unfolding extended encode
    encode-extend leg grows =
        rw (
          ← ones-extend n few x s m,
          mask-extend n x s m,
          grows,
          first-extend x s,
          second_extend x s,
          ← partial_size n x p,
        ) refl

    pub encode_wide : (leg : ℕ) → D.path x + leg < 2 ^ 32 → Wide (encode n D k x) s leg
    unfolding encode
    encode_wide leg h =
        let d : Digits x = partial_digits n few x p in
        let e : size n x ≡ length x = partial_size n x p in
        record {
          some = (in_left n x s m).0;
          few = omega (arith, in_left n x s m);
          room = omega (arith, size-left n x, in_nonempty m);
          set_small = set_small n few x;
          path_small = h;
          first_small = λ low. first_below x d (size n x) (omega arith);
          second_small = λ high. second_below x d (size n x - word_stops) (omega arith);
        }

-- a day on which nothing costs anything
abbrev free : Day
free = record { path = λ x. 0; cost = λ x. 0; bound = λ k x. 0; dominates = λ y z. false }

pub built : ℕ → Node → Record
built n x = encode n free 0 x

pub built_none : (n : ℕ) → empty_record ≡ built n []
unfolding built encode empty_record size mask
built_none n = rw (empty_set n) refl

pub built_words :
    (n : ℕ) (x : Node)
    → ((built n x).set ≡ mask (set_of n x)) × ((built n x).first ≡ order_word (take word_stops x))
    × ((built n x).second ≡ order_word (drop word_stops x))
unfolding built encode
built_words n x = (refl, refl, refl)

module _ (n : ℕ) (few : n ≤ most_stops) (x : Node) (p : Partial n x) (s : ℕ) (m : In s (left n x)) where
  pub built_wide : Wide (built n x) s 0
  unfolding built
  built_wide = encode_wide n few free 0 x p s m 0 (omega arith)

  pub built_more : extended (built n x) s 0 ≡ built n (extend x s)
  unfolding built encode
  built_more = encode-extend n few free 0 x p s m 0 refl
