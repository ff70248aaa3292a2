-- Records and the pool's words of document 01: a pool whose records are those of some nodes, and empty ones behind, has the words of
-- the nodes and zeros behind.
--   words_append, words_empty    the words of joined records and of empty ones
--   words-encode                 the words of the records of nodes
--   length-words, length-nodes   how many these are
--   pool_words_lem                   the words of such a pool
use mathlib.Core.Path.{◌≡◌, refl, ap, sym, ◌∙◌}
use mathlib.Core.List.{List, [], ◌∷◌, ◌++◌, map, append_assoc}
use Prim.Native.Nat.{ℕ, zero, suc, ◌+◌, ◌*◌, ◌-◌, ◌%◌}
use native.Mathlib.Omega.{arith}
use lib.ListN.{length, replicate, length-map, replicate-append-replicate}
use Rattle.sizes.specs.Sizes.{record_words}
use Rattle.lists.specs.Lists.{each, padded}
use Rattle.orders.specs.Orders.{Node}
use Rattle.days.specs.Days.{Day}
use Rattle.stops.specs.Code.{empty_record}
use Rattle.stops.specs.declared.node_record.Record.{Record}
use Rattle.records.specs.Records.{record_of}
use Rattle.records.specs.Code.{records, six, words, encode}
use Rattle.records.proofs.ViewLaws.{length-records, words-records}
use Rattle.records.proofs.Encode.{record_of_encode}

words_append : (xs ys : List Record) → words (xs ++ ys) ≡ words xs ++ words ys
unfolding words
words_append [] ys = refl
words_append (x ∷ xs) ys = ap (λ (w : List ℕ). six x ++ w) (words_append xs ys) ∙ sym (append_assoc (six x) (words xs) (words ys))

words_empty : (m : ℕ) → words (replicate m empty_record) ≡ replicate (record_words * m) 0
unfolding words six empty_record
words_empty zero = refl
words_empty (suc m) =
    let e : record_words + record_words * m ≡ record_words * suc m = omega arith in
    ap (λ (w : List ℕ). six empty_record ++ w) (words_empty m)
    ∙ replicate-append-replicate record_words (record_words * m) 0
    ∙ ap (λ (j : ℕ). replicate j 0) e

words-encode : (n : ℕ) (D : Day) (k : ℕ) (xs : List Node) → words (map (encode n D k) xs) ≡ each (record_of n D k) xs
unfolding words
words-encode n D k [] = refl
words-encode n D k (x ∷ xs) = rw (record_of_encode n D k x, words-encode n D k xs)

length-words : (xs : List Record) → length (words xs) ≡ record_words * length xs
unfolding words six
length-words [] = refl
length-words (x ∷ xs) = omega (arith, length-words xs)

length-nodes : (n : ℕ) (D : Day) (k : ℕ) (xs : List Node) → length (each (record_of n D k) xs) ≡ record_words * length xs
length-nodes n D k xs =
    ap length (sym (words-encode n D k xs))
    ∙ length-words (map (encode n D k) xs)
    ∙ ap (λ (m : ℕ). record_words * m) (length-map xs (encode n D k))

-- The words of the pool are those of its records: six of each node, and six zeros of each empty record, which fill the pool up.
pub pool_words_lem :
    (n : ℕ) (D : Day) (k : ℕ) (w : List ℕ) (xs : List Node) → length w % record_words ≡ 0
    → records w ≡ map (encode n D k) xs ++ replicate (length (records w) - length xs) empty_record
    → w ≡ padded (length w) (each (record_of n D k) xs)
unfolding padded
pool_words_lem n D k w xs whole e =
    let free : ℕ = length (records w) - length xs in
    let zeros : record_words * free ≡ length w - length (each (record_of n D k) xs) = omega (arith, length-records w, length-nodes n D k xs) in
    sym (words-records w whole)
    ∙ ap words e
    ∙ words_append (map (encode n D k) xs) (replicate free empty_record)
    ∙ rw (words-encode n D k xs, words_empty free, zeros)
