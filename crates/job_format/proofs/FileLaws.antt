-- A file and its parts: what the reader finds in the bytes of some contents, and what the bytes are of what it found.
--   words_cons       the first of the words of a file, and the others
--   words_of, of_words    the words of the table's bytes, and the bytes of its words
--   trailer_of_lem, of_trailer    the same of the trailer
use mathlib.Core.Path.{◌≡◌, refl, ap, sym, subst, ◌∙◌}
use mathlib.Core.List.Memᴰ
use mathlib.Core.List.{List, [], ◌∷◌, ◌++◌, map}
use Prim.Native.Nat.{ℕ, zero, suc, ◌+◌, ◌*◌, ◌≤◌, ◌<◌}
use native.Mathlib.Omega.{arith}
use lib.ListN.{length, get_or, take, drop, take-append-drop, length-drop, drop_of_length-le}
use lib.Seq.{drop-cons, take-add, length-take-le}
use Rattle.lists.specs.Lists.{In, from, each}
use Rattle.lists.proofs.Map.{map_same}
use Rattle.lists.proofs.Members.{in_head}
use Rattle.job_format.specs.Bytes.{least_first, value_of, word, word_at, AllBytes}
use Rattle.job_format.specs.Contents.{Trailer, trailer_length, trailer_bytes}
use Rattle.job_format.specs.Reader.{words_in, trailer_from}
use Rattle.job_format.proofs.ByteLaws.{value_bytes, bytes_value}

-- parts of a list of bytes are bytes
front_bytes : (k : ℕ) (xs : List ℕ) → AllBytes xs → AllBytes (take k xs)
front_bytes k xs h b m = h b (subst (In b) (take-append-drop k xs) (Memᴰ.append_left (drop k xs) m))

pub rest_bytes : (k : ℕ) (xs : List ℕ) → AllBytes xs → AllBytes (drop k xs)
rest_bytes k xs h b m = h b (subst (In b) (take-append-drop k xs) (Memᴰ.append_right (take k xs) m))

value_word : (x : ℕ) → x < 4_294_967_296 → value_of (word x) ≡ x
unfolding word
value_word x h = value_bytes 4 x (omega arith)

word_value : (bytes : List ℕ) → length bytes ≡ 4 → AllBytes bytes → word (value_of bytes) ≡ bytes
unfolding word
word_value bytes e h = ap (λ (k : ℕ). least_first k (value_of bytes)) (sym e) ∙ bytes_value bytes h

-- ---- the table

map-later : (f : ℕ → ℕ) (a k : ℕ) → map f (from (suc a) k) ≡ map (λ i. f (suc i)) (from a k)
map-later f a zero = refl
map-later f a (suc k) = ap (λ (l : List ℕ). f (suc a) ∷ l) (map-later f (suc a) k)

later : (a b c d : ℕ) (file : List ℕ) (i : ℕ) → word_at (a ∷ b ∷ c ∷ d ∷ file) (4 * suc i) ≡ word_at file (4 * i)
unfolding word_at
later a b c d file i =
    let n : 4 * suc i ≡ suc (suc (suc (suc (4 * i)))) = omega arith in
    rw n

words_cons :
    (k a b c d : ℕ) (file : List ℕ)
    → words_in (suc k) (a ∷ b ∷ c ∷ d ∷ file) ≡ value_of (a ∷ b ∷ c ∷ d ∷ []) ∷ words_in k file
unfolding words_in word_at
words_cons k a b c d file =
    let at : ℕ → ℕ = λ i. word_at (a ∷ b ∷ c ∷ d ∷ file) (4 * i) in
    ap (λ (l : List ℕ). value_of (a ∷ b ∷ c ∷ d ∷ []) ∷ l)
    (map-later at 0 k ∙ map_same (λ i. at (suc i)) (λ i. word_at file (4 * i)) (from 0 k) (λ i m. later a b c d file i))

words-none : (file : List ℕ) → words_in 0 file ≡ []
unfolding words_in
words-none file = refl

pub words_of :
    (xs rest : List ℕ) → ((x : ℕ) → In x xs → x < 4_294_967_296) → words_in (length xs) (each word xs ++ rest) ≡ xs
unfolding word
words_of [] rest small = words-none rest
words_of (x ∷ xs) rest small =
    words_cons (length xs) _ _ _ _ (each word xs ++ rest)
    ∙ rw (value_word x (small x in_head), words_of xs rest (λ y m. small y (Memᴰ.tail m)))

pub of_words : (k : ℕ) (file : List ℕ) → AllBytes file → 4 * k ≤ length file → each word (words_in k file) ≡ take (4 * k) file
of_words zero file h l = ap (each word) (words-none file)
of_words (suc k) [] h l = absurd (omega arith)
of_words (suc k) (a ∷ []) h l = absurd (omega arith)
of_words (suc k) (a ∷ b ∷ []) h l = absurd (omega arith)
of_words (suc k) (a ∷ b ∷ c ∷ []) h l = absurd (omega arith)
of_words (suc k) (a ∷ b ∷ c ∷ d ∷ file) h l =
    let n : 4 * suc k ≡ suc (suc (suc (suc (4 * k)))) = omega arith in
    rw (words_cons k a b c d file, n, word_value (a ∷ b ∷ c ∷ d ∷ []) refl (front_bytes 4 (a ∷ b ∷ c ∷ d ∷ file) h), of_words k file (rest_bytes 4 (a ∷ b ∷ c ∷ d ∷ file) h) (omega arith))

-- ---- the trailer

pub trailer_of_lem : (t : Trailer) → t.table_place < 4_294_967_296 → t.start_place < 4_294_967_296 → trailer_from (trailer_bytes t) ≡ t
unfolding trailer_from trailer_bytes word_at word
trailer_of_lem t h k = λ i. record {
  table_place = value_word t.table_place h i;
  start_place = value_word t.start_place k i;
  job = t.job;
  start_length = t.start_length;
}

word_there :
    (bytes : List ℕ) (place : ℕ) → place + 4 ≤ length bytes → AllBytes bytes → word (word_at bytes place) ≡ take 4 (drop place bytes)
unfolding word_at
word_there bytes place l h =
    let left : 4 ≤ length (drop place bytes) = omega (arith, length-drop place bytes) in
    word_value (take 4 (drop place bytes)) (length-take-le 4 (drop place bytes) left) (front_bytes 4 (drop place bytes) (rest_bytes place bytes h))

last_five :
    (bytes : List ℕ) → length bytes ≡ trailer_length
    → drop 8 bytes ≡ get_or bytes 8 0 ∷ get_or bytes 9 0 ∷ get_or bytes 10 0 ∷ get_or bytes 11 0 ∷ get_or bytes 12 0 ∷ []
last_five bytes e =
    drop-cons bytes 8 0 (omega arith)
    ∙ rw (drop-cons bytes 9 0 (omega arith), drop-cons bytes 10 0 (omega arith), drop-cons bytes 11 0 (omega arith), drop-cons bytes 12 0 (omega arith), drop_of_length-le bytes {i = 13} (omega arith))

pub of_trailer : (bytes : List ℕ) → length bytes ≡ trailer_length → AllBytes bytes → trailer_bytes (trailer_from bytes) ≡ bytes
unfolding trailer_bytes trailer_from
of_trailer bytes e h =
    rw (word_there bytes 0 (omega arith) h, word_there bytes 4 (omega arith) h, ← last_five bytes e, ← take-add 4 4 bytes, take-append-drop 8 bytes)
