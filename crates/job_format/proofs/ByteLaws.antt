-- Laws of bytes.
--   overwrite-none, overwrite-next, overwrite_one, length-overwrite, take-overwrite    a buffer whose front is written, a few bytes at a time
--   overwrite-behind    a part of a buffer, behind what is written, is lent and written in its turn
--   padded-overwrite    an array of zeros whose front is written
--   take_next, words-next, table_next    the lists that the loops write, one element more
--   each_append, length-words, length_each_word    these lists in parts, and their lengths
--   four_bytes    the word at a place, byte by byte
--   value_bytes, bytes_value    a number and its bytes, least byte first: each way and back
use mathlib.Core.Path.{◌≡◌, refl, ap, sym, ◌∙◌}
use mathlib.Core.List.Memᴰ
use mathlib.Core.List.{List, [], ◌∷◌, ◌++◌, append_assoc, append-nil}
use Prim.Native.Nat.{ℕ, zero, suc, ◌+◌, ◌*◌, ◌-◌, ◌^◌, ◌/◌, ◌%◌, ◌≤◌, ◌<◌}
use native.Mathlib.Numerals.{add-one, towards_suc}
use native.Mathlib.Omega.{arith}
use lib.ListN.{length, get_or, set, take, drop, replicate, length-append, length-drop, length-map}
use lib.Seq.{sets, sets-eq, take-append_seam, drop-append_seam, drop-append-add, drop-drop, take-suc, length-take-le}
use Rattle.lists.specs.Lists.{from, each, padded}
use Rattle.lists.proofs.Map.{map-from}
use Rattle.lists.proofs.Members.{in_head, length_from}
use Rattle.job_format.specs.Bytes.{least_first, value_of, word, word_at, overwrite, AllBytes}
use Rattle.job_format.specs.Reader.{words_in}
use Rattle.job_format.specs.Cases

pub overwrite-none : (buffer : List ℕ) → buffer ≡ overwrite [] buffer
unfolding overwrite
overwrite-none buffer = refl

pub length-overwrite : (xs buffer : List ℕ) → length xs ≤ length buffer → length (overwrite xs buffer) ≡ length buffer
unfolding overwrite
length-overwrite xs buffer h = simp (length-append, length-drop) (omega arith)

overwrite_more :
    (xs ys buffer : List ℕ) → length xs + length ys ≤ length buffer → sets (overwrite xs buffer) (length xs) ys ≡ overwrite (xs ++ ys) buffer
unfolding overwrite
overwrite_more xs ys buffer h =
    sets-eq ys (overwrite xs buffer) (length xs) (omega (arith, length-overwrite xs buffer (omega arith)))
    ∙ rw (take-append_seam, drop-append-add, drop-drop, length-append)

pub take-overwrite : (xs buffer : List ℕ) → take (length xs) (overwrite xs buffer) ≡ xs
unfolding overwrite
take-overwrite xs buffer = take-append_seam xs (drop (length xs) buffer)

-- one turn of a loop that writes ys behind xs
pub overwrite-next :
    (xs ys zs buffer : List ℕ) (place : ℕ) → length xs ≡ place → zs ≡ xs ++ ys → place + length ys ≤ length buffer
    → sets (overwrite xs buffer) place ys ≡ overwrite zs buffer
overwrite-next xs ys zs buffer place e f h = rw (← e, f) (overwrite_more xs ys buffer (omega arith))

-- one turn of a loop that writes bytes, or numbers into an array, one after another
pub overwrite_one :
    (xs zs buffer : List ℕ) (k y : ℕ) → length xs ≡ k → zs ≡ xs ++ (y ∷ []) → k < length buffer
    → set (overwrite xs buffer) k y ≡ overwrite zs buffer
overwrite_one xs zs buffer k y e f h = overwrite-next xs (y ∷ []) zs buffer k e f (omega arith)

pub overwrite-behind :
    (xs ys buffer : List ℕ)
    → take (length xs) (overwrite xs buffer) ++ overwrite ys (drop (length xs) (overwrite xs buffer)) ≡ overwrite (xs ++ ys) buffer
unfolding overwrite
overwrite-behind xs ys buffer = rw (take-append_seam, drop-append_seam, drop-drop, length-append, append_assoc)

abbrev zeros : ℕ → List ℕ
zeros n = replicate n 0

drop-zeros : (k n : ℕ) → drop k (zeros n) ≡ zeros (n - k)
drop-zeros zero n = ap zeros (let e : n ≡ n - 0 = omega arith in e)
drop-zeros (suc k) zero = ap zeros (let e : 0 ≡ 0 - suc k = omega arith in e)
drop-zeros (suc k) (suc n) = drop-zeros k n ∙ ap zeros (let e : n - k ≡ suc n - suc k = omega arith in e)

pub padded-overwrite : (n : ℕ) (xs : List ℕ) → padded n xs ≡ overwrite xs (zeros n)
unfolding padded overwrite
padded-overwrite n xs = ap (λ (l : List ℕ). xs ++ l) (sym (drop-zeros (length xs) n))

-- the lists that the loops write, one element more
pub take_next : (xs : List ℕ) (k : ℕ) → k < length xs → take (k + 1) xs ≡ take k xs ++ (get_or xs k 0 ∷ [])
take_next xs k h = rw add-one (take-suc xs k 0 h)

pub words-next : (k : ℕ) (file : List ℕ) → words_in (k + 1) file ≡ words_in k file ++ (word_at file (4 * k) ∷ [])
unfolding words_in
words-next k file = rw add-one (map-from (λ i. word_at file (4 * i)) 0 k k (omega arith))

pub length-words : (k : ℕ) (file : List ℕ) → length (words_in k file) ≡ k
unfolding words_in
length-words k file = length-map (from 0 k) (λ i. word_at file (4 * i)) ∙ length_from 0 k

pub length_each_word : (xs : List ℕ) → length (each word xs) ≡ 4 * length xs
unfolding word
length_each_word [] = omega arith
length_each_word (x ∷ xs) = omega (arith, length_each_word xs)

each_append : (k : ℕ → List ℕ) (xs ys : List ℕ) → each k (xs ++ ys) ≡ each k xs ++ each k ys
each_append k [] ys = refl
each_append k (x ∷ xs) ys = rw (each_append k xs ys, append_assoc)

each_next : (xs : List ℕ) (k : ℕ) → k < length xs → each word (take (k + 1) xs) ≡ each word (take k xs) ++ word (get_or xs k 0)
each_next xs k h = rw (take_next xs k, each_append, append-nil)

length-word : (x : ℕ) → length (word x) ≡ 4
unfolding word
length-word x = refl

-- one turn of the loop that writes the table
pub table_next :
    (table buffer : List ℕ) (k : ℕ) → k < length table → 4 * length table ≤ length buffer
    → sets (overwrite (each word (take k table)) buffer) (4 * k) (word (get_or table k 0)) ≡ overwrite (each word (take (k + 1) table)) buffer
table_next table buffer k h fits =
    let front : List ℕ = each word (take k table) in
    let place : length front ≡ 4 * k = omega (arith, length_each_word (take k table), length-take-le k table (omega arith)) in
    overwrite-next front _ _ buffer (4 * k) place (each_next table k h) (omega (arith, length-word (get_or table k 0)))

four_from :
    (bytes : List ℕ) (place : ℕ) → place + 4 ≤ length bytes
    → word_at bytes place
    ≡ get_or bytes place 0
    + 256 * (get_or bytes (suc place) 0 + 256 * (get_or bytes (suc (suc place)) 0 + 256 * get_or bytes (suc (suc (suc place))) 0))
unfolding word_at
four_from [] place h = absurd (omega arith)
four_from (a ∷ []) zero h = absurd (omega arith)
four_from (a ∷ b ∷ []) zero h = absurd (omega arith)
four_from (a ∷ b ∷ c ∷ []) zero h = absurd (omega arith)
four_from (a ∷ b ∷ c ∷ d ∷ bytes) zero h = omega arith
four_from (a ∷ bytes) (suc place) h = four_from bytes place (omega arith)

pub four_bytes :
    (bytes : List ℕ) (place : ℕ) → place + 4 ≤ length bytes
    → word_at bytes place
    ≡ get_or bytes place 0 + 256 * (get_or bytes (place + 1) 0 + 256 * (get_or bytes (place + 2) 0 + 256 * get_or bytes (place + 3) 0))
four_bytes bytes place h = simp towards_suc (four_from bytes place h)

pub value_bytes : (k x : ℕ) → x < 256 ^ k → value_of (least_first k x) ≡ x
value_bytes zero x h = omega arith
value_bytes (suc k) x h = let again : value_of (least_first k (x / 256)) ≡ x / 256 = value_bytes k (x / 256) (omega arith) in omega arith

pub bytes_value : (bytes : List ℕ) → AllBytes bytes → least_first (length bytes) (value_of bytes) ≡ bytes
bytes_value [] h = refl
bytes_value (b ∷ bytes) h =
    let small : b < 256 = h b in_head in
    let first : (b + 256 * value_of bytes) % 256 ≡ b = omega arith in
    let rest : (b + 256 * value_of bytes) / 256 ≡ value_of bytes = omega arith in
    rw (first, rest, bytes_value bytes (λ x m. h x (Memᴰ.tail m)))
