-- Words as bytes, and bytes behind which a buffer stays as it was: document 01, "Job file and program". A word is a number of 32 bits.
use Rattle.std.specs.Prelude.{List, [], ◌∷◌, ◌++◌, ℕ, zero, suc, ◌+◌, ◌*◌, ◌/◌, ◌%◌, ◌<◌, length, take, drop}
use Rattle.lists.specs.Lists.{In}

-- the lowest k bytes of a number, the least of them first ..
abbrev pub least_first : ℕ → ℕ → List ℕ
least_first zero x = []
least_first (suc k) x = x % 256 ∷ least_first k (x / 256)

-- .. and the number that some bytes make up
abbrev pub value_of : List ℕ → ℕ
value_of [] = 0
value_of (b ∷ bs) = b + 256 * value_of bs

-- how many bytes a word has
abbrev pub word_bytes : ℕ
word_bytes = 4

-- the bytes of a word
unfoldable pub word : ℕ → List ℕ
word x = least_first word_bytes x

-- the word that begins at a place
unfoldable pub word_at : List ℕ → ℕ → ℕ
word_at bytes place = value_of (take word_bytes (drop place bytes))

-- some bytes at the front of a buffer; what is behind them stays
unfoldable pub overwrite : List ℕ → List ℕ → List ℕ
overwrite bytes buffer = bytes ++ drop (length bytes) buffer

-- a list that holds bytes alone, as every slice of them does
abbrev pub AllBytes : List ℕ → Type 0
AllBytes xs = (b : ℕ) → In b xs → b < 256
