-- Text as bytes, and numbers in decimal: document 01, "Job file and program".
use Rattle.std.specs.Prelude.{List, [], ◌∷◌, ◌++◌, ℕ, zero, suc, ◌+◌, ◌/◌, ◌%◌}
use Prim.Native.Char.{code}
use Prim.Native.String.{String, [] as nothing, ◌∷◌ as ◌then◌}
use Rattle.lists.specs.Lists.{each}

-- the bytes of a text, a byte a character
abbrev pub ascii : String → List ℕ
ascii nothing = []
ascii (c then s) = code c ∷ ascii s

-- the byte of a digit
abbrev pub digit : ℕ → ℕ
digit d = 48 + d

-- the digits of x, most significant first; none of 0. `most` is how many there may be.
abbrev pub digits_of : ℕ → ℕ → List ℕ
digits_of zero x = []
digits_of (suc most) zero = []
digits_of (suc most) (suc x) = digits_of most (suc x / 10) ++ (digit (suc x % 10) ∷ [])

-- a number "in decimal": the digits of x / 10, which are never more than x, and then the last digit of x
unfoldable pub decimal : ℕ → List ℕ
decimal x = digits_of x (x / 10) ++ (digit (x % 10) ∷ [])

-- numbers, each behind a space
unfoldable pub spaced : List ℕ → List ℕ
spaced xs = each (λ x. ascii " " ++ decimal x) xs

-- a line: its name, its numbers, and the byte that ends it
unfoldable pub line : String → List ℕ → List ℕ
line name xs = ascii name ++ spaced xs ++ ascii "\n"
