-- What the code calls the causes of a refusal, and the numbers that documents 01 and 02 give them.
use Rattle.std.specs.Prelude.{◌≡◌, refl, ℕ, [], ◌∷◌, map, Result, Ok, Err}
use Rattle.lists.specs.Lists.{from}
use Rattle.answer.specs.declared.refusal.Refusal.{Refusal}
use Rattle.answer.specs.declared.refusal.Refusal.TheVariants.{Stops, Table, Dear, Choice, Start, Pool, Full, Short, Layout, Buffer, Pairs}

-- 1 to 6 are the checks of a call, 7 a pool that its run filled; 8 to 10 are of job files; 11 is the check of the pairs (request A.6)
abbrev pub number : Refusal → ℕ
number Stops = 1
number Table = 2
number Dear = 3
number Choice = 4
number Start = 5
number Pool = 6
number Full = 7
number Short = 8
number Layout = 9
number Buffer = 10
number Pairs = 11

-- of an answer that may be a refusal: its number, 0 where it is none
abbrev pub number_in : {A : Type 0} → Result A Refusal → ℕ
number_in (Ok a) = 0
number_in (Err e) = number e

-- 1 to 11, in this order
in-order :
    map number (Stops ∷ Table ∷ Dear ∷ Choice ∷ Start ∷ Pool ∷ Full ∷ Short ∷ Layout ∷ Buffer ∷ Pairs ∷ [])
    ≡ from 1 11
in-order = refl
