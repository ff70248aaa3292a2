-- The numbers that documents 01 and 02 fix, by name. Each is written here, and for the code in src/lib.rt, and nowhere else; what follows from
-- another is reckoned from it.
use Rattle.std.specs.Prelude.{◌≡◌, refl, ℕ, suc, ◌+◌, ◌*◌, ◌^◌}

-- "Legs and orders": the stops of a day, its places (the stops and home), the numbers of its table, and the dearest leg
abbrev pub most_stops : ℕ
most_stops = 16

abbrev pub places : ℕ
places = suc most_stops

abbrev pub table_numbers : ℕ
table_numbers = places * places

abbrev pub dearest_leg : ℕ
dearest_leg = 1_000_000

-- Document 02, A.4: the dearest landing charge
abbrev pub dearest_charge : ℕ
dearest_charge = 100_000

-- and so the most that flying from one place to another can cost
abbrev pub dearest : ℕ
dearest = dearest_leg + dearest_charge

-- "The report": places for the stops of an order
abbrev pub order_places : ℕ
order_places = most_stops

-- "One run": U while no order is known, above the cost of every order (proved in `stops`)
abbrev pub above_every_cost : ℕ
above_every_cost = 4_294_967_295

-- a limit on bounds that every bound keeps; the code's own
abbrev pub no_limit : ℕ
no_limit = 4_294_967_295

-- "The pool": the words of a record; the bits of a stop in the words of an order, how many values these have, and how many stops a word holds
abbrev pub record_words : ℕ
record_words = 6

abbrev pub stop_bits : ℕ
stop_bits = 4

abbrev pub stop_base : ℕ
stop_base = 2 ^ stop_bits

abbrev pub word_stops : ℕ
word_stops = 8

-- Document 02, A.3: the largest 64-bit number, as a budget that no run reaches (proved in `answer`)
abbrev pub no_budget : ℕ
no_budget = 18_446_744_073_709_551_615

largest_of_64_bits : suc no_budget ≡ 2 ^ 64
largest_of_64_bits = refl

-- Document 02, A.6: the pairs that there may be, and the bytes of the longest pair file. (Sixteen stops make no more pairs than these; a longer file is
-- turned back by its length all the same.)
abbrev pub most_pairs : ℕ
most_pairs = 8

abbrev pub most_pair_bytes : ℕ
most_pair_bytes = 2 * most_pairs

-- "Job file and program": the bytes of the longest job file, which are those of its table, its starting order and its trailer
abbrev pub longest : ℕ
longest = 4 * table_numbers + order_places + 13
