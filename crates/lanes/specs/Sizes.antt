-- The numbers of the pool's inside, by name, as src/constants.rt has them for the code. No answer depends on them.
use Rattle.std.specs.Prelude.{ℕ, ◌+◌}

-- the bound of a record that is gone, and a limit that the bounds of all others keep
abbrev pub gone : ℕ
gone = 4_294_967_295

abbrev pub every_bound : ℕ
every_bound = 4_294_967_294

-- blocks of places whose least bounds are kept
abbrev pub blocks : ℕ
blocks = 512

-- by what power of two places a block starts with
abbrev pub first_shift : ℕ
first_shift = 4

-- pools of fewer records are linked: numbers of records fit a word
abbrev pub most_linked : ℕ
most_linked = 4_294_967_295

-- heads of a lane's chains
abbrev pub heads : ℕ
heads = 8192

-- the index: the blocks' minima, the heads of the active lane, the heads of the branched lane
abbrev pub active_heads : ℕ
active_heads = blocks

abbrev pub far_heads : ℕ
far_heads = active_heads + heads

abbrev pub index_words : ℕ
index_words = far_heads + heads
