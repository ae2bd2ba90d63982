-- Rows of 64-bit words, as lists of their bits.
use Rattle.std.specs.Prelude.{◌≡◌, ℕ, ◌+◌, ◌/◌, ◌%◌, ◌^◌, ◌<◌, ◌≤◌, ◌==◌, Bool, false, List, length, map, slice_index}
use Rattle.std.specs.Int.{bit_at}
use Rattle.std.specs.List.{range_with_len}

-- how many words hold this many bits
abbrev pub words_for : ℕ → ℕ
words_for size = (size + 63) / 64

-- bit k of a row, counted through its words from each one's lowest bit
abbrev pub bit_of : List ℕ → ℕ → Bool
bit_of words k = bit_at (slice_index words (k / 64)) (k % 64) == 1

abbrev pub row_of : ℕ → List ℕ → List Bool
row_of size words = map (bit_of words) (range_with_len 0 size)

-- as many words as the size needs, without a bit past it
pub record IsRow (size : ℕ) (words : List ℕ) : Type 0 where
  pub long : length words ≡ words_for size
  pub within : (i : ℕ) → slice_index words i < 2 ^ 64
  pub clear : (k : ℕ) → size ≤ k → bit_of words k ≡ false
