-- How the bytes of a file decode as an entry.
use Rattle.std.specs.Prelude.{ℕ, List, None, Some, take, drop, if◌then◌else◌}
use Rattle.std.specs.Int.{w64, from_be_bytes}
use Rattle.std.specs.Str.{bytes_eq}
use Rattle.cache_slot.specs.Entry.{entry}
use Rattle.lto_outside.specs.Honest.{Decoding}

-- the length of the key: eight bytes behind the magic number of eight
abbrev pub key_length : List ℕ → ℕ
key_length bytes = from_be_bytes w64 (take 8 (drop 8 bytes))

-- the key and the text: what stands behind the magic number and two lengths, cut at the length of the key
abbrev pub key_part : List ℕ → List ℕ
key_part bytes = take (key_length bytes) (drop 24 bytes)

abbrev pub text_part : List ℕ → List ℕ
text_part bytes = drop (key_length bytes) (drop 24 bytes)

-- the key and the text whose entry the bytes are, or none where they are no entry
unfoldable pub decoded : Decoding
decoded bytes = if bytes_eq bytes (entry (key_part bytes) (text_part bytes)) then Some (key_part bytes, text_part bytes) else None
