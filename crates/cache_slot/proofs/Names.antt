-- The name of a key's file is ASCII text.
use Rattle.std.proofs.Common.{◌≡◌, ℕ, zero, suc, ◌/◌, ◌%◌, ◌<◌, ◌≤◌, Bool, true, false, true≢false, cond, nat_lt, List, [], ◌∷◌, ◌++◌, arith, refl, sym, ap, ◌∙◌, ⊎_elim}
use Rattle.std.proofs.lemmas.Bool.{cases_lt, lt-ltb, le-ltb}
use Rattle.std.specs.Prelude.{slice_index, codes}
use Rattle.std.specs.Str.{IsAscii, IsUtf8}
use Rattle.std.proofs.lemmas.Str.{IsUtf8-from_ascii, IsAscii-append}
use Rattle.hex.specs.Hex.{encode_with, lower_digits}
use Rattle.sha1.specs.Sha1.{sha1}
use Rattle.cache_slot.specs.Files.{file_of}

-- each byte of a list of ASCII bytes is one
ascii_cons : (b : ℕ) (bs : List ℕ) → b < 128 → IsAscii bs → IsAscii (b ∷ bs)
ascii_cons b bs small rest zero = small
ascii_cons b bs small rest (suc i) = rest i

ascii_nil : IsAscii []
ascii_nil i = omega arith

all_small : List ℕ → Bool
all_small [] = true
all_small (b ∷ bs) = cond (nat_lt b 128) (all_small bs) false

ascii_of : (bs : List ℕ) → all_small bs ≡ true → IsAscii bs
unfolding all_small
ascii_of [] e = ascii_nil
ascii_of (b ∷ bs) e = ⊎_elim
    (λ (lt : b < 128). ascii_cons b bs lt (ascii_of bs (sym (ap (λ t. cond t (all_small bs) false) (lt-ltb b 128 lt)) ∙ e)))
    (λ (ge : 128 ≤ b). absurd (true≢false (sym e ∙ ap (λ t. cond t (all_small bs) false) (le-ltb b 128 ge))))
    (cases_lt b 128)

digits_ascii : IsAscii lower_digits
unfolding all_small
digits_ascii = ascii_of lower_digits refl

ending_ascii : IsAscii (codes ".tlto")
unfolding all_small
ending_ascii = ascii_of (codes ".tlto") refl

hex_ascii : (bs : List ℕ) → IsAscii (encode_with lower_digits bs)
unfolding encode_with
hex_ascii [] = ascii_nil
hex_ascii (b ∷ bs) =
    ascii_cons (slice_index lower_digits (b / 16)) (slice_index lower_digits (b % 16) ∷ encode_with lower_digits bs) (digits_ascii (b / 16))
    (ascii_cons (slice_index lower_digits (b % 16)) (encode_with lower_digits bs) (digits_ascii (b % 16)) (hex_ascii bs))

pub name_utf8 : (key : List ℕ) → IsUtf8 (file_of key)
unfolding file_of
name_utf8 key = IsUtf8-from_ascii (encode_with lower_digits (sha1 key) ++ codes ".tlto") (IsAscii-append (encode_with lower_digits (sha1 key)) (codes ".tlto") (hex_ascii (sha1 key)) ending_ascii)
