-- The parts of an entry, read from its front.
use Rattle.std.proofs.Common.{◌≡◌, ℕ, zero, suc, ◌+◌, ◌<◌, ◌^◌, List, [], ◌∷◌, ◌++◌, length, get_or, take, drop, refl, sym, ap, subst, ◌∙◌, arith, length-append, length-drop, append_assoc}
use Rattle.std.specs.Int.{w64, from_be_bytes}
use Rattle.std.proofs.lemmas.Nat.{be_bytes_8, from_be_bytes-to_be_bytes_8}
use Rattle.std.proofs.lemmas.List.{append_cancel_left, take-append-drop, length-take}
use Rattle.std.proofs.Math.Seq.{take-append_seam, drop-append_seam}
use Rattle.cache_slot.specs.Entry.{magic, length_field, entry, Fits, IsNoEntry, ReadsAs, ReadsOneWay, HasNoProperPrefix}

pub length-length_field : (n : ℕ) → length (length_field n) ≡ 8
unfolding length_field
length-length_field n = refl

pub field_of_bytes : (bs : List ℕ) (n : ℕ) → length bs ≡ 8 → ((i : ℕ) → get_or bs i 0 < 256) → n ≡ from_be_bytes w64 bs → length_field n ≡ bs
unfolding length_field
field_of_bytes bs n len bound e = be_bytes_8 bs n len bound e

pub small_front : (bs : List ℕ) (n : ℕ) → ((i : ℕ) → get_or bs i 0 < 256) → (i : ℕ) → get_or (take n bs) i 0 < 256
small_front [] zero h i = h i
small_front [] (suc n) h i = h i
small_front (b ∷ bs) zero h i = omega arith
small_front (b ∷ bs) (suc n) h zero = h 0
small_front (b ∷ bs) (suc n) h (suc i) = small_front bs n (λ j. h (suc j)) i

value_of_field : (n : ℕ) → n < 2 ^ 64 → from_be_bytes w64 (length_field n) ≡ n
unfolding length_field
value_of_field n h = from_be_bytes-to_be_bytes_8 n h

field_injective : (m n : ℕ) → m < 2 ^ 64 → n < 2 ^ 64 → length_field m ≡ length_field n → m ≡ n
field_injective m n hm hn e = sym (value_of_field m hm) ∙ (ap (from_be_bytes w64) e ∙ value_of_field n hn)

append_parts : (xs ys r s : List ℕ) → length xs ≡ length ys → xs ++ r ≡ ys ++ s → (xs ≡ ys) × (r ≡ s)
append_parts [] [] r s len e = (refl, e)
append_parts [] (y ∷ ys) r s len e = absurd (omega arith)
append_parts (x ∷ xs) [] r s len e = absurd (omega arith)
append_parts (x ∷ xs) (y ∷ ys) r s len e =
    let here : x ≡ y = cc e in
    let behind : xs ++ r ≡ ys ++ s = cc e in
    let both = append_parts xs ys r s (omega arith) behind in
    let front : xs ≡ ys = both.0 in
    (cc, both.1)

-- two lengths are told apart by their fields, whatever stands behind
field_parts : (m n : ℕ) (r s : List ℕ) → m < 2 ^ 64 → n < 2 ^ 64 → length_field m ++ r ≡ length_field n ++ s → (m ≡ n) × (r ≡ s)
field_parts m n r s hm hn e =
    let both = append_parts (length_field m) (length_field n) r s (length-length_field m ∙ sym (length-length_field n)) e in
    (field_injective m n hm hn both.0, both.1)

-- what stands behind the magic number
abbrev pub after_magic : List ℕ → List ℕ → List ℕ
after_magic key text = length_field (length key) ++ (length_field (length text) ++ (key ++ text))

length-after_magic : (key text : List ℕ) → length (after_magic key text) ≡ 16 + (length key + length text)
length-after_magic key text =
    omega (
      arith,
      length-append (length_field (length key)) (length_field (length text) ++ (key ++ text)),
      length-append (length_field (length text)) (key ++ text),
      length-append key text,
      length-length_field (length key),
      length-length_field (length text),
    )

behind_magic : (rest key text : List ℕ) → magic ++ rest ≡ entry key text → rest ≡ after_magic key text
behind_magic rest key text e = append_cancel_left magic rest (after_magic key text) e

pub fits_of : (key text : List ℕ) → length (entry key text) < 2 ^ 64 → Fits key text
fits_of key text h = let len = length-after_magic key text in let all = length-append magic (after_magic key text) in (omega arith, omega arith)

-- the parts that stand behind the two fields
pub parts_of : (k t : ℕ) (body key text : List ℕ) → k < 2 ^ 64 → t < 2 ^ 64 → Fits key text
    → magic ++ (length_field k ++ (length_field t ++ body)) ≡ entry key text
    → (k ≡ length key) × (t ≡ length text) × (body ≡ key ++ text)
parts_of k t body key text hk ht fits e =
    let one = field_parts k (length key) (length_field t ++ body) (length_field (length text) ++ (key ++ text)) hk fits.0 (behind_magic (length_field k ++ (length_field t ++ body)) key text e) in
    let two = field_parts t (length text) body (key ++ text) ht fits.1 one.1 in
    (one.0, two.0, two.1)

-- no room for the key's length
pub lacks_key_len : (bytes rest : List ℕ) → bytes ≡ magic ++ rest → length rest < 8 → IsNoEntry bytes
lacks_key_len bytes rest is short key text e =
    let len = length-after_magic key text in
    let same = ap (length {A = ℕ}) (behind_magic rest key text (sym is ∙ e)) in
    omega arith

-- no room for the text's length
pub lacks_text_len : (bytes rest : List ℕ) (k : ℕ) → bytes ≡ magic ++ (length_field k ++ rest) → length rest < 8 → IsNoEntry bytes
lacks_text_len bytes rest k is short key text e =
    let len = length-after_magic key text in
    let same = ap (length {A = ℕ}) (behind_magic (length_field k ++ rest) key text (sym is ∙ e)) in
    let parts = length-append (length_field k) rest in
    let field = length-length_field k in
    omega arith

abbrev pub Header : List ℕ → ℕ → ℕ → List ℕ → Type 0
Header bytes k t body = (bytes ≡ magic ++ (length_field k ++ (length_field t ++ body))) × (k < 2 ^ 64) × (t < 2 ^ 64) × (length bytes < 2 ^ 64)

fits_read : (bytes key text : List ℕ) → length bytes < 2 ^ 64 → bytes ≡ entry key text → Fits key text
fits_read bytes key text small e = let P : List ℕ → Type 0 = λ z. length z < 2 ^ 64 in fits_of key text (subst P e small)

-- the body is not of the lengths that the header says
pub differs_in_length : (bytes body : List ℕ) (k t : ℕ) → Header bytes k t body → (length body ≡ k + t → ⊥) → IsNoEntry bytes
differs_in_length bytes body k t h differs key text e =
    let parts = parts_of k t body key text h.1 h.2 (fits_read bytes key text h.3 e) (sym h.0 ∙ e) in
    let len = length-append key text in
    let same = ap (length {A = ℕ}) parts.2 in
    differs (omega arith)

pub cut_at_key : (bytes body : List ℕ) (k t : ℕ) → Header bytes k t body → length body ≡ k + t → ReadsAs bytes (take k body) (drop k body)
cut_at_key bytes body k t h len = record {
  written =
      let key = take k body in
      let text = drop k body in
      let key_len : length key ≡ k = omega (arith, length-take k body) in
      let text_len : length text ≡ t = omega (arith, length-drop k body) in
      let Parts : ℕ × ℕ × List ℕ → Type 0 = λ z. bytes ≡ magic ++ (length_field z.0 ++ (length_field z.1 ++ z.2)) in
      subst Parts (λ i. (sym key_len i, sym text_len i, sym (take-append-drop k body) i)) h.0;
  alone = λ key text e.
      let parts = parts_of k t body key text h.1 h.2 (fits_read bytes key text h.3 e) (sym h.0 ∙ e) in
      let Takes : ℕ × List ℕ → Type 0 = λ z. (take z.0 z.1 ≡ key) × (drop z.0 z.1 ≡ text) in
      let at_seam : Takes (length key, key ++ text) = (take-append_seam key text, drop-append_seam key text) in
      subst Takes (λ i. (sym parts.0 i, sym parts.2 i)) at_seam;
}

pub reads_one_way : ReadsOneWay
reads_one_way key text other_key other_text fits other_fits e =
    let parts = parts_of (length key) (length text) (key ++ text) other_key other_text fits.0 fits.1 other_fits e in
    append_parts key other_key text other_text parts.0 parts.2

pub has_no_proper_prefix : HasNoProperPrefix
has_no_proper_prefix key text front cut fits e some other_key other_text other_fits is =
    let again : entry key text ≡ entry other_key other_text ++ cut = e ∙ ap (λ (z : List ℕ). z ++ cut) is in
    let field = length_field (length other_key) in
    let next = length_field (length other_text) in
    let shifted : entry other_key other_text ++ cut ≡ magic ++ (field ++ (next ++ ((other_key ++ other_text) ++ cut))) =
    ap (λ (z : List ℕ). magic ++ z) (append_assoc field (next ++ (other_key ++ other_text)) cut ∙ ap (λ (z : List ℕ). field ++ z) (append_assoc next (other_key ++ other_text) cut)) in
    let parts = parts_of (length other_key) (length other_text) ((other_key ++ other_text) ++ cut) key text other_fits.0 other_fits.1 fits (sym (again ∙ shifted)) in
    let same = ap (length {A = ℕ}) parts.2 in
    let len = length-append key text in
    let other_len = length-append other_key other_text in
    let longer = length-append (other_key ++ other_text) cut in
    some (none_left cut (omega arith))
  where
    none_left : (xs : List ℕ) → length xs ≡ 0 → xs ≡ []
    none_left [] h = refl
    none_left (x ∷ xs) h = absurd (omega arith)
