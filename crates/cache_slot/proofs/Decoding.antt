-- Bytes decode exactly as the entry that they are.
use Rattle.std.proofs.Common.{◌≡◌, ℕ, ◌+◌, ◌<◌, ◌^◌, Bool, true, false, cond, List, [], ◌∷◌, ◌++◌, length, take, drop, Some, None, Option, refl, sym, ap, ◌∙◌, arith, length-append, append_assoc}
use Rattle.std.specs.Int.{w64, from_be_bytes}
use Rattle.std.specs.Str.{bytes_eq}
use Rattle.std.proofs.lemmas.Nat.{from_be_bytes-to_be_bytes_8}
use Rattle.std.proofs.lemmas.Slice.Eq.{bytes_eq-Decides}
use Rattle.std.proofs.lemmas.List.{take-append-drop, append-nil}
use Rattle.std.proofs.Math.Seq.{take-append_seam, drop-append_seam}
use Rattle.cache_slot.specs.Entry.{magic, length_field, entry, Fits}
use Rattle.cache_slot.proofs.Parts.{length-length_field, fits_of, reads_one_way, has_no_proper_prefix}
use Rattle.cache_slot.specs.Decoded.{key_length, key_part, text_part, decoded}
use Rattle.cache_slot.specs.Files.{bytes_of}

field_value : (n : ℕ) → n < 2 ^ 64 → from_be_bytes w64 (length_field n) ≡ n
unfolding length_field
field_value n h = from_be_bytes-to_be_bytes_8 n h

-- a front of a known length
front_is : (n : ℕ) (xs ys : List ℕ) → length xs ≡ n → take n (xs ++ ys) ≡ xs
front_is n xs ys e = ap (λ k. take k (xs ++ ys)) (sym e) ∙ take-append_seam xs ys

back_is : (n : ℕ) (xs ys : List ℕ) → length xs ≡ n → drop n (xs ++ ys) ≡ ys
back_is n xs ys e = ap (λ k. drop k (xs ++ ys)) (sym e) ∙ drop-append_seam xs ys

key_length_of : (key text : List ℕ) → Fits key text → key_length (entry key text) ≡ length key
key_length_of key text fits =
    let lk = length_field (length key) in let rest = length_field (length text) ++ (key ++ text) in
    let behind : drop 8 (entry key text) ≡ lk ++ rest = back_is 8 magic (lk ++ rest) refl in
    let front : take 8 (drop 8 (entry key text)) ≡ lk = ap (take 8) behind ∙ front_is 8 lk rest (length-length_field (length key)) in
    ap (from_be_bytes w64) front ∙ field_value (length key) fits.0

behind_lengths : (key text : List ℕ) → drop 24 (entry key text) ≡ key ++ text
behind_lengths key text =
    let lk = length_field (length key) in let lt = length_field (length text) in
    let head = magic ++ (lk ++ lt) in
    let a = length-append magic (lk ++ lt) in let b = length-append lk lt in let c = length-length_field (length key) in let d = length-length_field (length text) in
    let len : length head ≡ 24 = omega arith in
    let same : entry key text ≡ head ++ (key ++ text) = ap (λ z. magic ++ z) (sym (append_assoc lk lt (key ++ text))) ∙ sym (append_assoc magic (lk ++ lt) (key ++ text)) in
    ap (drop 24) same ∙ back_is 24 head (key ++ text) len

pub decoded_of : (key text : List ℕ) → Fits key text → decoded (bytes_of key text) ≡ Some (key, text)
unfolding decoded bytes_of
decoded_of key text fits =
    let n = key_length_of key text fits in let body = behind_lengths key text in
    let k : key_part (entry key text) ≡ key = ap (λ z. take z (drop 24 (entry key text))) n ∙ (ap (take (length key)) body ∙ take-append_seam key text) in
    let t : text_part (entry key text) ≡ text = ap (λ z. drop z (drop 24 (entry key text))) n ∙ (ap (drop (length key)) body ∙ drop-append_seam key text) in
    let same : bytes_eq (entry key text) (entry (key_part (entry key text)) (text_part (entry key text))) ≡ true = (bytes_eq-Decides (entry key text) (entry (key_part (entry key text)) (text_part (entry key text)))).1 (λ i. entry (sym k i) (sym t i)) in
    ap (λ b. cond {A = Option (List ℕ × List ℕ)} b (Some (key_part (entry key text), text_part (entry key text))) None) same ∙ (λ i. Some (k i, t i))

pub entry_of_decoded : (bytes key text : List ℕ) → decoded bytes ≡ Some (key, text) → bytes ≡ bytes_of key text
unfolding decoded bytes_of
entry_of_decoded bytes key text e = by (bytes_eq bytes (entry (key_part bytes) (text_part bytes))) refl e
  where
    by : (b : Bool) → bytes_eq bytes (entry (key_part bytes) (text_part bytes)) ≡ b → cond {A = Option (List ℕ × List ℕ)} b (Some (key_part bytes, text_part bytes)) None ≡ Some (key, text) → bytes ≡ entry key text
    by true is f =
        let p : ◌≡◌ {A = List ℕ × List ℕ} (key_part bytes, text_part bytes) (key, text) = cc f in
        (bytes_eq-Decides bytes (entry (key_part bytes) (text_part bytes))).0 is ∙ ap (λ (z : List ℕ × List ℕ). entry z.0 z.1) p
    by false is f = absurd (cc f)

-- a front of an entry is an entry only where it is the whole
pub front_of_entry : (count : ℕ) (key text k t : List ℕ) → length (bytes_of key text) < 2 ^ 64 → take count (bytes_of key text) ≡ bytes_of k t → (key ≡ k) × (text ≡ t)
unfolding bytes_of
front_of_entry count key text k t small e = by (drop count (entry key text)) (sym (take-append-drop count (entry key text)))
  where
    by : (cut : List ℕ) → entry key text ≡ take count (entry key text) ++ cut → (key ≡ k) × (text ≡ t)
    by cut whole =
        let split : entry key text ≡ entry k t ++ cut = whole ∙ ap (λ z. z ++ cut) e in
        let len : length (entry key text) ≡ length (entry k t) + length cut = ap length split ∙ length-append (entry k t) cut in
        let fits : Fits key text = fits_of key text small in
        let other : Fits k t = fits_of k t (omega arith) in
        cases cut split fits other
      where
        cases : (cut : List ℕ) → entry key text ≡ entry k t ++ cut → Fits key text → Fits k t → (key ≡ k) × (text ≡ t)
        cases [] split fits other = reads_one_way key text k t fits other (split ∙ append-nil (entry k t))
        cases (x ∷ xs) split fits other = absurd (has_no_proper_prefix key text (entry k t) (x ∷ xs) fits split (λ q. cc q) k t other refl)

-- bytes are the entry of one pair alone
pub one_entry : (key text k t : List ℕ) → length (bytes_of key text) < 2 ^ 64 → bytes_of key text ≡ bytes_of k t → (key ≡ k) × (text ≡ t)
unfolding bytes_of
one_entry key text k t small e =
    let same = ap length e in
    reads_one_way key text k t (fits_of key text small) (fits_of k t (omega arith)) e
