-- What a load says of the file of a key.
use Rattle.std.proofs.Common.{◌≡◌, ◌≢◌, ℕ, ◌<◌, ◌^◌, true, false, List, length, Option, None, Some, Ok, sym, ap, subst, ◌∙◌}
use Rattle.std.specs.Prelude.{MatchOption}
use Rattle.std.specs.Str.{bytes_eq}
use Rattle.std.proofs.lemmas.Slice.Eq.{bytes_eq-Decides}
use Rattle.std.proofs.lemmas.Bool.Decides.{not_from_Decides}
use Rattle.lto_outside.specs.DiskStore.{DiskStore, Loads}
use Rattle.cache_slot.specs.Entry.{entry, ReadsAs}
use Rattle.cache_slot.proofs.Parts.{fits_of}
use Rattle.cache_slot.specs.Files.{file_of, bytes_of, Holds, Lacks}

-- the bytes are the entry of the key and a text, or of no text
abbrev pub IsOf : List ℕ → List ℕ → Option (List ℕ) → Type 0
IsOf bytes key found = MatchOption found ((text : List ℕ) → bytes ≢ bytes_of key text) (λ text. (bytes ≡ bytes_of key text) × (length text < 2 ^ 64))

pub holds_of : (held : Option DiskStore) (dir name key text bytes slice : List ℕ) (loaded found : Option (List ℕ)) → Loads held dir name (Ok loaded) → loaded ≡ Some bytes → name ≡ file_of key → slice ≡ bytes
    → IsOf slice key found → found ≡ Some text → Holds held (Some dir) key text
holds_of None dir name key text bytes slice loaded found loads is named same of at = tt
holds_of (Some files) dir name key text bytes slice loaded found loads is named same of at =
    let here : slice ≡ bytes_of key text = (subst (IsOf slice key) at of).0 in
    ap (files dir) (sym named) ∙ (loads ∙ (is ∙ ap Some (sym same ∙ here)))

pub lacks_of : (held : Option DiskStore) (dir name key bytes slice : List ℕ) (loaded found : Option (List ℕ)) → Loads held dir name (Ok loaded) → loaded ≡ Some bytes → name ≡ file_of key → slice ≡ bytes
    → IsOf slice key found → found ≡ None → Lacks held (Some dir) key
lacks_of None dir name key bytes slice loaded found loads is named same of at = tt
lacks_of (Some files) dir name key bytes slice loaded found loads is named same of at = λ text e.
    let none : (t : List ℕ) → slice ≢ bytes_of key t = subst (IsOf slice key) at of in
    let one : Some bytes ≡ Some (bytes_of key text) = sym is ∙ (sym loads ∙ (ap (files dir) named ∙ e)) in
    none text (same ∙ cc one)

pub lacks_absent : (held : Option DiskStore) (dir name key : List ℕ) (loaded : Option (List ℕ)) → Loads held dir name (Ok loaded) → loaded ≡ None → name ≡ file_of key → Lacks held (Some dir) key
lacks_absent None dir name key loaded loads is named = tt
lacks_absent (Some files) dir name key loaded loads is named = λ text e. cc (sym is ∙ (sym loads ∙ (ap (files dir) named ∙ e)))

-- bytes that were decoded
pub entry_read : (bytes own key text copy : List ℕ) → ReadsAs bytes own text → bytes_eq own key ≡ true → copy ≡ text → bytes ≡ bytes_of key copy
unfolding bytes_of
entry_read bytes own key text copy reads same is =
    let k : own ≡ key = (bytes_eq-Decides own key).0 same in
    reads.written ∙ (λ i. entry (k i) (sym is i))

pub other_key_read : (bytes own key text : List ℕ) → ReadsAs bytes own text → bytes_eq own key ≡ false → (t : List ℕ) → bytes ≢ bytes_of key t
unfolding bytes_of
other_key_read bytes own key text reads differs t e = not_from_Decides (bytes_eq own key) (bytes_eq-Decides own key) differs (reads.alone key t e).0

pub small_of : (slice key text : List ℕ) (found : Option (List ℕ)) → IsOf slice key found → found ≡ Some text → length text < 2 ^ 64
small_of slice key text found of at = (subst (IsOf slice key) at of).1

pub small_read : (bytes own text copy : List ℕ) → ReadsAs bytes own text → length bytes < 2 ^ 64 → copy ≡ text → length copy < 2 ^ 64
small_read bytes own text copy reads small is =
    let whole : length (entry own text) < 2 ^ 64 = subst (λ (z : List ℕ). length z < 2 ^ 64) reads.written small in
    subst (λ (z : List ℕ). length z < 2 ^ 64) (sym is) (fits_of own text whole).1
