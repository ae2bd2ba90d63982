-- An honest disk stays honest.
use Rattle.std.proofs.Common.{◌≡◌, ℕ, Bool, List, ◌⊎◌, true, false, refl, sym, subst, inl, inr, ◌∙◌, Some, None, take}
use Rattle.std.specs.Str.{bytes_eq}
use Rattle.std.proofs.lemmas.Slice.Eq.{bytes_eq-Decides}
use Rattle.std.proofs.lemmas.Bool.Decides.{not_from_Decides}
use Rattle.lto_outside.specs.DiskStore.{DiskStore, OtherEntriesStay}
use Rattle.lto_outside.specs.Honest.{Decoding, IsHonest, IsHonestEntry}
use Rattle.lto_outside.specs.Laws.{StayingKeepsHonest, SaveKeepsHonest, FailedSaveKeepsHonest}

pub staying : (fits : List ℕ → List ℕ → Type 0) → StayingKeepsHonest fits
staying fits decoded None new stays honest = absurd honest
staying fits decoded (Some old) None stays honest = absurd stays
staying fits decoded (Some old) (Some new) stays honest = λ dir name bytes found. honest dir name bytes (sym (stays dir name) ∙ found)

module _ (decoded : Decoding) (fits : List ℕ → List ℕ → Type 0) (old new : DiskStore) (dir name : List ℕ) (others : OtherEntriesStay old new dir name) where
  -- where one file alone changed, and what it holds now is honest
  one_change : ((bytes : List ℕ) → new dir name ≡ Some bytes → IsHonestEntry decoded fits bytes) → IsHonest decoded fits (Some old) → IsHonest decoded fits (Some new)
  one_change here honest d n bytes found = by (bytes_eq d dir) refl (bytes_eq n name) refl
    where
      by : (t : Bool) → bytes_eq d dir ≡ t → (u : Bool) → bytes_eq n name ≡ u → IsHonestEntry decoded fits bytes
      by false e u f = honest d n bytes (sym (others d n (λ p q. not_from_Decides (bytes_eq d dir) (bytes_eq-Decides d dir) e p)) ∙ found)
      by true e false f = honest d n bytes (sym (others d n (λ p q. not_from_Decides (bytes_eq n name) (bytes_eq-Decides n name) f q)) ∙ found)
      by true e true f =
          let same_dir : d ≡ dir = (bytes_eq-Decides d dir).0 e in
          let same_name : n ≡ name = (bytes_eq-Decides n name).0 f in
          here bytes (cc)

pub saving : (fits : List ℕ → List ℕ → Type 0) → SaveKeepsHonest fits
saving fits decoded old new dir name bytes saved entry honest =
    one_change decoded fits old new dir name saved.others (λ now found. let same : bytes ≡ now = cc (saved.written, found) in subst (λ (b : List ℕ). IsHonestEntry decoded fits b) same entry) honest

pub failing : (fits : List ℕ → List ℕ → Type 0) → FailedSaveKeepsHonest fits
failing fits decoded old new dir name bytes saved entries honest = one_change decoded fits old new dir name saved.others (here saved.part) honest
  where
    here : (new dir name ≡ old dir name) ⊎ (new dir name ≡ None) ⊎ ((count : ℕ) × (new dir name ≡ Some (take count bytes))) → (now : List ℕ) → new dir name ≡ Some now → IsHonestEntry decoded fits now
    here (inl same) now found = honest dir name now (sym same ∙ found)
    here (inr (inl absent)) now found = absurd (cc (absent, found))
    here (inr (inr part)) now found = let same : take part.0 bytes ≡ now = cc (part.1, found) in subst (λ (b : List ℕ). IsHonestEntry decoded fits b) same (entries part.0)
