-- What a save says of the file of a key.
use Rattle.std.proofs.Common.{◌≡◌, ℕ, true, false, List, Option, Some, sym, subst, Bor}
use Rattle.std.specs.Option.{option_copied}
use Rattle.lto_outside.specs.Cause.{Rose}
use Rattle.lto_outside.specs.DiskStore.{DiskStore, Saves, SavesPart}
use Rattle.cache_slot.specs.Files.{file_of, bytes_of}
use Rattle.cache_slot.specs.Found.{SavedOn}

module _ (held now : Option DiskStore) (faults faults_now : ℕ) (dirs : Option (Bor (List ℕ))) (dir : Bor (List ℕ)) (key text name bytes : List ℕ) where
  pub saved_done : dirs ≡ Some dir → name ≡ file_of key → bytes ≡ bytes_of key text → Saves held now dir.now name bytes → SavedOn held now faults faults_now (option_copied dirs) key text false
  saved_done is named whole saves =
      subst (λ (d : Option (Bor (List ℕ))). SavedOn held now faults faults_now (option_copied d) key text false) (sym is)
      (subst (λ (z : List ℕ × List ℕ). Saves held now dir.now z.0 z.1) (λ i. (named i, whole i)) saves)

  pub saved_part : dirs ≡ Some dir → name ≡ file_of key → bytes ≡ bytes_of key text → SavesPart held now dir.now name bytes → Rose faults faults_now → SavedOn held now faults faults_now (option_copied dirs) key text true
  saved_part is named whole saves rose =
      subst (λ (d : Option (Bor (List ℕ))). SavedOn held now faults faults_now (option_copied d) key text true) (sym is)
      (subst (λ (z : List ℕ × List ℕ). SavesPart held now dir.now z.0 z.1) (λ i. (named i, whole i)) saves, rose)
