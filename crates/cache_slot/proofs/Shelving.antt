-- A shelf stays one with each record.
use Rattle.std.proofs.Common.{◌≡◌, ◌≢◌, ℕ, ◌+◌, ◌-◌, ◌<◌, ◌≤◌, ◌^◌, ◌⊎◌, ⊎_elim, Bool, true, false, List, [], ◌∷◌, ◌++◌, length, Option, None, Some, Ok, Err, arith, refl, sym, ap, subst, ◌∙◌}
use Rattle.lto_outside.specs.DiskStore.{DiskStore, DiskStays}
use Rattle.lto_outside.specs.Honest.{IsHonest}
use Rattle.cache_slot.specs.declared.record.Record.{Record}
use Rattle.cache_slot.specs.declared.record.Record.TheVariants.{Entry, Again, Hit, Miss}
use Rattle.cache_slot.specs.declared.record.Why.TheVariants.{NoDirectory, Lacking, Fault}
use Rattle.cache_slot.specs.Decoded.{decoded}
use Rattle.cache_slot.specs.Files.{file_of, bytes_of, Holds, Lacks}
use Rattle.cache_slot.specs.Found.{Finding, FoundOn, record_of, SavedOn}
use Rattle.cache_slot.specs.Records.{text_of, faults_in, faults_told, Stands}
use Rattle.cache_slot.specs.Shelved.{DiskTold, IsShelved}
use Rattle.cache_slot.proofs.Decoding.{decoded_of}
use Rattle.cache_slot.proofs.DiskKept.{Small, stays_self, told_open, told_same, told_stay, told_kept, honest_same, honest_kept}
use Rattle.cache_slot.proofs.Standing.{stands_push, none_stands}
use Rattle.cache_slot.proofs.Texts.{found_entry}

told_push : (rs : List Record) (r : Record) → faults_told (rs ++ r ∷ []) ≡ faults_told rs + faults_in r
told_push [] r = omega arith
told_push (x ∷ rs) r = let h = told_push rs r in omega arith

module _ (fits : List ℕ → List ℕ → Type 0) (keys : List ℕ → Type 0) (dir : Option (List ℕ)) (faults : ℕ) (files : Option DiskStore) where
  abbrev Shelved : ℕ → Option DiskStore → List Record → Type 0
  Shelved count held rs = IsShelved fits keys dir faults files count held rs

  pub shelved_open : Shelved faults files []
  shelved_open = record {
    without = λ key before later at. absurd (none_stands before later (Miss key NoDirectory) at);
    bound = λ below. omega arith;
    named = λ key text failed before later at. absurd (none_stands before later (Entry key text failed) at);
    once = λ key text failed before later at. absurd (none_stands before later (Entry key text failed) at);
    made = λ key text failed before later at. absurd (none_stands before later (Entry key text failed) at);
    honest = λ h. h;
    told = told_open dir files;
  }

  -- no record is added
  pub shelved_same : (count count_now : ℕ) (held next : Option DiskStore) (rs : List Record) → DiskStays held next → count ≤ count_now → Shelved count held rs → Shelved count_now next rs
  shelved_same count count_now held next rs stays later f = record {
    without = f.without;
    bound = λ below. (let b = f.bound in omega arith);
    named = f.named;
    once = f.once;
    made = f.made;
    honest = λ h. honest_same fits held next stays (f.honest h);
    told = told_same dir files held next rs stays f.told;
  }

  -- a record that is no entry
  shelved_push : (count count_now : ℕ) (held next : Option DiskStore) (rs : List Record) (r : Record) → ((key text : List ℕ) (failed : Bool) → r ≡ Entry key text failed → ⊥)
      → ((key : List ℕ) → r ≡ Miss key NoDirectory → dir ≡ None) → (count_now < 2 ^ 64 - 1 → faults_in r + count ≤ count_now) → count ≤ count_now → DiskStays held next
      → DiskTold dir files next (rs ++ r ∷ []) → Shelved count held rs → Shelved count_now next (rs ++ r ∷ [])
  shelved_push count count_now held next rs r no_entry none rose later stays told f = record {
    without = λ key before behind at. ⊎_elim
        (λ (t : (behind ≡ []) × (r ≡ Miss key NoDirectory) × (rs ≡ before)). none key t.1)
        (λ (t : (front : List Record) × (behind ≡ front ++ r ∷ []) × Stands (Miss key NoDirectory) before front rs). f.without key before t.0 t.2)
        (stands_push rs before behind r (Miss key NoDirectory) at);
    bound = λ below. (let b = f.bound in let more = told_push rs r in let h = rose below in omega arith);
    named = λ key text failed before behind at. ⊎_elim
        (λ (t : (behind ≡ []) × (r ≡ Entry key text failed) × (rs ≡ before)). absurd (no_entry key text failed t.1))
        (λ (t : (front : List Record) × (behind ≡ front ++ r ∷ []) × Stands (Entry key text failed) before front rs). f.named key text failed before t.0 t.2)
        (stands_push rs before behind r (Entry key text failed) at);
    once = λ key text failed before behind at. ⊎_elim
        (λ (t : (behind ≡ []) × (r ≡ Entry key text failed) × (rs ≡ before)). absurd (no_entry key text failed t.1))
        (λ (t : (front : List Record) × (behind ≡ front ++ r ∷ []) × Stands (Entry key text failed) before front rs). f.once key text failed before t.0 t.2)
        (stands_push rs before behind r (Entry key text failed) at);
    made = λ key text failed before behind at. ⊎_elim
        (λ (t : (behind ≡ []) × (r ≡ Entry key text failed) × (rs ≡ before)). absurd (no_entry key text failed t.1))
        (λ (t : (front : List Record) × (behind ≡ front ++ r ∷ []) × Stands (Entry key text failed) before front rs). f.made key text failed before t.0 t.2)
        (stands_push rs before behind r (Entry key text failed) at);
    honest = λ h. honest_same fits held next stays (f.honest h);
    told = told;
  }

  -- a look-up
  pub shelved_found : (count count_now : ℕ) (held next : Option DiskStore) (rs : List Record) (key : List ℕ) (found : Finding) → FoundOn held count count_now dir rs key found → DiskStays held next → count ≤ count_now
      → Shelved count held rs → Shelved count_now next (rs ++ record_of key found ∷ [])
  shelved_found count count_now held next rs key (Ok text) on stays later f =
      shelved_push count count_now held next rs (Hit key) (λ k t failed e. cc e) (λ k e. absurd (cc e)) (λ below. omega arith) later stays
      (told_stay dir files held next rs (Hit key) stays (λ k t failed e. cc e)
      (λ k e nowhere. let same : key ≡ k = cc e in subst (λ (z : List ℕ). (t : List ℕ) × Holds held dir z t) same (⊎_elim
      (λ (here : text_of key rs ≡ Some text). absurd (let none : text_of key rs ≡ None = ap (λ z. text_of z rs) same ∙ nowhere in let q : Some text ≡ None = sym here ∙ none in cc q))
      (λ (loaded : (text_of key rs ≡ None) × (dir ≢ None) × Holds held dir key text). (text, loaded.2))
      on))
      (λ k e. absurd (cc e)) f.told) f
  shelved_found count count_now held next rs key (Err NoDirectory) on stays later f =
      shelved_push count count_now held next rs (Miss key NoDirectory) (λ k t failed e. cc e) (λ k e. on.1) (λ below. omega arith) later stays
      (told_stay dir files held next rs (Miss key NoDirectory) stays (λ k t failed e. cc e) (λ k e. absurd (cc e)) (λ k e. absurd (cc e)) f.told) f
  shelved_found count count_now held next rs key (Err Lacking) on stays later f =
      shelved_push count count_now held next rs (Miss key Lacking) (λ k t failed e. cc e) (λ k e. absurd (cc e)) (λ below. omega arith) later stays
      (told_stay dir files held next rs (Miss key Lacking) stays (λ k t failed e. cc e) (λ k e. absurd (cc e))
      (λ k e. let same : key ≡ k = cc e in subst (λ (z : List ℕ). Lacks held dir z) same on.2) f.told) f
  shelved_found count count_now held next rs key (Err Fault) on stays later f =
      shelved_push count count_now held next rs (Miss key Fault) (λ k t failed e. cc e) (λ k e. absurd (cc e)) (λ below. (let rose = on.2 in omega arith)) later stays
      (told_stay dir files held next rs (Miss key Fault) stays (λ k t failed e. cc e) (λ k e. absurd (cc e)) (λ k e. absurd (cc e)) f.told) f

  -- a store of a key that an entry has
  pub shelved_again : (count : ℕ) (held : Option DiskStore) (rs : List Record) (key : List ℕ) → Shelved count held rs → Shelved count held (rs ++ Again key ∷ [])
  shelved_again count held rs key f =
      let stays = stays_self held in
      shelved_push count count held held rs (Again key) (λ k t failed e. cc e) (λ k e. absurd (cc e)) (λ below. omega arith) (omega arith) stays
      (told_stay dir files held held rs (Again key) stays (λ k t failed e. cc e) (λ k e. absurd (cc e)) (λ k e. absurd (cc e)) f.told) f

  -- a store of another key
  module _ (key text : List ℕ) (small : Small dir key text) (named : keys key) (made : fits key text) where
    rose_by : (count count_now : ℕ) (held next : Option DiskStore) (failed : Bool) → SavedOn held next count count_now dir key text failed → count ≤ count_now → count_now < 2 ^ 64 - 1 → faults_in (Entry key text failed) + count ≤ count_now
    rose_by count count_now held next failed saved later below = by dir failed saved
      where
        by : (d : Option (List ℕ)) (b : Bool) → SavedOn held next count count_now d key text b → faults_in (Entry key text b) + count ≤ count_now
        by None false s = omega arith
        by None true s = absurd s
        by (Some d) false s = omega arith
        by (Some d) true s = let rose = s.1 in omega arith

    pub shelved_kept : (count count_now : ℕ) (held next : Option DiskStore) (rs : List Record) (failed : Bool) → text_of key rs ≡ None → SavedOn held next count count_now dir key text failed → count ≤ count_now
        → Shelved count held rs → Shelved count_now next (rs ++ Entry key text failed ∷ [])
    shelved_kept count count_now held next rs failed nowhere saved later f =
        let r = Entry key text failed in
        record {
          without = λ k before behind at. ⊎_elim
              (λ (t : (behind ≡ []) × (r ≡ Miss k NoDirectory) × (rs ≡ before)). absurd (cc t.1))
              (λ (t : (front : List Record) × (behind ≡ front ++ r ∷ []) × Stands (Miss k NoDirectory) before front rs). f.without k before t.0 t.2)
              (stands_push rs before behind r (Miss k NoDirectory) at);
          bound = λ below. (let b = f.bound in let more = told_push rs r in let h = rose_by count count_now held next failed saved later below in omega arith);
          named = λ k t b before behind at. ⊎_elim
              (λ (h : (behind ≡ []) × (r ≡ Entry k t b) × (rs ≡ before)). let same : key ≡ k = cc h.1 in subst keys same named)
              (λ (h : (front : List Record) × (behind ≡ front ++ r ∷ []) × Stands (Entry k t b) before front rs). f.named k t b before h.0 h.2)
              (stands_push rs before behind r (Entry k t b) at);
          once = λ k t b before behind at. ⊎_elim
              (λ (h : (behind ≡ []) × (r ≡ Entry k t b) × (rs ≡ before)). let same : key ≡ k = cc h.1 in sym (λ i. text_of (same i) (h.2 i)) ∙ nowhere)
              (λ (h : (front : List Record) × (behind ≡ front ++ r ∷ []) × Stands (Entry k t b) before front rs). f.once k t b before h.0 h.2)
              (stands_push rs before behind r (Entry k t b) at);
          made = λ k t b before behind at. ⊎_elim
              (λ (h : (behind ≡ []) × (r ≡ Entry k t b) × (rs ≡ before)). let same : key ≡ k = cc h.1 in let text_is : text ≡ t = cc h.1 in subst (λ (z : List ℕ × List ℕ). fits z.0 z.1) (λ i. (same i, text_is i)) made)
              (λ (h : (front : List Record) × (behind ≡ front ++ r ∷ []) × Stands (Entry k t b) before front rs). f.made k t b before h.0 h.2)
              (stands_push rs before behind r (Entry k t b) at);
          honest = λ h. honest_kept fits key text made dir small held next count count_now failed saved (f.honest h);
          told = told_kept key text dir small files held next count count_now failed rs saved f.told;
        }

  -- a text that is found is made of its key, where the disk was honest or there is no directory
  pub found_fits : (count count_now : ℕ) (held : Option DiskStore) (rs : List Record) (key text : List ℕ) → length key < 2 ^ 64 → length text < 2 ^ 64 → FoundOn held count count_now dir rs key (Ok text)
      → (dir ≡ None) ⊎ IsHonest decoded fits files → Shelved count held rs → fits key text
  found_fits count count_now held rs key text key_small text_small on sure f = ⊎_elim
      (λ (here : text_of key rs ≡ Some text). let e = found_entry key text rs here in f.made key text e.failed e.before e.later e.stands)
      (λ (loaded : (text_of key rs ≡ None) × (dir ≢ None) × Holds held dir key text). ⊎_elim
      (λ (none : dir ≡ None). absurd (loaded.1 none))
      (λ (honest : IsHonest decoded fits files). from dir held (f.honest honest) loaded.1 loaded.2)
      sure)
      on
    where
      from : (d : Option (List ℕ)) (h : Option DiskStore) → IsHonest decoded fits h → d ≢ None → Holds h d key text → fits key text
      from None h honest some holds = absurd (some refl)
      from (Some d) None honest some holds = absurd honest
      from (Some d) (Some now) honest some holds = honest d (file_of key) (bytes_of key text) holds key text (decoded_of key text (key_small, text_small))
