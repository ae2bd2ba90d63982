-- What the history says of the disk stays right when a record is added, and an honest disk stays honest.
use Rattle.std.proofs.Common.{◌≡◌, ◌≢◌, ℕ, ◌<◌, ◌^◌, ◌⊎◌, inl, inr, Bool, true, false, List, [], ◌∷◌, ◌++◌, length, take, Option, None, Some, refl, sym, subst, ◌∙◌}
use Rattle.std.specs.Str.{bytes_eq}
use Rattle.std.proofs.lemmas.Slice.Eq.{bytes_eq-Decides}
use Rattle.std.proofs.lemmas.Bool.Decides.{not_from_Decides}
use Rattle.lto_outside.specs.DiskStore.{DiskStore, DiskStays, OtherEntriesStay, HasSavedPart}
use Rattle.lto_outside.specs.Honest.{IsHonest, IsHonestEntry}
use Rattle.cache_slot.specs.declared.record.Record.{Record}
use Rattle.cache_slot.specs.declared.record.Record.TheVariants.{Entry, Hit, Miss}
use Rattle.cache_slot.specs.declared.record.Why.TheVariants.{Lacking}
use Rattle.cache_slot.specs.Decoded.{decoded}
use Rattle.cache_slot.specs.Files.{file_of, bytes_of, Holds, Lacks}
use Rattle.cache_slot.specs.Found.{SavedOn}
use Rattle.cache_slot.specs.Records.{text_of}
use Rattle.cache_slot.specs.Shelved.{DiskTold}
use Rattle.cache_slot.proofs.Decoding.{entry_of_decoded, front_of_entry, one_entry}
use Rattle.cache_slot.proofs.FilesKept.{files_open, files_same, files_without, files_stay, files_saved}

pub stays_self : (held : Option DiskStore) → DiskStays held held
stays_self None = tt
stays_self (Some now) = λ d name. refl

pub told_open : (dir : Option (List ℕ)) (held : Option DiskStore) → DiskTold dir held held []
told_open dir None = tt
told_open dir (Some now) = files_open dir now

pub told_same : (dir : Option (List ℕ)) (files held next : Option DiskStore) (rs : List Record) → DiskStays held next → DiskTold dir files held rs → DiskTold dir files next rs
told_same dir None held next rs stays told = tt
told_same dir (Some first) None next rs stays told = absurd told
told_same dir (Some first) (Some now) None rs stays told = absurd stays
told_same dir (Some first) (Some now) (Some after) rs stays told = files_same dir first now after rs stays told

-- a record that is no entry
pub told_stay : (dir : Option (List ℕ)) (files held next : Option DiskStore) (rs : List Record) (r : Record) → DiskStays held next
    → ((key text : List ℕ) (failed : Bool) → r ≡ Entry key text failed → ⊥)
    → ((key : List ℕ) → r ≡ Hit key → text_of key rs ≡ None → (text : List ℕ) × Holds held dir key text)
    → ((key : List ℕ) → r ≡ Miss key Lacking → Lacks held dir key)
    → DiskTold dir files held rs → DiskTold dir files next (rs ++ r ∷ [])
told_stay dir None held next rs r stays no_entry hit lack told = tt
told_stay dir (Some first) None next rs r stays no_entry hit lack told = absurd told
told_stay dir (Some first) (Some now) None rs r stays no_entry hit lack told = absurd stays
told_stay dir (Some first) (Some now) (Some after) rs r stays no_entry hit lack told =
    files_stay dir first now after rs r stays no_entry
    (λ d key e is nowhere. let h = hit key is nowhere in (h.0, subst (λ (z : Option (List ℕ)). Holds (Some now) z key h.0) e h.1))
    (λ d key e is. subst (λ (z : Option (List ℕ)). Lacks (Some now) z key) e (lack key is))
    told

module _ (key text : List ℕ) (small : length (bytes_of key text) < 2 ^ 64) where
  -- an entry of the pair, or a front of it, is an entry of no other key
  part_of : (now next : DiskStore) (d k t : List ℕ) → HasSavedPart now next d (file_of key) (bytes_of key text) → next d (file_of key) ≡ Some (bytes_of k t) → key ≢ k → now d (file_of key) ≡ Some (bytes_of k t)
  part_of now next d k t saved holds other = here saved.part
    where
      here : (next d (file_of key) ≡ now d (file_of key)) ⊎ (next d (file_of key) ≡ None) ⊎ ((count : ℕ) × (next d (file_of key) ≡ Some (take count (bytes_of key text)))) → now d (file_of key) ≡ Some (bytes_of k t)
      here (inl same) = sym same ∙ holds
      here (inr (inl absent)) = absurd (cc (sym absent ∙ holds))
      here (inr (inr front)) =
          let q : Some (take front.0 (bytes_of key text)) ≡ Some (bytes_of k t) = sym front.1 ∙ holds in
          absurd (other (front_of_entry front.0 key text k t small (cc q)).0)

-- the pair's entry is small enough where it is saved
abbrev pub Small : Option (List ℕ) → List ℕ → List ℕ → Type 0
Small dir key text = dir ≢ None → length (bytes_of key text) < 2 ^ 64

there : (d : List ℕ) → Some d ≢ None
there d e = cc e

module _ (key text : List ℕ) where
  pub told_kept : (dir : Option (List ℕ)) → Small dir key text → (files held next : Option DiskStore) (faults faults_now : ℕ) (failed : Bool) (rs : List Record) → SavedOn held next faults faults_now dir key text failed
      → DiskTold dir files held rs → DiskTold dir files next (rs ++ Entry key text failed ∷ [])
  told_kept dir small None held next faults faults_now failed rs saved told = tt
  told_kept None small (Some first) None next faults faults_now failed rs saved told = absurd told
  told_kept (Some d) small (Some first) None next faults faults_now failed rs saved told = absurd told
  told_kept None small (Some first) (Some now) next faults faults_now false rs saved told =
      subst (λ (z : Option DiskStore). DiskTold None (Some first) z (rs ++ Entry key text false ∷ [])) (sym saved.0) (files_without None first refl now now rs (rs ++ Entry key text false ∷ []) (λ d name. refl) told)
  told_kept None small (Some first) (Some now) next faults faults_now true rs saved told = absurd saved
  told_kept (Some d) small (Some first) (Some now) None faults faults_now false rs saved told = absurd saved
  told_kept (Some d) small (Some first) (Some now) None faults faults_now true rs saved told = absurd saved.0
  told_kept (Some d) small (Some first) (Some now) (Some after) faults faults_now false rs saved told =
      files_saved (Some d) first d refl now after rs key text false saved.others (λ well. saved.written)
      (λ k t holds other. (let q : Some (bytes_of key text) ≡ Some (bytes_of k t) = sym saved.written ∙ holds in absurd (other (one_entry key text k t (small (there d)) (cc q)).0)))
      told
  told_kept (Some d) small (Some first) (Some now) (Some after) faults faults_now true rs saved told =
      files_saved (Some d) first d refl now after rs key text true saved.0.others (λ well. absurd (cc well)) (λ k t holds other. part_of key text (small (there d)) now after d k t saved.0 holds other) told

-- honesty
module _ (fits : List ℕ → List ℕ → Type 0) where
  pub honest_same : (held next : Option DiskStore) → DiskStays held next → IsHonest decoded fits held → IsHonest decoded fits next
  honest_same None next stays honest = absurd honest
  honest_same (Some now) None stays honest = absurd stays
  honest_same (Some now) (Some after) stays honest = λ d name bytes found. honest d name bytes (sym (stays d name) ∙ found)

  one_change : (now after : DiskStore) (d0 name0 : List ℕ) → OtherEntriesStay now after d0 name0 → ((bytes : List ℕ) → after d0 name0 ≡ Some bytes → IsHonestEntry decoded fits bytes)
      → IsHonest decoded fits (Some now) → IsHonest decoded fits (Some after)
  one_change now after d0 name0 others here honest d name bytes found = by (bytes_eq d d0) refl (bytes_eq name name0) refl
    where
      by : (t : Bool) → bytes_eq d d0 ≡ t → (u : Bool) → bytes_eq name name0 ≡ u → IsHonestEntry decoded fits bytes
      by false e u f = honest d name bytes (sym (others d name (λ p q. not_from_Decides (bytes_eq d d0) (bytes_eq-Decides d d0) e p)) ∙ found)
      by true e false f = honest d name bytes (sym (others d name (λ p q. not_from_Decides (bytes_eq name name0) (bytes_eq-Decides name name0) f q)) ∙ found)
      by true e true f =
          let same_dir : d ≡ d0 = (bytes_eq-Decides d d0).0 e in
          let same_name : name ≡ name0 = (bytes_eq-Decides name name0).0 f in
          here bytes (sym (λ i. after (same_dir i) (same_name i)) ∙ found)

  module _ (key text : List ℕ) (small : length (bytes_of key text) < 2 ^ 64) (made : fits key text) where
    honest_front : (count : ℕ) → IsHonestEntry decoded fits (take count (bytes_of key text))
    honest_front count k t is =
        let same = front_of_entry count key text k t small (entry_of_decoded (take count (bytes_of key text)) k t is) in
        subst (λ (z : List ℕ × List ℕ). fits z.0 z.1) (λ i. (same.0 i, same.1 i)) made

    honest_whole : IsHonestEntry decoded fits (bytes_of key text)
    honest_whole k t is =
        let same = one_entry key text k t small (entry_of_decoded (bytes_of key text) k t is) in
        subst (λ (z : List ℕ × List ℕ). fits z.0 z.1) (λ i. (same.0 i, same.1 i)) made

    honest_part : (now after : DiskStore) (d : List ℕ) → HasSavedPart now after d (file_of key) (bytes_of key text) → IsHonest decoded fits (Some now) → (bytes : List ℕ) → after d (file_of key) ≡ Some bytes → IsHonestEntry decoded fits bytes
    honest_part now after d saved honest bytes found = here saved.part
      where
        here : (after d (file_of key) ≡ now d (file_of key)) ⊎ (after d (file_of key) ≡ None) ⊎ ((count : ℕ) × (after d (file_of key) ≡ Some (take count (bytes_of key text)))) → IsHonestEntry decoded fits bytes
        here (inl same) = honest d (file_of key) bytes (sym same ∙ found)
        here (inr (inl absent)) = absurd (cc (sym absent ∙ found))
        here (inr (inr front)) =
            let q : Some (take front.0 (bytes_of key text)) ≡ Some bytes = sym front.1 ∙ found in
            let is : take front.0 (bytes_of key text) ≡ bytes = cc q in
            subst (IsHonestEntry decoded fits) is (honest_front front.0)

  module _ (key text : List ℕ) (made : fits key text) where
    pub honest_kept : (dir : Option (List ℕ)) → Small dir key text → (held next : Option DiskStore) (faults faults_now : ℕ) (failed : Bool) → SavedOn held next faults faults_now dir key text failed
        → IsHonest decoded fits held → IsHonest decoded fits next
    honest_kept dir small None next faults faults_now failed saved honest = absurd honest
    honest_kept None small (Some now) next faults faults_now false saved honest = subst (IsHonest decoded fits) (sym saved.0) honest
    honest_kept None small (Some now) next faults faults_now true saved honest = absurd saved
    honest_kept (Some d) small (Some now) None faults faults_now false saved honest = absurd saved
    honest_kept (Some d) small (Some now) None faults faults_now true saved honest = absurd saved.0
    honest_kept (Some d) small (Some now) (Some after) faults faults_now false saved honest =
        one_change now after d (file_of key) saved.others
        (λ bytes found. (let q : Some (bytes_of key text) ≡ Some bytes = sym saved.written ∙ found in let is : bytes_of key text ≡ bytes = cc q in subst (IsHonestEntry decoded fits) is (honest_whole key text (small (there d)) made)))
        honest
    honest_kept (Some d) small (Some now) (Some after) faults faults_now true saved honest =
        one_change now after d (file_of key) saved.0.others (honest_part key text (small (there d)) made now after d saved.0 honest) honest
