-- What the history says of the files stays right when a record is added.
use Rattle.std.proofs.Common.{◌≡◌, ◌≢◌, ℕ, ◌⊎◌, inl, inr, ⊎_elim, Bool, true, false, List, [], ◌∷◌, ◌++◌, Option, None, Some, refl, sym, ap, subst, ◌∙◌}
use Rattle.std.specs.Str.{bytes_eq}
use Rattle.std.proofs.lemmas.Slice.Eq.{bytes_eq-Decides}
use Rattle.std.proofs.lemmas.Bool.Decides.{not_from_Decides}
use Rattle.lto_outside.specs.DiskStore.{DiskStore, OtherEntriesStay}
use Rattle.cache_slot.specs.declared.record.Record.{Record}
use Rattle.cache_slot.specs.declared.record.Record.TheVariants.{Entry, Hit, Miss}
use Rattle.cache_slot.specs.declared.record.Why.TheVariants.{Lacking}
use Rattle.cache_slot.specs.Files.{file_of, bytes_of}
use Rattle.cache_slot.specs.Records.{text_of, Stands, NoEntryOf}
use Rattle.cache_slot.specs.Shelved.{FilesTold}
use Rattle.cache_slot.proofs.Standing.{stands_push, none_stands, no_entry_front, no_entry_last}
use Rattle.cache_slot.proofs.Texts.{none_front, none_last}

same_or_other : (a b : List ℕ) → (a ≡ b) ⊎ (a ≢ b)
same_or_other a b = by (bytes_eq a b) refl
  where
    by : (t : Bool) → bytes_eq a b ≡ t → (a ≡ b) ⊎ (a ≢ b)
    by true e = inl ((bytes_eq-Decides a b).0 e)
    by false e = inr (not_from_Decides (bytes_eq a b) (bytes_eq-Decides a b) e)

-- every file is as it was
abbrev pub Stay : DiskStore → DiskStore → Type 0
Stay now next = (d name : List ℕ) → next d name ≡ now d name

module _ (dir : Option (List ℕ)) (first : DiskStore) where
  abbrev Here : List Record → List Record → Record → Record → List Record → Type 0
  Here before later r x rs = (later ≡ []) × (r ≡ x) × (rs ≡ before)

  abbrev Before : List Record → List Record → Record → Record → List Record → Type 0
  Before before later r x rs = (front : List Record) × (later ≡ front ++ r ∷ []) × Stands x before front rs

  pub files_open : FilesTold dir first first []
  files_open = record {
    saved = λ d key text before later e at none. absurd (none_stands before later (Entry key text false) at);
    hits = λ d key before later e at nowhere none. absurd (none_stands before later (Hit key) at);
    lacking = λ d key before later e at nowhere text. absurd (none_stands before later (Miss key Lacking) at);
    others = λ d name none. refl;
  }

  -- no record is added
  pub files_same : (now next : DiskStore) (rs : List Record) → Stay now next → FilesTold dir first now rs → FilesTold dir first next rs
  files_same now next rs stay f = record {
    saved = λ d key text before later e at none. stay d (file_of key) ∙ f.saved d key text before later e at none;
    hits = λ d key before later e at nowhere none. let h = f.hits d key before later e at nowhere none in (h.0, stay d (file_of key) ∙ h.1);
    lacking = λ d key before later e at nowhere text holds. f.lacking d key before later e at nowhere text (sym (stay d (file_of key)) ∙ holds);
    others = λ d name none. stay d name ∙ f.others d name none;
  }

  -- without a directory there is no file to speak of
  pub files_without : dir ≡ None → (now next : DiskStore) (rs more : List Record) → Stay now next → FilesTold dir first now rs → FilesTold dir first next more
  files_without no_dir now next rs more stay f = record {
    saved = λ d key text before later e at none. absurd (cc (sym no_dir ∙ e));
    hits = λ d key before later e at nowhere none. absurd (cc (sym no_dir ∙ e));
    lacking = λ d key before later e at nowhere text. absurd (cc (sym no_dir ∙ e));
    others = λ d name none. stay d name ∙ f.others d name (λ e. absurd (cc (sym no_dir ∙ e)));
  }

  -- a record that is no entry, over files that stay
  pub files_stay : (now next : DiskStore) (rs : List Record) (r : Record) → Stay now next
      → ((key text : List ℕ) (failed : Bool) → r ≡ Entry key text failed → ⊥)
      → ((d key : List ℕ) → dir ≡ Some d → r ≡ Hit key → text_of key rs ≡ None → (text : List ℕ) × (now d (file_of key) ≡ Some (bytes_of key text)))
      → ((d key : List ℕ) → dir ≡ Some d → r ≡ Miss key Lacking → (text : List ℕ) → now d (file_of key) ≢ Some (bytes_of key text))
      → FilesTold dir first now rs → FilesTold dir first next (rs ++ r ∷ [])
  files_stay now next rs r stay no_entry hit lack f = record {
    saved = λ d key text before later e at none. ⊎_elim
        (λ (t : Here before later r (Entry key text false) rs). absurd (no_entry key text false t.1))
        (λ (t : Before before later r (Entry key text false) rs).
        stay d (file_of key) ∙ f.saved d key text before t.0 e t.2 (no_entry_front (file_of key) t.0 r (subst (NoEntryOf (file_of key)) t.1 none)))
        (stands_push rs before later r (Entry key text false) at);
    hits = λ d key before later e at nowhere none. ⊎_elim
        (λ (t : Here before later r (Hit key) rs). let h = hit d key e t.1 (none_front key rs (r ∷ []) nowhere) in (h.0, stay d (file_of key) ∙ h.1))
        (λ (t : Before before later r (Hit key) rs).
        let h = f.hits d key before t.0 e t.2 (none_front key rs (r ∷ []) nowhere) (no_entry_front (file_of key) t.0 r (subst (NoEntryOf (file_of key)) t.1 none)) in (h.0, stay d (file_of key) ∙ h.1))
        (stands_push rs before later r (Hit key) at);
    lacking = λ d key before later e at nowhere text holds. ⊎_elim
        (λ (t : Here before later r (Miss key Lacking) rs). lack d key e t.1 text (sym (stay d (file_of key)) ∙ holds))
        (λ (t : Before before later r (Miss key Lacking) rs).
        f.lacking d key before t.0 e t.2 (none_front key t.0 (r ∷ []) (subst (λ (l : List Record). text_of key l ≡ None) t.1 nowhere)) text (sym (stay d (file_of key)) ∙ holds))
        (stands_push rs before later r (Miss key Lacking) at);
    others = λ d name none. stay d name ∙ f.others d name (λ e. no_entry_front name rs r (none e));
  }

  -- an entry, whose file alone has changed: it holds the entry where the save didn't fail, and else no entry of another key that it didn't hold before
  pub files_saved : (d0 : List ℕ) → dir ≡ Some d0 → (now next : DiskStore) (rs : List Record) (key text : List ℕ) (failed : Bool)
      → OtherEntriesStay now next d0 (file_of key)
      → (failed ≡ false → next d0 (file_of key) ≡ Some (bytes_of key text))
      → ((k t : List ℕ) → next d0 (file_of key) ≡ Some (bytes_of k t) → key ≢ k → now d0 (file_of key) ≡ Some (bytes_of k t))
      → FilesTold dir first now rs → FilesTold dir first next (rs ++ Entry key text failed ∷ [])
  files_saved d0 is now next rs key text failed others wrote part f =
      let r = Entry key text failed in
      let dir_is : (d : List ℕ) → dir ≡ Some d → d0 ≡ d = λ d e. (let q : Some d0 ≡ Some d = sym is ∙ e in cc q) in
      let apart : (d name : List ℕ) → file_of key ≢ name → next d name ≡ now d name = λ d name ne. others d name (λ p q. ne (sym q)) in
      record {
        saved = λ d k t before later e at none. ⊎_elim
            (λ (h : Here before later r (Entry k t false) rs).
            let key_is : key ≡ k = cc h.1 in
            let text_is : text ≡ t = cc h.1 in
            let well : failed ≡ false = cc h.1 in
            subst (λ (z : List ℕ × List ℕ × List ℕ). next z.0 (file_of z.1) ≡ Some (bytes_of z.1 z.2)) (λ i. (dir_is d e i, key_is i, text_is i)) (wrote well))
            (λ (h : Before before later r (Entry k t false) rs).
            let none_is : NoEntryOf (file_of k) (h.0 ++ r ∷ []) = subst (NoEntryOf (file_of k)) h.1 none in
            apart d (file_of k) (no_entry_last (file_of k) h.0 key text failed none_is) ∙ f.saved d k t before h.0 e h.2 (no_entry_front (file_of k) h.0 r none_is))
            (stands_push rs before later r (Entry k t false) at);
        hits = λ d k before later e at nowhere none. ⊎_elim
            (λ (h : Here before later r (Hit k) rs). absurd (cc h.1))
            (λ (h : Before before later r (Hit k) rs).
            let none_is : NoEntryOf (file_of k) (h.0 ++ r ∷ []) = subst (NoEntryOf (file_of k)) h.1 none in
            let old = f.hits d k before h.0 e h.2 (none_front k rs (r ∷ []) nowhere) (no_entry_front (file_of k) h.0 r none_is) in
            (old.0, apart d (file_of k) (no_entry_last (file_of k) h.0 key text failed none_is) ∙ old.1))
            (stands_push rs before later r (Hit k) at);
        lacking = λ d k before later e at nowhere t holds. ⊎_elim
            (λ (h : Here before later r (Miss k Lacking) rs). absurd (cc h.1))
            (λ (h : Before before later r (Miss k Lacking) rs).
            let nowhere_is : text_of k (h.0 ++ r ∷ []) ≡ None = subst (λ (l : List Record). text_of k l ≡ None) h.1 nowhere in
            let old = f.lacking d k before h.0 e h.2 (none_front k h.0 (r ∷ []) nowhere_is) t in
            let other_key = none_last k h.0 key text failed nowhere_is in
            ⊎_elim
            (λ (one : file_of key ≡ file_of k).
            let there : next d0 (file_of key) ≡ Some (bytes_of k t) = (λ i. next (dir_is d e i) (one i)) ∙ holds in
            old (sym (λ i. now (dir_is d e i) (one i)) ∙ part k t there other_key))
            (λ (ne : file_of key ≢ file_of k). old (sym (apart d (file_of k) ne) ∙ holds))
            (same_or_other (file_of key) (file_of k)))
            (stands_push rs before later r (Miss k Lacking) at);
        others = λ d name none.
            others d name (λ p q. no_entry_last name rs key text failed (none (is ∙ ap Some (sym p))) (sym q)) ∙ f.others d name (λ e. no_entry_front name rs r (none e));
      }
