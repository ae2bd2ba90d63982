-- What a look-up and a store say, at the shelf's own directory and history.
use Rattle.std.proofs.Common.{Bor, ◌≡◌, ◌≢◌, ℕ, ⊎_elim, Bool, false, true, List, [], ◌∷◌, ◌++◌, Option, None, Some, Result, Ok, Err, refl, sym, ap, subst, ◌∙◌}
use Rattle.std.specs.Prelude.{IfSome, IfOk, OnErr, is_some}
use Rattle.std.specs.Option.{option_copied}
use Rattle.std.specs.Result.{result_ok}
use Rattle.std.proofs.lemmas.List.{append-nil}
use mathlib.Core.List.{IsPrefix}
use Rattle.cache_slot.proofs.Prefixes.{prefix_trans}
use Rattle.lto_outside.specs.DiskStore.{DiskStore}
use Rattle.cache_slot.specs.declared.kept.SkipCause.TheVariants.{Disk}
use Rattle.cache_slot.specs.declared.kept.Kept.{Kept}
use Rattle.cache_slot.specs.declared.kept.Kept.TheVariants.{New, Already, Skipped}
use Rattle.cache_slot.specs.declared.record.Record.{Record}
use Rattle.cache_slot.specs.declared.record.Record.TheVariants.{Entry, Again}
use Rattle.cache_slot.specs.declared.record.Why.TheVariants.{NoDirectory, Lacking, Fault}
use Rattle.cache_slot.specs.Found.{Finding, FoundOn, SavedOn, record_of, kept_of, LookedOn, Stored, StoredOn}
use Rattle.cache_slot.specs.Records.{text_of}
use Rattle.cache_slot.proofs.Texts.{text_kept, text_pushed, none_front}

pub found_at : (held : Option DiskStore) (count count_now : ℕ) (dirs dir : Option (List ℕ)) (rs : List Record) (own key : List ℕ) (found : Finding) → dirs ≡ dir → own ≡ key
    → FoundOn held count count_now dirs rs own found → FoundOn held count count_now dir rs key found
found_at held count count_now dirs dir rs own key found same_dir same on = subst (λ (z : Option (List ℕ) × List ℕ). FoundOn held count count_now z.0 rs z.1 found) (λ i. (same_dir i, same i)) on

-- what holds of the text that is found, if one is
pub each_answer : (P : List ℕ → Type 0) (found : Finding) (answer : Option (List ℕ)) → answer ≡ result_ok found → ((text : List ℕ) → found ≡ Ok text → P text) → IfSome answer P
each_answer P (Ok text) answer is h = subst (λ (z : Option (List ℕ)). IfSome z P) (sym is) (h text refl)
each_answer P (Err why) answer is h = subst (λ (z : Option (List ℕ)). IfSome z P) (sym is) tt

-- an entry was not found
pub none_found : (found : Option (Bor (List ℕ))) (text : Option (List ℕ)) → option_copied found ≡ text → is_some found ≡ false → text ≡ None
none_found None text is none = sym is
none_found (Some t) text is none = absurd (cc none)

-- one was found
pub some_found : (found : Option (Bor (List ℕ))) (text : Option (List ℕ)) → option_copied found ≡ text → is_some found ≡ true → text ≢ None
some_found None text is some = absurd (cc some)
some_found (Some t) text is some = λ none. let q : Some t.now ≡ None = is ∙ none in cc q

-- what a store answers that found none
pub stored_new : (held held_now : Option DiskStore) (count count_now : ℕ) (dir : Option (List ℕ)) (key text : List ℕ) (before after : List Record) (failed : Bool) (kept : Kept) → kept ≡ kept_of failed
    → text_of key before ≡ None → SavedOn held held_now count count_now dir key text failed → after ≡ before ++ Entry key text failed ∷ [] → Stored dir key text before after kept
stored_new held held_now count count_now dir key text before after false kept is none saved more = subst (Stored dir key text before after) (sym is) (none, more)
stored_new held held_now count count_now None key text before after true kept is none saved more = absurd saved
stored_new held held_now count count_now (Some d) key text before after true kept is none saved more =
    subst (Stored (Some d) key text before after) (sym is) (none, (λ e. let q : Some d ≡ None = e in cc q), more)

-- and what it did to the disk
pub stored_on_new : (held held_now : Option DiskStore) (count count_now : ℕ) (dir : Option (List ℕ)) (key text : List ℕ) (failed : Bool) (kept : Kept) → kept ≡ kept_of failed
    → SavedOn held held_now count count_now dir key text failed → StoredOn held held_now count count_now dir key text kept
stored_on_new held held_now count count_now dir key text false kept is saved = subst (StoredOn held held_now count count_now dir key text) (sym is) saved
stored_on_new held held_now count count_now dir key text true kept is saved = subst (StoredOn held held_now count count_now dir key text) (sym is) saved

module _ {E : Type 0} where
  -- a look adds to the history at its end
  pub look_more : (answer : Result (Option (List ℕ)) E) (held : Option DiskStore) (count count_now : ℕ) (dir : Option (List ℕ)) (key : List ℕ) (before after : List Record)
      → IfOk answer (LookedOn held count count_now dir key before after) → OnErr answer (after ≡ before) → IsPrefix before after
  look_more (Ok a) held count count_now dir key before after ok err = (record_of key ok.0 ∷ [], sym ok.2)
  look_more (Err e) held count count_now dir key before after ok err = ([], append-nil before ∙ sym err)

  -- a key of which the pass has seen an entry is found
  pub look_known : (answer : Result (Option (List ℕ)) E) (held : Option DiskStore) (count count_now : ℕ) (dir : Option (List ℕ)) (key : List ℕ) (before after old : List Record) → IsPrefix old before
      → IfOk answer (LookedOn held count count_now dir key before after) → (text : List ℕ) → text_of key old ≡ Some text → IfOk answer (λ a. a ≡ Some text)
  look_known (Err e) held count count_now dir key before after old from ok text there = tt
  look_known (Ok a) held count count_now dir key before after old from ok text there =
      let entry : text_of key before ≡ Some text = subst (λ (l : List Record). text_of key l ≡ Some text) from.1 (text_kept key text old from.0 there) in
      ok.3 ∙ by ok.0 ok.1 entry
    where
      by : (found : Finding) → FoundOn held count count_now dir before key found → text_of key before ≡ Some text → result_ok found ≡ Some text
      by (Ok t) on entry = ⊎_elim (λ here. sym here ∙ entry) (λ none. absurd (let q : Some text ≡ None = sym entry ∙ none.0 in cc q)) on
      by (Err NoDirectory) on entry = absurd (let q : Some text ≡ None = sym entry ∙ on.0 in cc q)
      by (Err Lacking) on entry = absurd (let q : Some text ≡ None = sym entry ∙ on.0 in cc q)
      by (Err Fault) on entry = absurd (let q : Some text ≡ None = sym entry ∙ on.0 in cc q)

  -- the same of a keep
  pub keep_more : (answer : Result Kept E) (dir : Option (List ℕ)) (key text : List ℕ) (before after : List Record) → IfOk answer (Stored dir key text before after) → OnErr answer (after ≡ before) → IsPrefix before after
  keep_more (Ok New) dir key text before after ok err = (Entry key text false ∷ [], sym ok.1)
  keep_more (Ok Already) dir key text before after ok err = (Again key ∷ [], sym ok.1)
  keep_more (Ok (Skipped Disk)) dir key text before after ok err = (Entry key text true ∷ [], sym ok.2)
  keep_more (Err e) dir key text before after ok err = ([], append-nil before ∙ sym err)

  pub err_records : {A B : Type 0} (answer : Result A E) (before after : List Record) (disk disk_now : B) → OnErr answer ((after ≡ before) × (disk_now ≡ disk)) → OnErr answer (after ≡ before)
  err_records (Ok a) before after disk disk_now err = tt
  err_records (Err e) before after disk disk_now err = err.0

  pub keep_known : (answer : Result Kept E) (dir : Option (List ℕ)) (key text : List ℕ) (before after seen : List Record) → seen ≡ after → IfOk answer (Stored dir key text before after) → IfOk answer (λ kept. text_of key seen ≢ None)
  keep_known (Err e) dir key text before after seen is ok = tt
  keep_known (Ok New) dir key text before after seen is ok = λ none. cc (sym (text_pushed key before text false ok.0) ∙ (ap (text_of key) (sym (is ∙ ok.1)) ∙ none))
  keep_known (Ok Already) dir key text before after seen is ok = λ none. ok.0 (none_front key before (Again key ∷ []) (ap (text_of key) (sym (is ∙ ok.1)) ∙ none))
  keep_known (Ok (Skipped Disk)) dir key text before after seen is ok = λ none. cc (sym (text_pushed key before text true ok.0) ∙ (ap (text_of key) (sym (is ∙ ok.2)) ∙ none))

pub prefix_of : (old before after seen : List Record) → seen ≡ after → IsPrefix old before → IsPrefix before after → IsPrefix old seen
prefix_of old before after seen is from more = subst (IsPrefix old) (sym is) (prefix_trans old before after from more)
