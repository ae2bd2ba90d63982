-- Each event keeps what is good.
use Rattle.std.proofs.Common.{◌≡◌, ◌≢◌, ℕ, zero, suc, ◌+◌, ◌<◌, ◌≤◌, Bool, true, false, true≢false, nat_lt, List, [], ◌∷◌, ◌++◌, length, set, min, map, replicate, Option, Some, None, sym, refl, ap, ◌∙◌, subst, ⊎_elim, arith, eq-eqb, ne_eqb, length-set}
use Rattle.std.specs.Prelude.{slice_get, sum_by}
use Rattle.std.specs.Str.{bytes_eq}
use Rattle.std.proofs.lemmas.Bool.{cases_lt, cases_eq, lt-ltb, le-ltb}
use Rattle.std.proofs.lemmas.List.Sums.{sum_by-cons}
use Rattle.std.proofs.lemmas.Slice.Eq.{bytes_eq-Decides}
use lib.ListN.{length-replicate}
use Rattle.link_core.specs.declared.event.DiskPair.{DiskPair}
use Rattle.link_core.specs.declared.event.Phase.{Phase}
use Rattle.link_core.specs.declared.event.Phase.TheVariants.{Idle, Claimed, Missed, Made, Ended}
use Rattle.link_core.specs.declared.event.Act.{Act}
use Rattle.link_core.specs.declared.event.Act.TheVariants.{Claim, Look, Compile, Keep}
use Rattle.link_core.specs.declared.event.Event.{Event}
use Rattle.link_core.specs.Machine.{LinkState, CoreState, text_of, key_at, found, claimed, moved, settled, looked, with_entry, saved, opened, start, acted, phase_then, link_then, stepped, core_or, run}
use Rattle.link_core.specs.Facts.{has_number, has_result, OnceBelow, IsGoodLink, AllHonest, Distinct, IsGood, HonestAct, CompilesHonestly, HonestRun}
use Rattle.link_core.proofs.Lists.{get_set, replicate_get, sum_set, sum_at, sum_none}

same_is : (xs ys : List ℕ) → bytes_eq xs ys ≡ true → xs ≡ ys
same_is xs ys e = (bytes_eq-Decides xs ys).0 e

same_self : (xs : List ℕ) → bytes_eq xs xs ≡ true
same_self xs = (bytes_eq-Decides xs xs).1 refl

count_here : (k j : ℕ) → j ≡ k → has_number k (Claimed j) ≡ 1
count_here k j e = rw (eq-eqb j k e) refl

count_else : (k j : ℕ) → j ≢ k → has_number k (Claimed j) ≡ 0
count_else k j n = rw (ne_eqb j k n) refl

result_here : (l : List (Option (List ℕ))) (k : ℕ) (t : List ℕ) → k < length l → has_result k (set l k (Some t)) ≡ 1
result_here [] k t h = absurd (omega arith)
result_here (x ∷ xs) zero t h = refl
result_here (x ∷ xs) (suc k) t h = result_here xs k t (omega arith)

result_else : (l : List (Option (List ℕ))) (k j : ℕ) (t : List ℕ) → j ≢ k → has_result j (set l k (Some t)) ≡ has_result j l
result_else [] k j t n = refl
result_else (x ∷ xs) zero zero t n = absurd (n refl)
result_else (x ∷ xs) zero (suc j) t n = refl
result_else (x ∷ xs) (suc k) zero t n = refl
result_else (x ∷ xs) (suc k) (suc j) t n = result_else xs k j t (λ e. n (ap suc e))

module _ (made_of : List ℕ → List ℕ → Type 0) where
  found_first : (key : List ℕ) (p : DiskPair) (ps : List DiskPair) (t : List ℕ) → made_of p.key p.text → (text_of key ps ≡ Some t → made_of key t) → (b : Bool) → bytes_eq p.key key ≡ b → text_of key (p ∷ ps) ≡ Some t → made_of key t
  found_first key p ps t one rest true is e = let here : p.text ≡ t = cc (rw is at e) in subst (λ (z : List ℕ × List ℕ). made_of z.0 z.1) (λ i. (same_is p.key key is i, here i)) one
  found_first key p ps t one rest false is e = rest (rw is at e)

  pub made_found : (key : List ℕ) (ps : List DiskPair) (t : List ℕ) → AllHonest made_of ps → text_of key ps ≡ Some t → made_of key t
  made_found key [] t all e = absurd (cc e)
  made_found key (p ∷ ps) t all e = found_first key p ps t all.0 (made_found key ps t all.1) (bytes_eq p.key key) refl e

  made_either : (es ds : List DiskPair) (key : List ℕ) (given : Bool) (t : List ℕ) → AllHonest made_of es → AllHonest made_of ds → (o : Option (List ℕ)) → text_of key es ≡ o → found es ds key given ≡ Some t → made_of key t
  made_either es ds key given t he hd (Some u) is e = made_found key es t he (is ∙ (let same : Some u ≡ Some t = rw is at e in same))
  made_either es ds key true t he hd None is e = made_found key ds t hd (rw is at e)
  made_either es ds key false t he hd None is e = absurd (let none : None ≡ Some t = rw is at e in cc none)

  all_push : (ps : List DiskPair) (p : DiskPair) → AllHonest made_of ps → made_of p.key p.text → AllHonest made_of (ps ++ p ∷ [])
  all_push [] p all one = (one, tt)
  all_push (q ∷ ps) p all one = (all.0, all_push ps p all.1 one)

  -- a key that stands in neither part stands in neither
  none_push : (key : List ℕ) (ps : List DiskPair) (p : DiskPair) → text_of key ps ≡ None → (bytes_eq p.key key ≡ true → ⊥) → text_of key (ps ++ p ∷ []) ≡ None
  none_push key [] p e n = by (bytes_eq p.key key) refl
    where
      by : (b : Bool) → bytes_eq p.key key ≡ b → text_of key (p ∷ []) ≡ None
      by true is = absurd (n is)
      by false is = rw is refl
  none_push key (q ∷ ps) p e n = none_first key q ps p n (λ h. none_push key ps p h n) (bytes_eq q.key key) refl e
    where
      none_first : (key : List ℕ) (q : DiskPair) (ps : List DiskPair) (p : DiskPair) → (bytes_eq p.key key ≡ true → ⊥) → (text_of key ps ≡ None → text_of key (ps ++ p ∷ []) ≡ None) → (b : Bool) → bytes_eq q.key key ≡ b → text_of key (q ∷ ps) ≡ None → text_of key (q ∷ (ps ++ p ∷ [])) ≡ None
      none_first key q ps p n rest true is e = absurd (let none : Some q.text ≡ None = rw is at e in cc none)
      none_first key q ps p n rest false is e = rw is (rest (rw is at e))

  none_head : (key : List ℕ) (q : DiskPair) (ps : List DiskPair) → text_of key (q ∷ ps) ≡ None → (bytes_eq q.key key ≡ true → ⊥) × (text_of key ps ≡ None)
  none_head key q ps e = by (bytes_eq q.key key) refl
    where
      by : (b : Bool) → bytes_eq q.key key ≡ b → (bytes_eq q.key key ≡ true → ⊥) × (text_of key ps ≡ None)
      by true is = absurd (let none : Some q.text ≡ None = rw is at e in cc none)
      by false is = ((λ t. true≢false (sym t ∙ is)), rw is at e)

  distinct_push : (ps : List DiskPair) (p : DiskPair) → Distinct made_of ps → text_of p.key ps ≡ None → Distinct made_of (ps ++ p ∷ [])
  distinct_push [] p all e = (refl, tt)
  distinct_push (q ∷ ps) p all e =
      let h = none_head p.key q ps e in
      (none_push q.key ps p all.0 (λ is. h.0 (subst (λ (k : List ℕ). bytes_eq k p.key ≡ true) (same_is p.key q.key is) (same_self p.key))), distinct_push ps p all.1 h.1)

  entries_keep : (ps : List DiskPair) (key text : List ℕ) → AllHonest made_of ps → Distinct made_of ps → made_of key text → (o : Option (List ℕ)) → text_of key ps ≡ o → AllHonest made_of (with_entry ps key text) × Distinct made_of (with_entry ps key text)
  entries_keep ps key text all apart one (Some t) is = rw is (all, apart)
  entries_keep ps key text all apart one None is = rw is (all_push ps _ all one, distinct_push ps record { key = key; text = text } apart is)

  -- a worker's phase goes from p to q, and no number is lost
  same_number : (l : LinkState) (i : ℕ) (p q : Phase) → IsGoodLink made_of l → slice_get l.phases i ≡ Some p → ((k : ℕ) → has_number k q ≡ has_number k p) → ((k : ℕ) (t : List ℕ) → q ≡ Made k t → made_of (key_at l.keys k) t) → (q ≡ Ended → length l.keys ≤ l.next) → IsGoodLink made_of (moved l i q)
  same_number l i p q good at same made past = record {
    sized = good.sized;
    places = λ k. let s = sum_set (has_number k) l.phases i p q at in let e = same k in let t : sum_by (has_number k) (set l.phases i q) ≡ sum_by (has_number k) l.phases = omega arith in rw t (good.places k);
    compiled = λ j k t e. ⊎_elim (λ (h : (j ≡ i) × (q ≡ Made k t)). made k t h.1) (λ (h : (j ≢ i) × (slice_get l.phases j ≡ Some (Made k t))). good.compiled j k t h.1) (get_set l.phases i j q (Made k t) e);
    made = good.made;
    past_end = λ j e. ⊎_elim (λ (h : (j ≡ i) × (q ≡ Ended)). past h.1) (λ (h : (j ≢ i) × (slice_get l.phases j ≡ Some Ended)). good.past_end j h.1) (get_set l.phases i j q Ended e);
  }

  -- a number becomes a result
  settles : (l : LinkState) (i k : ℕ) (p : Phase) (t : List ℕ) → IsGoodLink made_of l → slice_get l.phases i ≡ Some p → ((j : ℕ) → has_number j p ≡ has_number j (Claimed k)) → made_of (key_at l.keys k) t → IsGoodLink made_of (settled l i k t)
  settles l i k p t good at same fit =
      let mine : has_number k p ≡ 1 = same k ∙ count_here k k refl in
      let held = sum_at (has_number k) l.phases i p at in
      let below : k < length l.keys = ⊎_elim (λ (lt : k < length l.keys). lt) (λ (ge : length l.keys ≤ k). absurd (let z = (good.places k).1 (omega arith) in omega arith)) (cases_lt k (length l.keys)) in
      let sized = good.sized in record {
        sized = length-set l.results k (Some t) ∙ good.sized;
        places = λ j. ⊎_elim
            (λ (e : j ≡ k). let s = sum_set (has_number k) l.phases i p Idle at in let here = result_here l.results k t (omega arith) in
            let none : has_result k l.results ≡ 0 = (⊎_elim (λ (lt : k < min l.next (length l.keys)). let z = (good.places k).0 lt in omega arith) (λ (ge : min l.next (length l.keys) ≤ k). absurd (let z = (good.places k).1 ge in omega arith)) (cases_lt k (min l.next (length l.keys)))) in
            let total : sum_by (has_number k) (set l.phases i Idle) + has_result k (set l.results k (Some t)) ≡ sum_by (has_number k) l.phases + has_result k l.results = omega arith in
            subst (λ (z : ℕ). OnceBelow (min l.next (length l.keys)) z (sum_by (has_number z) (set l.phases i Idle) + has_result z (set l.results k (Some t)))) (sym e) (rw total (good.places k)))
            (λ (ne : j ≡ k → ⊥). let s = sum_set (has_number j) l.phases i p Idle at in let else = result_else l.results k j t ne in let other : has_number j p ≡ 0 = same j ∙ count_else j k (λ h. ne (sym h)) in
            let total : sum_by (has_number j) (set l.phases i Idle) + has_result j (set l.results k (Some t)) ≡ sum_by (has_number j) l.phases + has_result j l.results = omega arith in
            rw total (good.places j))
            (cases_eq j k);
        compiled = λ j k' u e. ⊎_elim (λ (h : (j ≡ i) × (Idle ≡ Made k' u)). absurd (let no = h.1 in cc no)) (λ (h : (j ≢ i) × (slice_get l.phases j ≡ Some (Made k' u))). good.compiled j k' u h.1) (get_set l.phases i j Idle (Made k' u) e);
        made = λ j u e. ⊎_elim (λ (h : (j ≡ k) × (Some t ≡ Some u)). let is : t ≡ u = (let h1 = h.1 in cc h1) in subst (λ (z : ℕ × List ℕ). made_of (key_at l.keys z.0) z.1) (λ c. (sym h.0 c, is c)) fit) (λ (h : (j ≢ k) × (slice_get l.results j ≡ Some (Some u))). good.made j u h.1) (get_set l.results k j (Some t) (Some u) e);
        past_end = λ j e. ⊎_elim (λ (h : (j ≡ i) × (Idle ≡ Ended)). absurd (let no = h.1 in cc no)) (λ (h : (j ≢ i) × (slice_get l.phases j ≡ Some Ended)). good.past_end j h.1) (get_set l.phases i j Idle Ended e);
      }

  -- the next number is claimed, or the end is met
  claims : (l : LinkState) (i : ℕ) → IsGoodLink made_of l → slice_get l.phases i ≡ Some Idle → IsGoodLink made_of (claimed l i)
  claims l i good at = ⊎_elim
      (λ (lt : l.next < length l.keys). let is : nat_lt l.next (length l.keys) ≡ true = lt-ltb l.next (length l.keys) lt in rw is record {
        sized = good.sized;
        places = λ k. let s = sum_set (has_number k) l.phases i Idle (Claimed l.next) at in let old = good.places k in ⊎_elim
            (λ (e : l.next ≡ k). let one = count_here k l.next e in let z = old.1 (omega arith) in ((λ _. omega arith), λ ge. absurd (omega arith)))
            (λ (ne : l.next ≡ k → ⊥). let none = count_else k l.next ne in ((λ below. (let z = old.0 (omega arith) in omega arith)), λ ge. (let z = old.1 (omega arith) in omega arith)))
            (cases_eq l.next k);
        compiled = λ j k t e. ⊎_elim (λ (h : (j ≡ i) × (Claimed l.next ≡ Made k t)). absurd (let no = h.1 in cc no)) (λ (h : (j ≢ i) × (slice_get l.phases j ≡ Some (Made k t))). good.compiled j k t h.1) (get_set l.phases i j (Claimed l.next) (Made k t) e);
        made = good.made;
        past_end = λ j e. ⊎_elim (λ (h : (j ≡ i) × (Claimed l.next ≡ Ended)). absurd (let no = h.1 in cc no)) (λ (h : (j ≢ i) × (slice_get l.phases j ≡ Some Ended)). let p = good.past_end j h.1 in omega arith) (get_set l.phases i j (Claimed l.next) Ended e);
      })
      (λ (ge : length l.keys ≤ l.next). let is : nat_lt l.next (length l.keys) ≡ false = le-ltb l.next (length l.keys) ge in rw is record {
        sized = good.sized;
        places = λ k. let s = sum_set (has_number k) l.phases i Idle Ended at in let t : sum_by (has_number k) (set l.phases i Ended) ≡ sum_by (has_number k) l.phases = omega arith in
            let m : min (l.next + 1) (length l.keys) ≡ min l.next (length l.keys) = omega arith in rw (t, m) (good.places k);
        compiled = λ j k t e. ⊎_elim (λ (h : (j ≡ i) × (Ended ≡ Made k t)). absurd (let no = h.1 in cc no)) (λ (h : (j ≢ i) × (slice_get l.phases j ≡ Some (Made k t))). good.compiled j k t h.1) (get_set l.phases i j Ended (Made k t) e);
        made = good.made;
        past_end = λ j e. omega arith;
      })
      (cases_lt l.next (length l.keys))

  with_link : (w : CoreState) (j : ℕ) (l : LinkState) (es ds : List DiskPair) → IsGood made_of w → IsGoodLink made_of l → AllHonest made_of es → AllHonest made_of ds → Distinct made_of es → IsGood made_of record { entries = es; disk = ds; links = set w.links j l }
  with_link w j l es ds good one he hd apart = record {
    honest = he;
    disk = hd;
    distinct = apart;
    links = λ i m e. ⊎_elim (λ (h : (i ≡ j) × (l ≡ m)). subst (IsGoodLink made_of) h.1 one) (λ (h : (i ≢ j) × (slice_get w.links i ≡ Some m)). good.links i m h.1) (get_set w.links j i l m e);
  }

  looked_keeps : (w : CoreState) (l : LinkState) (i k : ℕ) (given : Bool) → IsGood made_of w → IsGoodLink made_of l → slice_get l.phases i ≡ Some (Claimed k) → (o : Option (List ℕ)) → found w.entries w.disk (key_at l.keys k) given ≡ o → IsGoodLink made_of (looked l i k o)
  looked_keeps w l i k given good one at (Some t) is = settles l i k (Claimed k) t one at (λ j. refl) (made_either w.entries w.disk (key_at l.keys k) given t good.honest good.disk (text_of (key_at l.keys k) w.entries) refl is)
  looked_keeps w l i k given good one at None is = same_number l i (Claimed k) (Missed k) one at (λ j. refl) (λ j t e. absurd (cc e)) (λ e. absurd (cc e))

  disk_keeps : (w : CoreState) (key text : List ℕ) (taken : Bool) → AllHonest made_of w.disk → made_of key text → AllHonest made_of (saved w.disk key text taken)
  disk_keeps w key text true all one = (one, all)
  disk_keeps w key text false all one = all

  acts_keep : (w : CoreState) (j : ℕ) (l : LinkState) (i : ℕ) (p : Phase) (a : Act) → IsGood made_of w → slice_get w.links j ≡ Some l → slice_get l.phases i ≡ Some p → HonestAct made_of l p a → IsGood made_of (core_or w (acted w j l i p a))
  acts_keep w j l i Idle Claim good here at honest = with_link w j (claimed l i) w.entries w.disk good (claims l i (good.links j l here) at) good.honest good.disk good.distinct
  acts_keep w j l i (Claimed k) (Look given) good here at honest =
      with_link w j (looked l i k (found w.entries w.disk (key_at l.keys k) given)) w.entries w.disk good (looked_keeps w l i k given good (good.links j l here) at (found w.entries w.disk (key_at l.keys k) given) refl) good.honest good.disk good.distinct
  acts_keep w j l i (Missed k) (Compile text) good here at honest =
      with_link w j (moved l i (Made k text)) w.entries w.disk good
      (same_number l i (Missed k) (Made k text) (good.links j l here) at (λ m. refl) (λ m t e. (let a : k ≡ m = cc e in let b : text ≡ t = cc e in subst (λ (z : ℕ × List ℕ). made_of (key_at l.keys z.0) z.1) (λ c. (a c, b c)) honest)) (λ e. absurd (cc e)))
      good.honest good.disk good.distinct
  acts_keep w j l i (Made k text) (Keep taken) good here at honest =
      let one = (good.links j l here).compiled i k text at in
      let es = entries_keep w.entries (key_at l.keys k) text good.honest good.distinct one (text_of (key_at l.keys k) w.entries) refl in
      with_link w j (settled l i k text) _ _ good (settles l i k (Made k text) text (good.links j l here) at (λ m. refl) one) es.0 (disk_keeps w (key_at l.keys k) text taken good.disk one) es.1
  acts_keep w j l i p a good here at honest = good

  pub event_keeps : (w : CoreState) (e : Event) → IsGood made_of w → CompilesHonestly made_of w e → IsGood made_of (core_or w (stepped w e))
  event_keeps w e good honest = by_link (slice_get w.links e.link) refl
    where
      by_phase : (l : LinkState) → slice_get w.links e.link ≡ Some l → (o : Option Phase) → slice_get l.phases e.worker ≡ o → IsGood made_of (core_or w (phase_then w e.link l e.worker e.act o))
      by_phase l here None at = good
      by_phase l here (Some p) at = acts_keep w e.link l e.worker p e.act good here at (honest l p here at)

      by_link : (o : Option LinkState) → slice_get w.links e.link ≡ o → IsGood made_of (core_or w (link_then w e o))
      by_link None here = good
      by_link (Some l) here = by_phase l here (slice_get l.phases e.worker) refl

  pub run_keeps : (w : CoreState) (es : List Event) → IsGood made_of w → HonestRun made_of w es → IsGood made_of (run w es)
  run_keeps w [] good honest = good
  run_keeps w (e ∷ es) good honest = run_keeps (core_or w (stepped w e)) es (event_keeps w e good honest.0) honest.1

  -- where a link has a worker and all have ended, each result is there
  pub all_there : (l : LinkState) → IsGoodLink made_of l → 0 < length l.phases → ((i : ℕ) (p : Phase) → slice_get l.phases i ≡ Some p → p ≡ Ended) → (k : ℕ) → k < length l.keys → has_result k l.results ≡ 1
  all_there l good some_worker all k lt =
      let none = sum_none (has_number k) l.phases (λ i p e. ap (has_number k) (all i p e)) in
      let past = by_first l.phases all some_worker (λ p e. good.past_end 0 e) in
      let one = (good.places k).0 (omega arith) in
      omega arith
    where
      by_first : (ps : List Phase) → ((i : ℕ) (p : Phase) → slice_get ps i ≡ Some p → p ≡ Ended) → 0 < length ps → ((p : Phase) → slice_get ps 0 ≡ Some Ended → length l.keys ≤ l.next) → length l.keys ≤ l.next
      by_first [] all h past = absurd (omega arith)
      by_first (p ∷ ps) all h past = past p (ap (λ (q : Phase). Some q) (all 0 p refl))

  no_numbers : (m k : ℕ) → sum_by (has_number k) (replicate m Idle) ≡ 0
  no_numbers zero k = refl
  no_numbers (suc m) k = let r = no_numbers m k in omega (arith, sum_by-cons (has_number k) Idle (replicate m Idle))

  no_results : (m k : ℕ) → has_result k (replicate m None) ≡ 0
  no_results zero k = refl
  no_results (suc m) zero = refl
  no_results (suc m) (suc k) = no_results m k

  opened_good : (c : List (List ℕ) × ℕ) → IsGoodLink made_of (opened c)
  opened_good c = record {
    sized = length-replicate (length c.0) None;
    places = λ k. let a = no_numbers c.1 k in let b = no_results (length c.0) k in ((λ lt. absurd (omega arith)), λ ge. omega arith);
    compiled = λ i k t e. absurd (let no = replicate_get c.1 i Idle (Made k t) e in cc no);
    made = λ k t e. absurd (let no = replicate_get (length c.0) k None (Some t) e in cc no);
    past_end = λ i e. absurd (let no = replicate_get c.1 i Idle Ended e in cc no);
  }

  map_get : (links : List (List (List ℕ) × ℕ)) (j : ℕ) (l : LinkState) → slice_get (map opened links) j ≡ Some l → IsGoodLink made_of l
  map_get [] j l e = absurd (cc e)
  map_get (c ∷ cs) zero l e = subst (IsGoodLink made_of) (let is : opened c ≡ l = cc e in is) (opened_good c)
  map_get (c ∷ cs) (suc j) l e = map_get cs j l e

  pub starts_good : (links : List (List (List ℕ) × ℕ)) (disk : List DiskPair) → AllHonest made_of disk → IsGood made_of (start links disk)
  starts_good links disk all = record { honest = tt; disk = all; distinct = tt; links = λ j l e. map_get links j l e }
