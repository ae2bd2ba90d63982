-- A draw keeps the rule: a number found below the limit is drawn, and else the pass has met the end.
use Rattle.std.proofs.Common.{◌≡◌, ℕ, ◌+◌, ◌%◌, ◌^◌, ◌<◌, ◌≤◌, false, true≢false, List, [], ◌∷◌, ◌++◌, length, set, min, sym, refl, ◌∙◌, subst, ⊎_elim, arith, length-set, length-append, get_or-set_other, get_or-set_same}
use Rattle.std.specs.Prelude.{sum_by, slice_index}
use Rattle.std.proofs.lemmas.Bool.{cases_lt, cases_eq}
use mathlib.Core.Option.{none, some}
use lib.ListN.{get_elem?}
use Rattle.atomic_table.specs.Table.{step, keeps, stepped, Allows}
use Rattle.claim_word.specs.declared.view.Draws.{Draws}
use Rattle.claim_word.specs.Counting.{times, OnceBelow}
use Rattle.claim_word.specs.Views.{drew, met_end}
use Rattle.claim_word.specs.Rule.{times_drawn, count_drawn, count_overruns, times_held, bits_held, bits_ended, PassRule, ClaimRule, DrawStep}
use Rattle.claim_word.proofs.Tallies.{sum_set, sum_at, sum_le, times-append, times_same, times_other}
use Rattle.claim_word.proofs.Views.{M, St, each_set, set_at, bits_ended_le}

-- the word is far from its greatest value
word_small : (n callers : ℕ) (s : St) (r : ClaimRule n callers s) → slice_index s.words 0 < 2 ^ 33
word_small n callers s r = let le = sum_le bits_ended bits_held s.views bits_ended_le in let a = r.room in let b = r.held in let c = r.made_fit in let d = r.callers_fit in let e = r.limit_fits in omega arith

-- no pass has drawn more numbers than there are
few_drawn : (n callers : ℕ) (s : St) (r : ClaimRule n callers s) (id : ℕ) (v : Draws) → get_elem? s.views id ≡ some v → length v.numbers ≤ n
few_drawn n callers s r id v at = let le = sum_at count_drawn s.views id v at in let e = r.drawn in omega arith

-- the number x is drawn once more than never
once_more : (x n y t t' : ℕ) (old : ℕ) (xs : List ℕ) → x < n → OnceBelow (min x n) y t → old ≡ times y xs → t' + old ≡ t + times y (xs ++ x ∷ []) → OnceBelow (min (x + 1) n) y t'
once_more x n y t t' old xs lt once is sum = ⊎_elim
    (λ (e : y ≡ x). let a = times-append y xs (x ∷ []) in let b : times y (x ∷ []) ≡ 1 = subst (λ (z : ℕ). times y (z ∷ []) ≡ 1) e (times_same y []) in let c = once.1 in ((λ l. omega arith), λ l. absurd (omega arith)))
    (λ (ne : y ≡ x → ⊥). let a = times-append y xs (x ∷ []) in let b : times y (x ∷ []) ≡ 0 = times_other y x [] ne in let c = once.0 in let d = once.1 in ((λ l. (let l' : y < min x n = omega arith in let g = c l' in omega arith)), λ l. (let l' : min x n ≤ y = omega arith in let g = d l' in omega arith)))
    (cases_eq y x)

draws_number : (n callers : ℕ) (s : St) (r : ClaimRule n callers s) (id : ℕ) (me : M) → get_elem? s.views id ≡ some me.0 → me.0.ended ≡ false → 0 < length me.0.bits → slice_index s.words 0 < n
    → ClaimRule n callers (stepped s 0 (slice_index s.words 0 + 1) id me.1 (drew me.0 (slice_index s.words 0)) keeps)
draws_number n callers s r id me at going one lt =
    let x : ℕ = slice_index s.words 0 in let v = me.0 in let w = drew v x in
    let mine = r.each_pass id v at in
    let new : slice_index (set s.words 0 (x + 1)) 0 ≡ x + 1 = get_or-set_same s.words 0 (x + 1) 0 (let a = r.wide in omega arith) in
    let others : (b : ℕ) → slice_index (set s.words 0 (x + 1)) (b + 1) ≡ slice_index s.words (b + 1) = λ b. get_or-set_other s.words 0 (b + 1) (x + 1) 0 (λ e. omega arith) in
    let longer = length-append v.numbers (x ∷ []) in
    let draws = sum_set count_drawn s.views id v w at in
    record {
      made = r.made;
      parent = r.parent;
      wide = length-set s.words 0 (x + 1) ∙ r.wide;
      limit_fits = r.limit_fits;
      callers_fit = r.callers_fit;
      some_made = r.some_made;
      made_fit = r.made_fit;
      drawn_once = λ y. rw new (once_more x n y _ _ _ v.numbers lt (r.drawn_once y) refl (sum_set (times_drawn y) s.views id v w at));
      drawn = let h = r.drawn in rw new (omega arith);
      counted = let o = sum_set count_overruns s.views id v w at in let h = r.counted in rw new (omega arith);
      room = rw new (omega arith);
      set_bits = λ b l. others b ∙ r.set_bits b l;
      clear_bits = λ b l m. others b ∙ r.clear_bits b l m;
      held_once = λ b. let e = sum_set (times_held b) s.views id v w at in let t : sum_by (times_held b) (set s.views id w) ≡ sum_by (times_held b) s.views = omega arith in rw t (r.held_once b);
      held = let e = sum_set bits_held s.views id v w at in let h = r.held in omega arith;
      each_pass = each_set (λ j u. PassRule n (slice_index (set s.words 0 (x + 1)) 0) r.made u) s.views id w
          (record { idle = λ none. absurd (omega arith); past = λ e. absurd (true≢false (sym e ∙ going)); seen = mine.seen; limit_known = mine.limit_known; first_known = mine.first_known })
          (λ j u ne e. let f = r.each_pass j u e in record { idle = f.idle; past = λ p. (let g = f.past p in rw new (omega arith)); seen = f.seen; limit_known = f.limit_known; first_known = f.first_known });
      rooted = r.rooted;
      known = λ c pos below. each_set (λ j u. 0 < times (r.parent c) u.bits → 0 < times c u.made) s.views id w (r.known c pos below id v at) (λ j u ne e. r.known c pos below j u e);
    }

meets_end : (n callers : ℕ) (s : St) (r : ClaimRule n callers s) (id : ℕ) (me : M) → get_elem? s.views id ≡ some me.0 → me.0.ended ≡ false → 0 < length me.0.bits → n ≤ slice_index s.words 0
    → ClaimRule n callers (stepped s 0 (slice_index s.words 0 + 1) id me.1 (met_end me.0) keeps)
meets_end n callers s r id me at going one past =
    let x : ℕ = slice_index s.words 0 in let v = me.0 in let w = met_end v in
    let mine = r.each_pass id v at in
    let new : slice_index (set s.words 0 (x + 1)) 0 ≡ x + 1 = get_or-set_same s.words 0 (x + 1) 0 (let a = r.wide in omega arith) in
    let others : (b : ℕ) → slice_index (set s.words 0 (x + 1)) (b + 1) ≡ slice_index s.words (b + 1) = λ b. get_or-set_other s.words 0 (b + 1) (x + 1) 0 (λ e. omega arith) in
    let before : bits_ended v ≡ 0 = rw going refl in
    let draws = sum_set count_drawn s.views id v w at in
    record {
      made = r.made;
      parent = r.parent;
      wide = length-set s.words 0 (x + 1) ∙ r.wide;
      limit_fits = r.limit_fits;
      callers_fit = r.callers_fit;
      some_made = r.some_made;
      made_fit = r.made_fit;
      drawn_once = λ y. let e = sum_set (times_drawn y) s.views id v w at in let t : sum_by (times_drawn y) (set s.views id w) ≡ sum_by (times_drawn y) s.views = omega arith in
          let m : min (x + 1) n ≡ min x n = omega arith in rw (new, m, t) (r.drawn_once y);
      drawn = let h = r.drawn in rw new (omega arith);
      counted = let o = sum_set count_overruns s.views id v w at in let h = r.counted in rw new (omega arith);
      room = let e = sum_set bits_ended s.views id v w at in let h = r.room in rw new (omega arith);
      set_bits = λ b l. others b ∙ r.set_bits b l;
      clear_bits = λ b l m. others b ∙ r.clear_bits b l m;
      held_once = λ b. let e = sum_set (times_held b) s.views id v w at in let t : sum_by (times_held b) (set s.views id w) ≡ sum_by (times_held b) s.views = omega arith in rw t (r.held_once b);
      held = let e = sum_set bits_held s.views id v w at in let h = r.held in omega arith;
      each_pass = each_set (λ j u. PassRule n (slice_index (set s.words 0 (x + 1)) 0) r.made u) s.views id w
          (record { idle = λ none. absurd (omega arith); past = λ e. rw new (omega arith); seen = mine.seen; limit_known = mine.limit_known; first_known = mine.first_known })
          (λ j u ne e. let f = r.each_pass j u e in record { idle = f.idle; past = λ p. (let g = f.past p in rw new (omega arith)); seen = f.seen; limit_known = f.limit_known; first_known = f.first_known });
      rooted = r.rooted;
      known = λ c pos below. each_set (λ j u. 0 < times (r.parent c) u.bits → 0 < times c u.made) s.views id w (r.known c pos below id v at) (λ j u ne e. r.known c pos below j u e);
    }

pub draws : (n callers slots id : ℕ) (me : M) → me.0.limit ≡ n → me.0.ended ≡ false → 0 < length me.0.bits
    → Allows (ClaimRule n callers) slots id me 0 (λ x. (x + 1) % 2 ^ 64) (DrawStep (step slots 0 1 0 none) me)
draws n callers slots id me limit going one s r deep at wide =
    let x : ℕ = slice_index s.words 0 in let small = word_small n callers s r in
    let sum : (x + 1) % 2 ^ 64 ≡ x + 1 = omega arith in
    ⊎_elim
    (λ (lt : x < n).
    let kept = draws_number n callers s r id me at going one lt in
    let few = few_drawn n callers _ kept id (drew me.0 x) (set_at s.views id me.0 (drew me.0 x) at) in (
      drew me.0 x,
      keeps,
      tt,
      subst (λ (z : ℕ). ClaimRule n callers (stepped s 0 z id me.1 (drew me.0 x) keeps)) (sym sum) kept,
      ((λ _. refl), (λ le. absurd (omega arith)), refl, (omega arith)),
    ))
    (λ (le : n ≤ x).
    let few = few_drawn n callers s r id me.0 at in (
      met_end me.0,
      keeps,
      tt,
      subst (λ (z : ℕ). ClaimRule n callers (stepped s 0 z id me.1 (met_end me.0) keeps)) (sym sum) (meets_end n callers s r id me at going one le),
      ((λ lt. absurd (omega arith)), (λ _. refl), refl, (omega arith)),
    ))
    (cases_lt x n)
