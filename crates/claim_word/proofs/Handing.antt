-- To cut a pass in two and to make two one keeps the rule.
use Rattle.std.proofs.Common.{◌≡◌, ◌≢◌, ℕ, ◌+◌, ◌<◌, ◌≤◌, true≢false, List, [], ◌∷◌, ◌++◌, length, set, sym, refl, ◌∙◌, ⊎_elim, arith, length-append}
use Rattle.std.specs.Prelude.{sum_by, slice_index}
use Rattle.std.proofs.lemmas.Bool.{cases_lt, or_cases}
use mathlib.Core.Option.{some}
use lib.ListN.{get_elem?}
use Rattle.atomic_table.specs.Table.{Splits, Joins}
use Rattle.atomic_table.proofs.Lists.{at_set}
use Rattle.claim_word.specs.declared.view.Draws.{Draws}
use Rattle.claim_word.specs.Counting.{times}
use Rattle.claim_word.specs.Views.{no_draws, both_draws, kept_part, cut_part}
use Rattle.claim_word.specs.Rule.{times_drawn, count_drawn, count_overruns, times_held, bits_held, bits_ended, PassRule, ClaimRule}
use Rattle.claim_word.proofs.Tallies.{sum_set, sum_push, times-append}
use Rattle.claim_word.proofs.Views.{each_set, each_push, ended_cut, ended_both, length_cut, times_cut, head_small}

sum_cut : (f : Draws → ℕ) (views : List Draws) (id : ℕ) (v : Draws) → get_elem? views id ≡ some v → f (kept_part v) + f (cut_part v) ≡ f v → sum_by f (set views id (kept_part v) ++ cut_part v ∷ []) ≡ sum_by f views
sum_cut f views id v at cut = let e = sum_set f views id v (kept_part v) at in let p = sum_push f (set views id (kept_part v)) (cut_part v) in omega arith

pub splits : (n callers id : ℕ) (v : Draws) → 1 < length v.bits → Splits (ClaimRule n callers) id v (kept_part v) (cut_part v)
splits n callers id v two s r at =
    let mine = r.each_pass id v at in
    let cut = length_cut v.bits in
    let drawn : (y : ℕ) → sum_by (times_drawn y) (set s.views id (kept_part v) ++ cut_part v ∷ []) ≡ sum_by (times_drawn y) s.views = λ y. sum_cut (times_drawn y) s.views id v at (omega arith) in
    let holding : (y : ℕ) → sum_by (times_held y) (set s.views id (kept_part v) ++ cut_part v ∷ []) ≡ sum_by (times_held y) s.views = λ y. sum_cut (times_held y) s.views id v at (times_cut y v.bits) in
    let count = sum_cut count_drawn s.views id v at (omega arith) in
    record {
      made = r.made;
      parent = r.parent;
      wide = r.wide;
      limit_fits = r.limit_fits;
      callers_fit = r.callers_fit;
      some_made = r.some_made;
      made_fit = r.made_fit;
      drawn_once = λ y. rw (drawn y) (r.drawn_once y);
      drawn = count ∙ r.drawn;
      counted = let o = sum_cut count_overruns s.views id v at (omega arith) in let h = r.counted in omega arith;
      room = let e = sum_cut bits_ended s.views id v at (ended_cut v v.ended refl) in let h = r.room in omega arith;
      set_bits = r.set_bits;
      clear_bits = r.clear_bits;
      held_once = λ y. rw (holding y) (r.held_once y);
      held = sum_cut bits_held s.views id v at cut ∙ r.held;
      each_pass = each_push (PassRule n (slice_index s.words 0) r.made) (set s.views id (kept_part v)) (cut_part v)
          (record { idle = λ _. (refl, refl); past = mine.past; seen = mine.seen; limit_known = λ _. mine.limit_known (omega arith); first_known = λ _. mine.first_known (omega arith) })
          (each_set (λ j u. PassRule n (slice_index s.words 0) r.made u) s.views id (kept_part v)
          (record { idle = λ none. absurd (let h = head_small v.bits in omega arith); past = mine.past; seen = mine.seen; limit_known = λ _. mine.limit_known (omega arith); first_known = λ _. mine.first_known (omega arith) })
          (λ j u ne e. r.each_pass j u e));
      rooted = r.rooted;
      known = λ c pos below. each_push (λ u. 0 < times (r.parent c) u.bits → 0 < times c u.made) (set s.views id (kept_part v)) (cut_part v)
          (λ has. r.known c pos below id v at (let t = times_cut (r.parent c) v.bits in omega arith))
          (each_set (λ j u. 0 < times (r.parent c) u.bits → 0 < times c u.made) s.views id (kept_part v)
          (λ has. r.known c pos below id v at (let t = times_cut (r.parent c) v.bits in omega arith))
          (λ j u ne e. r.known c pos below j u e));
    }

sum_joined : (f : Draws → ℕ) (views : List Draws) (id : ℕ) (v : Draws) (other : ℕ) (w u : Draws) → get_elem? views id ≡ some v → get_elem? (set views id u) other ≡ some w
    → sum_by f (set (set views id u) other no_draws) + f v + f w ≡ sum_by f views + f u + f no_draws
sum_joined f views id v other w u at there = let a = sum_set f views id v u at in let b = sum_set f (set views id u) other w no_draws there in omega arith

pub joins : (n callers id : ℕ) (v : Draws) (other : ℕ) (w : Draws) → 0 < length v.bits → Joins (ClaimRule n callers) id v other w (both_draws v w) no_draws
joins n callers id v other w some_bits s r at apart there =
    let u = both_draws v w in
    let mine = r.each_pass id v at in
    let there' : get_elem? s.views other ≡ some w = ⊎_elim (λ (t : (other ≡ id) × (u ≡ w)). absurd (apart t.0)) (λ (t : (other ≢ id) × (get_elem? s.views other ≡ some w)). t.1) (at_set s.views id other u w there) in
    let theirs = r.each_pass other w there' in
    let long = length-append v.bits w.bits in
    let drawn : (y : ℕ) → sum_by (times_drawn y) (set (set s.views id u) other no_draws) ≡ sum_by (times_drawn y) s.views = λ y. (let e = sum_joined (times_drawn y) s.views id v other w u at there in let t = times-append y v.numbers w.numbers in omega arith) in
    let holding : (y : ℕ) → sum_by (times_held y) (set (set s.views id u) other no_draws) ≡ sum_by (times_held y) s.views = λ y. (let e = sum_joined (times_held y) s.views id v other w u at there in let t = times-append y v.bits w.bits in omega arith) in
    let count = sum_joined count_drawn s.views id v other w u at there in
    let numbers = length-append v.numbers w.numbers in
    let kept_views : (P : Draws → Type 0) → P no_draws → P u → ((j : ℕ) (a : Draws) → get_elem? s.views j ≡ some a → P a) → (j : ℕ) (a : Draws) → get_elem? (set (set s.views id u) other no_draws) j ≡ some a → P a
    = λ P none this all. each_set (λ _. P) (set s.views id u) other no_draws none (λ j a ne e. each_set (λ _. P) s.views id u this (λ i b ne' e'. all i b e') j a e) in
    record {
      made = r.made;
      parent = r.parent;
      wide = r.wide;
      limit_fits = r.limit_fits;
      callers_fit = r.callers_fit;
      some_made = r.some_made;
      made_fit = r.made_fit;
      drawn_once = λ y. rw (drawn y) (r.drawn_once y);
      drawn = let h = r.drawn in omega arith;
      counted = let o = sum_joined count_overruns s.views id v other w u at there in let h = r.counted in omega arith;
      room = let e = sum_joined bits_ended s.views id v other w u at there in let m = ended_both v w v.ended w.ended refl refl in let h = r.room in omega arith;
      set_bits = r.set_bits;
      clear_bits = r.clear_bits;
      held_once = λ y. rw (holding y) (r.held_once y);
      held = let e = sum_joined bits_held s.views id v other w u at there in let h = r.held in omega arith;
      each_pass = kept_views (PassRule n (slice_index s.words 0) r.made)
          (record { idle = λ _. (refl, refl); past = λ e. absurd (true≢false (sym e)); seen = omega arith; limit_known = λ none. absurd (omega arith); first_known = λ none. absurd (omega arith) })
          (record { idle = λ none. absurd (omega arith); past = λ e. ⊎_elim mine.past theirs.past (or_cases v.ended w.ended e); seen = (let a = mine.seen in let b = theirs.seen in omega arith); limit_known = λ _. mine.limit_known some_bits; first_known = λ _. (let a = mine.first_known some_bits in let t = times-append 0 v.made w.made in omega arith) })
          r.each_pass;
      rooted = r.rooted;
      known = λ c pos below. kept_views (λ a. 0 < times (r.parent c) a.bits → 0 < times c a.made)
          (λ none. absurd (omega arith))
          (λ has. (let t = times-append (r.parent c) v.bits w.bits in let m = times-append c v.made w.made in ⊎_elim
          (λ (one : 0 < times (r.parent c) v.bits). let g = r.known c pos below id v at one in omega arith)
          (λ (no : times (r.parent c) v.bits ≤ 0). let g = r.known c pos below other w there' (omega arith) in omega arith)
          (cases_lt 0 (times (r.parent c) v.bits))))
          (r.known c pos below);
    }
