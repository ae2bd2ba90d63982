-- A try to number a new pass keeps the rule: the first bit that is clear gets set, and a bit that is set stays.
use Rattle.std.proofs.Common.{◌≡◌, ◌≢◌, ℕ, ◌+◌, ◌-◌, ◌<◌, ◌≤◌, cond, List, [], ◌∷◌, length, set, sym, refl, ap, ◌∙◌, subst, ⊎_elim, arith, eqb, eq-eqb, ne_eqb, length-set, get_or-set_other, get_or-set_same, bit_or}
use Rattle.std.specs.Prelude.{sum_by, slice_index}
use Rattle.std.proofs.lemmas.Bool.{cases_lt, cases_eq}
use mathlib.Core.Option.{none, some}
use lib.ListN.{get_elem?}
use lib.Seq.{set-get_or}
use Rattle.atomic_table.specs.Table.{step, keeps, stepped, Allows}
use Rattle.claim_word.specs.Counting.{times, OnceBelow}
use Rattle.claim_word.specs.Views.{numbered, knows}
use Rattle.claim_word.specs.Rule.{times_drawn, count_drawn, count_overruns, times_held, bits_held, bits_ended, PassRule, ClaimRule, NumberStep}
use Rattle.claim_word.proofs.Tallies.{sum_set, times_same, times_other}
use Rattle.claim_word.proofs.Views.{M, St, each_set, ended_more, times_head, times_more, has_some, held_made, held_by_one}

-- the parent of the pass m is d, and of the others as before
abbrev with_parent : (ℕ → ℕ) → ℕ → ℕ → ℕ → ℕ
with_parent p m d c = cond (eqb c m) d (p c)

parent_here : (p : ℕ → ℕ) (m d c : ℕ) → c ≡ m → with_parent p m d c ≡ d
parent_here p m d c e = rw (eq-eqb c m e) refl

parent_else : (p : ℕ → ℕ) (m d c : ℕ) → c ≢ m → with_parent p m d c ≡ p c
parent_else p m d c n = rw (ne_eqb c m n) refl

-- the passes below m are held once; one more is held by the pass that made it
once_held : (m y t t' : ℕ) (xs : List ℕ) → OnceBelow m y t → t' + times y xs ≡ t + times y (m ∷ xs) → OnceBelow (m + 1) y t'
once_held m y t t' xs once sum = ⊎_elim
    (λ (e : y ≡ m). let b : times y (m ∷ xs) ≡ 1 + times y xs = subst (λ (z : ℕ). times y (z ∷ xs) ≡ 1 + times y xs) e (times_same y xs) in let z = once.1 in
    (let no : m ≤ y = omega arith in let h = z no in ((λ l. omega arith), λ l. absurd (omega arith))))
    (λ (ne : y ≡ m → ⊥). let b : times y (m ∷ xs) ≡ times y xs = times_other y m xs ne in let c = once.0 in let z = once.1 in
    ((λ l. (let l' : y < m = omega arith in let g = c l' in omega arith)), λ l. (let l' : m ≤ y = omega arith in let g = z l' in omega arith)))
    (cases_eq y m)

makes_one : (n callers : ℕ) (s : St) (r : ClaimRule n callers s) (id d : ℕ) (me : M) → get_elem? s.views id ≡ some me.0 → 0 < times d me.0.bits → r.made < callers
    → ClaimRule n callers (stepped s (r.made + 1) 1 id me.1 (numbered me.0 r.made) keeps)
makes_one n callers s r id d me at has room =
    let b : ℕ = r.made in let v = me.0 in let w = numbered v b in
    let mine = r.each_pass id v at in
    let lt : d < b = held_made n callers s r id v d at has in
    let some_bits : 0 < length v.bits = has_some d v.bits has in
    let zero_same : slice_index (set s.words (b + 1) 1) 0 ≡ slice_index s.words 0 = get_or-set_other s.words (b + 1) 0 1 0 (λ e. omega arith) in
    let p' : ℕ → ℕ = with_parent r.parent b d in
    let draws = sum_set count_drawn s.views id v w at in
    record {
      made = b + 1;
      parent = p';
      wide = length-set s.words (b + 1) 1 ∙ r.wide;
      limit_fits = r.limit_fits;
      callers_fit = r.callers_fit;
      some_made = omega arith;
      made_fit = omega arith;
      drawn_once = λ y. let e = sum_set (times_drawn y) s.views id v w at in let t : sum_by (times_drawn y) (set s.views id w) ≡ sum_by (times_drawn y) s.views = omega arith in
          rw (zero_same, t) (r.drawn_once y);
      drawn = let h = r.drawn in rw zero_same (omega arith);
      counted = let o = sum_set count_overruns s.views id v w at in let h = r.counted in rw zero_same (omega arith);
      room = let e = sum_set bits_ended s.views id v w at in let m = ended_more v w v.ended refl refl (omega arith) in let h = r.room in rw zero_same (omega arith);
      set_bits = λ a l. ⊎_elim
          (λ (e : a ≡ b). ap (λ (z : ℕ). slice_index (set s.words (b + 1) 1) (z + 1)) e ∙ get_or-set_same s.words (b + 1) 1 0 (let x = r.wide in let y = r.callers_fit in omega arith))
          (λ (ne : a ≡ b → ⊥). get_or-set_other s.words (b + 1) (a + 1) 1 0 (λ e. ne (omega arith)) ∙ r.set_bits a (omega arith))
          (cases_eq a b);
      clear_bits = λ a l m. get_or-set_other s.words (b + 1) (a + 1) 1 0 (λ e. omega arith) ∙ r.clear_bits a (omega arith) m;
      held_once = λ y. once_held b y _ _ v.bits (r.held_once y) (sum_set (times_held y) s.views id v w at);
      held = let e = sum_set bits_held s.views id v w at in let h = r.held in omega arith;
      each_pass = each_set (λ j u. PassRule n (slice_index (set s.words (b + 1) 1) 0) (b + 1) u) s.views id w
          (record { idle = λ none. absurd (omega arith); past = λ e. (let g = mine.past e in rw zero_same g); seen = omega arith; limit_known = λ _. mine.limit_known some_bits; first_known = λ _. (let g = mine.first_known some_bits in let m = times_more 0 b v.made in omega arith) })
          (λ j u ne e. let f = r.each_pass j u e in record { idle = f.idle; past = λ p. (let g = f.past p in rw zero_same g); seen = (let g = f.seen in omega arith); limit_known = f.limit_known; first_known = f.first_known });
      rooted = λ c pos below. ⊎_elim
          (λ (e : c ≡ b). let h = parent_here r.parent b d c e in omega arith)
          (λ (ne : c ≡ b → ⊥). let h = parent_else r.parent b d c ne in let g = r.rooted c pos (omega arith) in omega arith)
          (cases_eq c b);
      known = λ c pos below. ⊎_elim
          (λ (e : c ≡ b). let h = parent_here r.parent b d c e in each_set (λ j u. 0 < times (p' c) u.bits → 0 < times c u.made) s.views id w
          (λ _. subst (λ (z : ℕ). 0 < times z (b ∷ v.made)) (sym e) (times_head b v.made))
          (λ j u ne there two. absurd (held_by_one n callers s r id j v u d ne at there has (subst (λ (z : ℕ). 0 < times z u.bits) h two))))
          (λ (ne : c ≡ b → ⊥). let h = parent_else r.parent b d c ne in let c_below : c < b = omega arith in let up = r.rooted c pos c_below in each_set (λ j u. 0 < times (p' c) u.bits → 0 < times c u.made) s.views id w
          (λ one. (let one' : 0 < times (r.parent c) (b ∷ v.bits) = subst (λ (z : ℕ). 0 < times z (b ∷ v.bits)) h one in let not : times (r.parent c) (b ∷ v.bits) ≡ times (r.parent c) v.bits = times_other (r.parent c) b v.bits (λ e. omega arith) in
          let g = r.known c pos c_below id v at (omega arith) in let m = times_more c b v.made in omega arith))
          (λ j u apart there one. r.known c pos c_below j u there (subst (λ (z : ℕ). 0 < times z u.bits) h one)))
          (cases_eq c b);
    }

-- the pass learns that more passes were made
learns : (n callers : ℕ) (s : St) (r : ClaimRule n callers s) (id b : ℕ) (me : M) → get_elem? s.views id ≡ some me.0 → b < r.made → ClaimRule n callers (stepped s (b + 1) 1 id me.1 (knows me.0 (b + 1)) keeps)
learns n callers s r id b me at below =
    let v = me.0 in let w = knows v (b + 1) in let mine = r.each_pass id v at in
    let same : set s.words (b + 1) 1 ≡ s.words = ap (λ (z : ℕ). set s.words (b + 1) z) (sym (r.set_bits b below)) ∙ set-get_or s.words (b + 1) 0 in
    let draws = sum_set count_drawn s.views id v w at in
    subst (λ (ws : List ℕ). ClaimRule n callers record { words = ws; homes = s.homes; views = set s.views id w }) (sym same)
    record {
      made = r.made;
      parent = r.parent;
      wide = r.wide;
      limit_fits = r.limit_fits;
      callers_fit = r.callers_fit;
      some_made = r.some_made;
      made_fit = r.made_fit;
      drawn_once = λ y. let e = sum_set (times_drawn y) s.views id v w at in let t : sum_by (times_drawn y) (set s.views id w) ≡ sum_by (times_drawn y) s.views = omega arith in rw t (r.drawn_once y);
      drawn = let h = r.drawn in omega arith;
      counted = let o = sum_set count_overruns s.views id v w at in let h = r.counted in omega arith;
      room = let e = sum_set bits_ended s.views id v w at in let m = ended_more v w v.ended refl refl (omega arith) in let h = r.room in omega arith;
      set_bits = r.set_bits;
      clear_bits = r.clear_bits;
      held_once = λ y. let e = sum_set (times_held y) s.views id v w at in let t : sum_by (times_held y) (set s.views id w) ≡ sum_by (times_held y) s.views = omega arith in rw t (r.held_once y);
      held = let e = sum_set bits_held s.views id v w at in let h = r.held in omega arith;
      each_pass = each_set (λ j u. PassRule n (slice_index s.words 0) r.made u) s.views id w
          (record { idle = mine.idle; past = mine.past; seen = (let a = mine.seen in omega arith); limit_known = mine.limit_known; first_known = mine.first_known })
          (λ j u ne e. r.each_pass j u e);
      rooted = r.rooted;
      known = λ c pos under. each_set (λ j u. 0 < times (r.parent c) u.bits → 0 < times c u.made) s.views id w (r.known c pos under id v at) (λ j u ne e. r.known c pos under j u e);
    }

pub numbers : (n callers slots id b : ℕ) (me : M) → b < callers → b ≤ me.0.seen → 0 < length me.0.bits
    → Allows (ClaimRule n callers) slots id me (b + 1) (λ x. bit_or x 1) (NumberStep (step slots (b + 1) 1 0 none) me)
numbers n callers slots id b me room seen one s r deep at wide =
    let mine = r.each_pass id me.0 at in
    ⊎_elim
    (λ (lt : b < r.made). let is : slice_index s.words (b + 1) ≡ 1 = r.set_bits b lt in let or : bit_or (slice_index s.words (b + 1)) 1 ≡ 1 = ap (λ (z : ℕ). bit_or z 1) is in (
      knows me.0 (b + 1),
      keeps,
      tt,
      subst (λ (z : ℕ). ClaimRule n callers (stepped s (b + 1) z id me.1 (knows me.0 (b + 1)) keeps)) (sym or) (learns n callers s r id b me at lt),
      ((λ e. absurd (omega arith)), (λ ne. refl), refl),
    ))
    (λ (le : r.made ≤ b). let e : r.made ≡ b = (let a = mine.seen in omega arith) in let is : slice_index s.words (b + 1) ≡ 0 = r.clear_bits b le room in let or : bit_or (slice_index s.words (b + 1)) 1 ≡ 1 = ap (λ (z : ℕ). bit_or z 1) is in (
      numbered me.0 b,
      keeps,
      tt,
      subst (λ (z : ℕ). ClaimRule n callers (stepped s (b + 1) z id me.1 (numbered me.0 b) keeps)) (sym or)
          (subst (λ (z : ℕ). ClaimRule n callers (stepped s (z + 1) 1 id me.1 (numbered me.0 z) keeps)) e (by_head (omega arith) me.0.bits refl)),
      ((λ e. ap (numbered me.0) (let x : b ≡ b + 1 - 1 = omega arith in x)), (λ ne. absurd (ne is)), refl),
    ))
    (cases_lt b r.made)
  where
    by_head : r.made < callers → (xs : List ℕ) → me.0.bits ≡ xs → ClaimRule n callers (stepped s (r.made + 1) 1 id me.1 (numbered me.0 r.made) keeps)
    by_head less [] e = absurd (let z = ap length e in omega arith)
    by_head less (d ∷ ds) e = makes_one n callers s r id d me at (subst (λ (l : List ℕ). 0 < times d l) (sym e) (times_head d ds)) less
