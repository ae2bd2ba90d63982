-- What a pass says of the word when it ends.
use Rattle.std.proofs.Common.{◌≡◌, ◌≢◌, ℕ, zero, suc, ◌+◌, ◌<◌, ◌≤◌, true, List, [], ◌∷◌, length, min, sym, refl, ap, ◌∙◌, subst, ⊎_elim, arith}
use Rattle.std.specs.Prelude.{slice_index}
use Rattle.std.proofs.lemmas.Bool.{cases_lt}
use mathlib.Core.Option.{some, some-injective, some-ne-none}
use lib.ListN.{get_elem?}
use Rattle.atomic_table.specs.Table.{Seen, Final}
use Rattle.claim_word.specs.declared.view.Draws.{Draws}
use Rattle.claim_word.specs.Counting.{times, EachOnceBelow}
use Rattle.claim_word.specs.Views.{HoldsAll}
use Rattle.claim_word.specs.Rule.{times_drawn, count_drawn, count_overruns, bits_held, bits_ended, ClaimRule}
use Rattle.claim_word.proofs.Tallies.{sum_at, sum_only, sum_le}
use Rattle.claim_word.proofs.Views.{St, bits_ended_le, times_head, held_made, held_by_one}

-- who holds each pass that it knows of holds each that was made: the k first ones, by induction on k
holds_each : (n callers : ℕ) (s : St) (r : ClaimRule n callers s) (id : ℕ) (v : Draws) → get_elem? s.views id ≡ some v → 0 < length v.bits → HoldsAll v → (k c : ℕ) → c < k → c < r.made → 0 < times c v.bits
holds_each n callers s r id v at some_bits all zero c lt made = absurd (omega arith)
holds_each n callers s r id v at some_bits all (suc k) c lt made = ⊎_elim
    (λ (pos : 0 < c). all c (r.known c pos made id v at (let up = r.rooted c pos made in holds_each n callers s r id v at some_bits all k (r.parent c) (omega arith) (omega arith))))
    (λ (no : c ≤ 0). let e : 0 ≡ c = omega arith in subst (λ (z : ℕ). 0 < times z v.bits) e (all 0 ((r.each_pass id v at).first_known some_bits)))
    (cases_lt 0 c)

-- no other pass holds any
others_hold_none : (n callers : ℕ) (s : St) (r : ClaimRule n callers s) (id : ℕ) (v : Draws) → get_elem? s.views id ≡ some v → 0 < length v.bits → HoldsAll v
    → (j : ℕ) (u : Draws) → j ≢ id → get_elem? s.views j ≡ some u → length u.bits ≡ 0
others_hold_none n callers s r id v at some_bits all j u ne there = no_bits u.bits refl
  where
    no_bits : (xs : List ℕ) → u.bits ≡ xs → length u.bits ≡ 0
    no_bits [] e = ap length e
    no_bits (d ∷ ds) e =
        let has : 0 < times d u.bits = subst (λ (l : List ℕ). 0 < times d l) (sym e) (times_head d ds) in
        let below = held_made n callers s r j u d there has in
        absurd (held_by_one n callers s r id j v u d ne at there (holds_each n callers s r id v at some_bits all (suc d) d (omega arith) below) has)

others_idle : (n callers : ℕ) (s : St) (r : ClaimRule n callers s) (id : ℕ) (v : Draws) → get_elem? s.views id ≡ some v → 0 < length v.bits → HoldsAll v
    → (j : ℕ) (u : Draws) → j ≢ id → get_elem? s.views j ≡ some u → (u.numbers ≡ []) × (u.overruns ≡ 0)
others_idle n callers s r id v at some_bits all j u ne there = (r.each_pass j u there).idle (others_hold_none n callers s r id v at some_bits all j u ne there)

-- so it has drawn all that was drawn
has_drawn_all : (n callers : ℕ) (s : St) (r : ClaimRule n callers s) (id : ℕ) (v : Draws) → get_elem? s.views id ≡ some v → 0 < length v.bits → HoldsAll v → EachOnceBelow (min (slice_index s.words 0) n) v.numbers
has_drawn_all n callers s r id v at some_bits all y =
    rw (sym (sum_only (times_drawn y) s.views id v at (λ j u ne there. ap (times y) (others_idle n callers s r id v at some_bits all j u ne there).0))) (r.drawn_once y)

-- and taken each step on the word
has_taken_all : (n callers : ℕ) (s : St) (r : ClaimRule n callers s) (id : ℕ) (v : Draws) → get_elem? s.views id ≡ some v → 0 < length v.bits → HoldsAll v → slice_index s.words 0 ≡ length v.numbers + v.overruns
has_taken_all n callers s r id v at some_bits all =
    let d = sum_only count_drawn s.views id v at (λ j u ne there. ap length (others_idle n callers s r id v at some_bits all j u ne there).0) in
    let o = sum_only count_overruns s.views id v at (λ j u ne there. (others_idle n callers s r id v at some_bits all j u ne there).1) in
    let h = r.counted in omega arith

-- and its bits are all that were set
holds_all_made : (n callers : ℕ) (s : St) (r : ClaimRule n callers s) (id : ℕ) (v : Draws) → get_elem? s.views id ≡ some v → 0 < length v.bits → HoldsAll v → length v.bits ≡ r.made
holds_all_made n callers s r id v at some_bits all =
    let b = sum_only bits_held s.views id v at (λ j u ne there. others_hold_none n callers s r id v at some_bits all j u ne there) in
    let h = r.held in omega arith

first_word : (ws : List ℕ) (k : ℕ) → get_elem? ws 0 ≡ some k → slice_index ws 0 ≡ k
first_word [] k e = absurd (some-ne-none k (sym e))
first_word (w ∷ ws) k e = some-injective w k e

-- what a pass says of the last word
pub record Closed (n callers word : ℕ) (v : Draws) : Type 0 where
  pub drawn : HoldsAll v → EachOnceBelow (min word n) v.numbers
  pub all : HoldsAll v → word ≡ length v.numbers + v.overruns
  pub seen : HoldsAll v → v.seen ≤ length v.bits
  pub few : HoldsAll v → length v.bits ≤ callers
  pub ended : v.ended ≡ true → n ≤ word
  pub least : length v.numbers + v.overruns ≤ word
  pub most : word ≤ n + callers

pub closes : (key : ℕ × ℕ) (n callers id : ℕ) (v : Draws) (ws : List ℕ) (xs : List (Unit {0})) (word : ℕ) → key ≡ (n, callers) → Final (Seen (ClaimRule key.0 key.1) id v) ws xs → get_elem? ws 0 ≡ some word → 0 < length v.bits → Closed n callers word v
closes key n callers id v ws xs word is_key final at some_bits =
    let s = final.0 in let here = final.1.1 in
    let r : ClaimRule n callers s = subst (λ (k : ℕ × ℕ). ClaimRule k.0 k.1 s) is_key final.1.0 in
    let is : slice_index s.words 0 ≡ word = ap (λ (l : List ℕ). slice_index l 0) final.2 ∙ first_word ws word at in
    record {
      drawn = λ holds. subst (λ (z : ℕ). EachOnceBelow (min z n) v.numbers) is (has_drawn_all n callers s r id v here some_bits holds);
      all = λ holds. sym is ∙ has_taken_all n callers s r id v here some_bits holds;
      seen = λ holds. (let m = holds_all_made n callers s r id v here some_bits holds in let a = (r.each_pass id v here).seen in omega arith);
      few = λ holds. (let m = holds_all_made n callers s r id v here some_bits holds in let b = r.made_fit in omega arith);
      ended = λ e. (let p = (r.each_pass id v here).past e in omega arith);
      least = let d = sum_at count_drawn s.views id v here in let o = sum_at count_overruns s.views id v here in let h = r.counted in omega arith;
      most = let le = sum_le bits_ended bits_held s.views bits_ended_le in let a = r.room in let b = r.held in let c = r.made_fit in omega arith;
    }
