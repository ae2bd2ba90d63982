-- A word at 0 with its first pass keeps the rule.
use Rattle.std.proofs.Common.{◌≡◌, ℕ, zero, suc, ◌+◌, ◌^◌, ◌<◌, ◌≤◌, true≢false, List, [], ◌∷◌, length, set, replicate, sym, refl, ◌∙◌, subst, arith, get_or-set_other}
use Rattle.std.specs.Prelude.{slice_index}
use mathlib.Core.Option.{some, some-injective, some-ne-none}
use lib.ListN.{get_elem?}
use Rattle.atomic_table.specs.Table.{opening}
use Rattle.claim_word.specs.declared.view.Draws.{Draws}
use Rattle.claim_word.specs.Views.{opening_draws}
use Rattle.claim_word.specs.Rule.{PassRule, ClaimRule}
use Rattle.claim_word.proofs.Tallies.{times_other}

pub begins : (n callers : ℕ) (words : List ℕ) → n < 2 ^ 32 → 0 < callers → callers ≤ 65 → length words ≡ 66 → slice_index words 0 ≡ 0 → slice_index words 1 ≡ 1 → ((b : ℕ) → 1 ≤ b → slice_index words (b + 1) ≡ 0)
    → ClaimRule n callers (opening words [] (opening_draws n))
begins n callers words small any few wide zero_at one_at rest = record {
  made = 1;
  parent = λ c. 0;
  wide = wide;
  limit_fits = small;
  callers_fit = few;
  some_made = omega arith;
  made_fit = omega arith;
  drawn_once = λ y. rw zero_at ((λ l. absurd (omega arith)), λ l. refl);
  drawn = rw zero_at (omega arith);
  counted = rw zero_at refl;
  room = rw zero_at (omega arith);
  set_bits = λ b l. let e : b ≡ 0 = omega arith in rw e one_at;
  clear_bits = λ b l m. rest b l;
  held_once = λ b. ((λ l. let e : b ≡ 0 = omega arith in rw e refl), λ l. let t = times_other b 0 [] (λ e. omega arith) in omega arith);
  held = refl;
  each_pass = alone;
  rooted = λ c pos below. absurd (omega arith);
  known = λ c pos below. absurd (omega arith);
}
  where
    fits : PassRule n (slice_index words 0) 1 (opening_draws n)
    fits = record { idle = λ none. absurd (omega arith); past = λ e. absurd (true≢false (sym e)); seen = omega arith; limit_known = λ _. refl; first_known = λ _. omega arith }

    alone : (j : ℕ) (v : Draws) → get_elem? (opening_draws n ∷ []) j ≡ some v → PassRule n (slice_index words 0) 1 v
    alone zero v e = subst (PassRule n (slice_index words 0) 1) (some-injective _ _ e) fits
    alone (suc j) v e = absurd (some-ne-none v (sym e))

zeros : (n i : ℕ) → slice_index (replicate n 0) i ≡ 0
zeros zero i = refl
zeros (suc n) zero = refl
zeros (suc n) (suc i) = zeros n i

pub only_first : (b : ℕ) → 1 ≤ b → slice_index (set (replicate 66 0) 1 1) (b + 1) ≡ 0
only_first b l = get_or-set_other (replicate 66 0) 1 (b + 1) 1 0 (λ e. omega arith) ∙ zeros 66 (b + 1)
