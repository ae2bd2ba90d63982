-- Target lines that agree or differ.
use Rattle.std.proofs.Common.{◌≡◌, ◌∙◌, ◌+◌, ◌&&◌, ℕ, suc, sym, ap, subst, refl, Bool, true, false, not, cond, List, [], ◌∷◌, Some, None, slice_index_or, arith}
use Rattle.std.specs.List.{position_from}
use Rattle.std.specs.Str.{bytes_eq}
use Rattle.ir_tree.specs.declared.module.Module.{Module}
use Rattle.symbol_resolve.specs.Clashes.{Agree, Differ, differs, first_given, first_other, given_text, is_given, target_text}
use Rattle.ir_tree.specs.declared.target_line.TargetLine.{TargetLine}

abbrev given : TargetLine → Module → Bool
given line m = is_given (target_text line m)

abbrev other : TargetLine → List ℕ → Module → Bool
other line text m = differs text (target_text line m)

-- the line that is given is that of the first module that has one
given_is : (line : TargetLine) (ms : List Module) (k first : ℕ) (d : Module) → position_from (given line) k ms ≡ Some first
    → (i : ℕ) × (first ≡ k + i) × (given_text line ms ≡ target_text line (slice_index_or ms i d))
given_is line [] k first d h = absurd (cc h)
given_is line (m ∷ ms) k first d h = by (given line m) refl (given_is line ms (k + 1) first d)
  where
    by : (b : Bool) → given line m ≡ b
        → (position_from (given line) (k + 1) ms ≡ Some first → (i : ℕ) × (first ≡ (k + 1) + i) × (given_text line ms ≡ target_text line (slice_index_or ms i d)))
        → (i : ℕ) × (first ≡ k + i) × (given_text line (m ∷ ms) ≡ target_text line (slice_index_or (m ∷ ms) i d))
    by true e ih =
        let here : Some k ≡ Some first = sym (ap (λ (b : Bool). cond b (Some k) (position_from (given line) (k + 1) ms)) e) ∙ h in
        let same : k ≡ first = inside here in
        (0, omega (arith, same), ap (λ (b : Bool). cond b (target_text line m) (given_text line ms)) e)
      where
        inside : Some k ≡ Some first → k ≡ first
        inside g = cc
    by false e ih =
        let rest = ih (sym (ap (λ (b : Bool). cond b (Some k) (position_from (given line) (k + 1) ms)) e) ∙ h) in
        let later : first ≡ (k + 1) + rest.0 = rest.1 in
        (suc rest.0, omega (arith, later), ap (λ (b : Bool). cond b (target_text line m) (given_text line ms)) e ∙ rest.2)

-- where no module has the line, none has another
none_other : (line : TargetLine) (text : List ℕ) (ms : List Module) (k j : ℕ) → position_from (given line) k ms ≡ None → position_from (other line text) j ms ≡ None
none_other line text [] k j h = refl
none_other line text (m ∷ ms) k j h = by (given line m) refl (none_other line text ms (k + 1) (j + 1))
  where
    by : (b : Bool) → given line m ≡ b → (position_from (given line) (k + 1) ms ≡ None → position_from (other line text) (j + 1) ms ≡ None)
        → position_from (other line text) j (m ∷ ms) ≡ None
    by true e ih = absurd (none (sym (ap (λ (b : Bool). cond b (Some k) (position_from (given line) (k + 1) ms)) e) ∙ h))
      where
        none : Some k ≡ None → ⊥
        none g = cc
    by false e ih =
        ap (λ (b : Bool). cond (b && not (bytes_eq (target_text line m) text)) (Some j) (position_from (other line text) (j + 1) ms)) e
        ∙ ih (sym (ap (λ (b : Bool). cond b (Some k) (position_from (given line) (k + 1) ms)) e) ∙ h)

pub none_given : (line : TargetLine) (ms : List Module) → first_given line ms ≡ None → Agree line ms
none_given line ms h = none_other line (given_text line ms) ms 0 0 h

text_is : (line : TargetLine) (ms : List Module) (first : ℕ) (m : Module) → first_given line ms ≡ Some first → m ≡ slice_index_or ms first m → given_text line ms ≡ target_text line m
text_is line ms first m h is =
    let there = given_is line ms 0 first m h in
    let same : there.0 ≡ first = omega (arith, there.1) in
    there.2 ∙ ap (λ (i : ℕ). target_text line (slice_index_or ms i m)) same ∙ ap (target_text line) (sym is)

pub differ_as : (line : TargetLine) (ms : List Module) (a b a' b' : ℕ) → Differ line ms a b → a' ≡ a → b' ≡ b → Differ line ms a' b'
differ_as line ms a b a' b' d f g = subst (λ (n : ℕ). Differ line ms a' n) (sym g) (subst (λ (n : ℕ). Differ line ms n b) (sym f) d)

pub agree_then : (line : TargetLine) (ms : List Module) (first : ℕ) (m : Module) → first_given line ms ≡ Some first → m ≡ slice_index_or ms first m
    → first_other line (target_text line m) ms ≡ None → Agree line ms
agree_then line ms first m h is none = ap (λ (text : List ℕ). first_other line text ms) (text_is line ms first m h is) ∙ none

pub differ_then : (line : TargetLine) (ms : List Module) (first second : ℕ) (m : Module) → first_given line ms ≡ Some first → m ≡ slice_index_or ms first m
    → first_other line (target_text line m) ms ≡ Some second → Differ line ms first second
differ_then line ms first second m h is there = record { given = h; other = ap (λ (text : List ℕ). first_other line text ms) (text_is line ms first m h is) ∙ there }
