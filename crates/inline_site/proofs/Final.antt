-- The final numbers: those of the caller as they are, and those that the law of inlining gives the copy in the order of the text.
use Rattle.std.proofs.Common.{◌≡◌, ℕ, ◌+◌, ◌-◌, ◌<◌, ◌≤◌, ◌⊎◌, inl, inr, nat_lt, Bool, true, false, refl, sym, ◌∙◌, ap, arith, if◌then◌else◌}
use Rattle.std.proofs.lemmas.Bool.Decides.{nat_tests}
use Rattle.ir_tree.specs.declared.function.Function.{Function}
use Rattle.ir_meaning.specs.Renumber.{IsOneToOne}
use Rattle.inline_site.specs.Copies.{copied_number}
use Rattle.inline_site.proofs.Copied.{copied_apart}

abbrev pub final_number : ℕ → Function → ℕ → ℕ
final_number free callee n = if nat_lt n free then n else copied_number free callee (n - free)

pub less : (n free : ℕ) → n < free → nat_lt n free ≡ true
less n free h = grind (arith, nat_tests)

pub not_less : (n free : ℕ) → free ≤ n → nat_lt n free ≡ false
not_less n free h = grind (arith, nat_tests)

pub sides : (n free : ℕ) → (n < free) ⊎ (free ≤ n)
sides n free = by (nat_lt n free) refl
  where
    yes' : (n free : ℕ) → nat_lt n free ≡ true → n < free
    yes' n free h = grind (arith, nat_tests)

    no' : (n free : ℕ) → nat_lt n free ≡ false → free ≤ n
    no' n free h = grind (arith, nat_tests)

    by : (b : Bool) → nat_lt n free ≡ b → (n < free) ⊎ (free ≤ n)
    by true h = inl (yes' n free h)
    by false h = inr (no' n free h)

pub stays : (free : ℕ) (callee : Function) (n : ℕ) → n < free → final_number free callee n ≡ n
stays free callee n h = ap (λ (b : Bool). if b then n else copied_number free callee (n - free)) (less n free h)

goes : (free : ℕ) (callee : Function) (n : ℕ) → free ≤ n → final_number free callee n ≡ copied_number free callee (n - free)
goes free callee n h = ap (λ (b : Bool). if b then n else copied_number free callee (n - free)) (not_less n free h)

pub shifts : (free : ℕ) (callee : Function) (x : ℕ) → final_number free callee (x + free) ≡ copied_number free callee x
shifts free callee x = let same : (x + free) - free ≡ x = omega arith in goes free callee (x + free) (omega arith) ∙ ap (copied_number free callee) same

past : (free : ℕ) (callee : Function) (x : ℕ) → free ≤ copied_number free callee x
past free callee x = omega arith

pub final_apart : (free : ℕ) (callee : Function) → IsOneToOne (final_number free callee)
final_apart free callee x y e = by (sides x free) (sides y free)
  where
    by : (x < free) ⊎ (free ≤ x) → (y < free) ⊎ (free ≤ y) → x ≡ y
    by (inl a) (inl b) = sym (stays free callee x a) ∙ e ∙ stays free callee y b
    by (inl a) (inr b) =
        let is : x ≡ copied_number free callee (y - free) = sym (stays free callee x a) ∙ e ∙ goes free callee y b in
        let more : free ≤ copied_number free callee (y - free) = past free callee (y - free) in
        absurd (omega (arith, a, is, more))
    by (inr a) (inl b) =
        let is : y ≡ copied_number free callee (x - free) = sym (stays free callee y b) ∙ sym e ∙ goes free callee x a in
        let more : free ≤ copied_number free callee (x - free) = past free callee (x - free) in
        absurd (omega (arith, b, is, more))
    by (inr a) (inr b) =
        let is : x - free ≡ y - free = copied_apart free callee (x - free) (y - free) (sym (goes free callee x a) ∙ e ∙ goes free callee y b) in
        omega (arith, a, b, is)
