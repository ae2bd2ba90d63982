-- Symbols are one exactly where they are equal.
use Rattle.std.proofs.Common.{◌≡◌, ℕ, true, Option, Some, None, nat_eq, refl, ap, subst}
use Rattle.std.proofs.lemmas.Slice.Eq.{bytes_eq-Decides}
use Rattle.std.specs.Cmp.{IsEquivalence, and_equiv, on_equiv, nat_eq_equiv, first_so, second_so, unsigned_Decides}
use Rattle.std.specs.Cmp.Lexicographic.{nat_list_eq_equiv, options_equiv}
use Rattle.std.specs.Option.{option_eq}
use Rattle.std.specs.Str.{bytes_eq}
use Rattle.ir_tree.specs.Symbols.{symbol_eq}
use Rattle.ir_tree.specs.declared.operand.Symbol.{Symbol}

pub symbol_laws : IsEquivalence symbol_eq
symbol_laws = and_equiv (on_equiv (λ (s : Symbol). s.home) (options_equiv nat_eq_equiv)) (on_equiv (λ (s : Symbol). s.name) nat_list_eq_equiv)

homes : (a b : Option ℕ) → option_eq nat_eq a b ≡ true → a ≡ b
homes None None h = refl
homes (Some m) (Some n) h = ap (λ (k : ℕ). Some k) ((unsigned_Decides m n).0 h)
homes None (Some n) h = absurd (cc h)
homes (Some m) None h = absurd (cc h)

pub symbol_true : (s t : Symbol) → symbol_eq s t ≡ true → s ≡ t
symbol_true s t h =
    λ i. record {
      home = homes s.home t.home (first_so (option_eq nat_eq s.home t.home) (bytes_eq s.name t.name) h) i;
      name = (bytes_eq-Decides s.name t.name).0 (second_so (option_eq nat_eq s.home t.home) (bytes_eq s.name t.name) h) i;
    }

pub symbol_self : (s : Symbol) → symbol_eq s s ≡ true
symbol_self s = symbol_laws.refl s

pub symbol_same : (s t : Symbol) → s ≡ t → symbol_eq s t ≡ true
symbol_same s t e = subst (λ (x : Symbol). symbol_eq s x ≡ true) e (symbol_self s)
