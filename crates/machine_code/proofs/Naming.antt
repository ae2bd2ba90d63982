-- The symbols of a program, and what each is in it.
use Rattle.std.proofs.Common.{◌≡◌, ◌≢◌, ◌⊎◌, inl, inr, ℕ, zero, suc, ◌<◌, Bool, true, false, ◌||◌, if◌then◌else◌, List, [], ◌∷◌, length, slice_get, Option, Some, None, refl, sym, ap, ◌∙◌, arith}
use Rattle.std.proofs.lemmas.Map.Keys.{any_passes_from_place}
use Rattle.ir_tree.specs.Formed.{Distinct}
use Rattle.ir_tree.specs.Wholes.{global_symbol, symbols}
use Rattle.ir_tree.specs.declared.module.GlobalValue.{GlobalValue}
use Rattle.ir_tree.specs.declared.module.GlobalValue.TheVariants as global
use Rattle.ir_tree.specs.declared.operand.Symbol.{Symbol}
use Rattle.ir_tree.specs.Symbols.{symbol_eq}
use Rattle.ir_tree.proofs.Symbols.{symbol_same, symbol_true}
use Rattle.ir_machine.specs.Meant.{symbol_at, symbol_or_none}
use Rattle.ir_machine.specs.Names.{AreDistinct}
use Rattle.ir_meaning.specs.Programs.{Definition, behind, code_of, defined, definition_from, definition_of, is_declared, kind_of, or_else, program_of, signature_of, symbol_of}
use Rattle.machine_code.specs.Tables.{kind_at, number_at}
use Rattle.machine_code.proofs.Lists.{there}

pub same_symbol : (g : GlobalValue) → global_symbol g ≡ symbol_of g
same_symbol (global.Variable v) = refl
same_symbol (global.Function f) = refl

pub got_symbol : (gs : List GlobalValue) (i : ℕ) (g : GlobalValue) → slice_get gs i ≡ Some g → slice_get (symbols gs) i ≡ Some (symbol_of g)
got_symbol [] i g e = absurd (cc e)
got_symbol (x ∷ gs) zero g e = let same : x ≡ g = cc e in ap Some (same_symbol x ∙ ap (λ (y : GlobalValue). symbol_of y) same)
got_symbol (x ∷ gs) (suc i) g e = got_symbol gs i g e

pub symbol_got : (gs : List GlobalValue) (i : ℕ) (s : Symbol) → slice_get (symbols gs) i ≡ Some s → (g : GlobalValue) × ((slice_get gs i ≡ Some g) × (symbol_of g ≡ s))
symbol_got [] i s e = absurd (cc e)
symbol_got (x ∷ gs) zero s e = let same : global_symbol x ≡ s = cc e in (x, (refl, sym (same_symbol x) ∙ same))
symbol_got (x ∷ gs) (suc i) s e = symbol_got gs i s e

pub symbol_is : (gs : List GlobalValue) (i : ℕ) (g : GlobalValue) → slice_get gs i ≡ Some g → symbol_at (symbols gs) i ≡ symbol_of g
symbol_is gs i g e = ap (λ (o : Option Symbol). symbol_or_none o) (got_symbol gs i g e)

pub global_there : (gs : List GlobalValue) (i : ℕ) → i < length (symbols gs) → (g : GlobalValue) × (slice_get gs i ≡ Some g)
global_there gs i l = let s = there (symbols gs) i l in let g = symbol_got gs i s.0 s.1 in (g.0, g.1.0)

-- ---- where a symbol stands

abbrev pub Stands : List GlobalValue → Symbol → Type 0
Stands gs s = (i : ℕ) × ((g : GlobalValue) × ((slice_get gs i ≡ Some g) × (symbol_of g ≡ s)))

abbrev pub StandsNot : List GlobalValue → Symbol → Type 0
StandsNot gs s = (k : ℕ) (h : GlobalValue) → slice_get gs k ≡ Some h → symbol_eq (symbol_of h) s ≡ false

not_further : (g : GlobalValue) (gs : List GlobalValue) (s : Symbol) → symbol_eq (symbol_of g) s ≡ false → StandsNot gs s → StandsNot (g ∷ gs) s
not_further g gs s e none zero h f = let same : g ≡ h = cc f in ap (λ (x : GlobalValue). symbol_eq (symbol_of x) s) (sym same) ∙ e
not_further g gs s e none (suc k) h f = none k h f

pub stands : (gs : List GlobalValue) (s : Symbol) → Stands gs s ⊎ StandsNot gs s
stands [] s = inr (λ k h e. absurd (cc e))
stands (g ∷ gs) s = by (symbol_eq (symbol_of g) s) refl (stands gs s) where
  by : (b : Bool) → symbol_eq (symbol_of g) s ≡ b → Stands gs s ⊎ StandsNot gs s → Stands (g ∷ gs) s ⊎ StandsNot (g ∷ gs) s
  by true e rest = inl (0, (g, (refl, symbol_true (symbol_of g) s e)))
  by false e (inl (i, x)) = inl (suc i, x)
  by false e (inr none) = inr (not_further g gs s e none)

-- ---- each symbol stands once

pub same_record : (s u : Symbol) → s.home ≡ u.home → s.name ≡ u.name → s ≡ u
same_record s u e f = ap (λ (h : Option ℕ). record { home = h; name = s.name }) e ∙ ap (λ (n : List ℕ). record { home = u.home; name = n }) f

pub one_place : (gs : List GlobalValue) → Distinct (symbols gs) → (i j : ℕ) (g h : GlobalValue) → slice_get gs i ≡ Some g → slice_get gs j ≡ Some h → symbol_of g ≡ symbol_of h → i ≡ j
one_place gs once i j g h e f same = once i j (symbol_of g) (got_symbol gs i g e) (got_symbol gs j h f ∙ ap Some (sym same))

pub distinct_symbols : (gs : List GlobalValue) → Distinct (symbols gs) → AreDistinct (symbols gs)
distinct_symbols gs once i j l m ne = by (symbol_eq (symbol_at (symbols gs) i) (symbol_at (symbols gs) j)) refl where
  at : (k : ℕ) → k < length (symbols gs) → slice_get (symbols gs) k ≡ Some (symbol_at (symbols gs) k)
  at k b = let s = there (symbols gs) k b in s.1 ∙ ap Some (sym (ap (λ (o : Option Symbol). symbol_or_none o) s.1))

  by : (v : Bool) → symbol_eq (symbol_at (symbols gs) i) (symbol_at (symbols gs) j) ≡ v → symbol_eq (symbol_at (symbols gs) i) (symbol_at (symbols gs) j) ≡ false
  by false e = e
  by true e =
      let same = symbol_true (symbol_at (symbols gs) i) (symbol_at (symbols gs) j) e in
      absurd (ne (once i j (symbol_at (symbols gs) i) (at i l) (at j m ∙ ap Some (sym same))))

apart : (gs : List GlobalValue) → Distinct (symbols gs) → (i : ℕ) (g : GlobalValue) → slice_get gs i ≡ Some g → (k : ℕ) (h : GlobalValue) → slice_get gs k ≡ Some h → k ≢ i → symbol_eq (symbol_of h) (symbol_of g) ≡ false
apart gs once i g e k h f ne = by (symbol_eq (symbol_of h) (symbol_of g)) refl where
  by : (v : Bool) → symbol_eq (symbol_of h) (symbol_of g) ≡ v → symbol_eq (symbol_of h) (symbol_of g) ≡ false
  by false z = z
  by true z =
      let same = symbol_true (symbol_of h) (symbol_of g) z in
      absurd (ne (once k i (symbol_of h) (got_symbol gs k h f) (got_symbol gs i g e ∙ ap Some (sym same))))

-- ---- definitions

or_none : (o : Option Definition) → or_else o None ≡ o
or_none None = refl
or_none (Some d) = refl

pub none_from : (n : ℕ) (gs : List GlobalValue) (s : Symbol) → StandsNot gs s → definition_from n gs s ≡ None
none_from n [] s a = refl
none_from n (g ∷ gs) s a =
    ap (λ (b : Bool). or_else (if b then defined n g else None) (definition_from (behind n (defined n g)) gs s)) (a 0 g refl)
    ∙ none_from (behind n (defined n g)) gs s (λ k h e. a (suc k) h e)

found_from : (n : ℕ) (gs : List GlobalValue) (s : Symbol) (i : ℕ) (g : GlobalValue) → slice_get gs i ≡ Some g → symbol_of g ≡ s →
    ((k : ℕ) (h : GlobalValue) → slice_get gs k ≡ Some h → k ≢ i → symbol_eq (symbol_of h) s ≡ false) → definition_from n gs s ≡ defined (number_at n gs i) g
found_from n [] s i g e f a = absurd (cc e)
found_from n (x ∷ gs) s zero g e f a =
    let same : x ≡ g = cc e in
    ap (λ (b : Bool). or_else (if b then defined n x else None) (definition_from (behind n (defined n x)) gs s)) (symbol_same (symbol_of x) s (ap (λ (y : GlobalValue). symbol_of y) same ∙ f))
    ∙ ap (λ (o : Option Definition). or_else (defined n x) o) (none_from (behind n (defined n x)) gs s (λ k h z. a (suc k) h z (λ q. absurd (omega (arith, q)))))
    ∙ or_none (defined n x) ∙ ap (λ (y : GlobalValue). defined n y) same
found_from n (x ∷ gs) s (suc i) g e f a =
    ap (λ (b : Bool). or_else (if b then defined n x else None) (definition_from (behind n (defined n x)) gs s)) (a 0 x refl (λ q. absurd (omega (arith, q))))
    ∙ found_from (behind n (defined n x)) gs s i g e f (λ k h z ne. a (suc k) h z (λ q. ne (omega (arith, q))))

pub definition_is : (gs : List GlobalValue) → Distinct (symbols gs) → (i : ℕ) (g : GlobalValue) → slice_get gs i ≡ Some g → definition_of gs (symbol_of g) ≡ defined (number_at 0 gs i) g
definition_is gs once i g e = found_from 0 gs (symbol_of g) i g e refl (apart gs once i g e)

-- a symbol is declared where it stands, and nowhere else
declared_there : (gs : List GlobalValue) (s : Symbol) (i : ℕ) (g : GlobalValue) → slice_get gs i ≡ Some g → symbol_eq (symbol_of g) s ≡ true → is_declared gs s ≡ true
declared_there gs s i g e same = any_passes_from_place (λ (x : GlobalValue). symbol_eq (symbol_of x) s) gs i g e same

pub undeclared : (gs : List GlobalValue) (s : Symbol) → StandsNot gs s → is_declared gs s ≡ false
undeclared [] s none = refl
undeclared (g ∷ gs) s none = ap (λ (b : Bool). b || is_declared gs s) (none 0 g refl) ∙ undeclared gs s (λ k h e. none (suc k) h e)

pub kind_is : (gs : List GlobalValue) → Distinct (symbols gs) → (i : ℕ) (g : GlobalValue) → slice_get gs i ≡ Some g → (signature_of gs).kind (symbol_of g) ≡ kind_at (number_at 0 gs i) g
kind_is gs once i g e =
    ap (λ (b : Bool). kind_of b (symbol_of g) (definition_of gs (symbol_of g))) (declared_there gs (symbol_of g) i g e (symbol_same (symbol_of g) (symbol_of g) refl))
    ∙ ap (λ (d : Option Definition). kind_of true (symbol_of g) d) (definition_is gs once i g e)

pub code_is : (gs : List GlobalValue) → Distinct (symbols gs) → (i : ℕ) (g : GlobalValue) → slice_get gs i ≡ Some g → (program_of gs).code (symbol_of g) ≡ code_of (defined (number_at 0 gs i) g)
code_is gs once i g e = ap (λ (d : Option Definition). code_of d) (definition_is gs once i g e)
