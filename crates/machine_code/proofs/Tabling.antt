-- The table of symbols, as one more global is noted.
use Rattle.std.proofs.Common.{◌≡◌, ◌⊎◌, inl, inr, ℕ, zero, suc, ◌+◌, ◌<◌, ◌≤◌, Bool, true, false, if◌then◌else◌, List, [], ◌∷◌, ◌++◌, length, slice_get, Option, Some, None, refl, sym, ap, subst, ◌∙◌, arith}
use Rattle.ir_tree.proofs.Symbols.{symbol_self, symbol_true}
use Rattle.ir_tree.specs.Formed.{Distinct}
use Rattle.ir_tree.specs.Symbols.{symbol_eq}
use Rattle.ir_tree.specs.Wholes.{symbols}
use Rattle.ir_tree.specs.declared.module.GlobalValue.{GlobalValue}
use Rattle.ir_tree.specs.declared.operand.Symbol.{Symbol}
use Rattle.ir_machine.specs.declared.scalar.Base.{Base}
use Rattle.ir_meaning.specs.Programs.{Body, Definition, Storage, behind, defined, symbol_of}
use Rattle.machine_code.specs.MemoryAddresses.{base_in}
use Rattle.machine_code.specs.Tables.{IsBased, IsTable, base_at, noted, number_at}
use Rattle.machine_code.specs.declared.bases.Bases.{Bases}
use Rattle.machine_code.proofs.Naming.{one_place}

-- ---- numbers

pub no_number : (n : ℕ) (gs : List GlobalValue) → number_at n gs 0 ≡ n
no_number n [] = refl
no_number n (g ∷ gs) = refl

pub next_at : (n : ℕ) (gs : List GlobalValue) (i : ℕ) (g : GlobalValue) → slice_get gs i ≡ Some g → number_at n gs (suc i) ≡ behind (number_at n gs i) (defined (number_at n gs i) g)
next_at n [] i g e = absurd (cc e)
next_at n (h ∷ gs) zero g e = let same : h ≡ g = cc e in no_number (behind n (defined n h)) gs ∙ ap (λ (x : GlobalValue). behind n (defined n x)) same
next_at n (h ∷ gs) (suc i) g e = next_at (behind n (defined n h)) gs i g e

-- what stands behind changes no number before it
pub number_front : (n : ℕ) (gs ds : List GlobalValue) (i : ℕ) (g : GlobalValue) → slice_get gs i ≡ Some g → number_at n (gs ++ ds) i ≡ number_at n gs i
number_front n [] ds i g e = absurd (cc e)
number_front n (x ∷ gs) ds zero g e = refl
number_front n (x ∷ gs) ds (suc i) g e = number_front (behind n (defined n x)) gs ds i g e

pub few_behind : (n : ℕ) (d : Option Definition) → behind n d ≤ n + 1
few_behind n None = omega arith
few_behind n (Some (Body f)) = omega arith
few_behind n (Some (Storage k v init)) = omega arith

-- ---- the table

-- the table of the globals before an index
pub record TableTo (gs : List GlobalValue) (k : ℕ) (t : Bases) : Type 0 where
  pub found : (i : ℕ) (g : GlobalValue) → i < k → slice_get gs i ≡ Some g → base_in t (symbol_of g) ≡ base_at i (number_at 0 gs i) g
  pub only : (s : Symbol) (b : Base) → base_in t s ≡ Some b → (d : IsBased gs s b) × (d.index < k)

pub no_table : (gs : List GlobalValue) (t : Bases) → ((s : Symbol) → base_in t s ≡ None) → TableTo gs 0 t
no_table gs t h = record {
  found = λ i g l e. absurd (omega (arith, l));
  only = λ s b e. let never : None ≡ Some b = sym (h s) ∙ e in absurd (cc never);
}

pub whole_table : (gs : List GlobalValue) (k : ℕ) (t : Bases) → length gs ≤ k → TableTo gs k t → IsTable gs t
whole_table gs k t l h = record {
  found = λ i g e. h.found i g (omega (arith, below gs i g e, l)) e;
  only = λ s b e. (h.only s b e).0;
} where
  below : (xs : List GlobalValue) (i : ℕ) (g : GlobalValue) → slice_get xs i ≡ Some g → i < length xs
  below [] i g e = absurd (cc e)
  below (x ∷ xs) zero g e = omega arith
  below (x ∷ xs) (suc i) g e = omega (arith, below xs i g e)

-- a table that is told the same
pub same_table : (gs : List GlobalValue) (k : ℕ) (t t' : Bases) → ((s : Symbol) → base_in t' s ≡ base_in t s) → TableTo gs k t → TableTo gs k t'
same_table gs k t t' same h = record {
  found = λ i g l e. same (symbol_of g) ∙ h.found i g l e;
  only = λ s b e. h.only s b (sym (same s) ∙ e);
}

module _ (gs : List GlobalValue) (distinct : Distinct (symbols gs)) (k : ℕ) (g : GlobalValue) (here : slice_get gs k ≡ Some g) (t t' : Bases) (base : Option Base)
    (is : base ≡ base_at k (number_at 0 gs k) g) (more : (s : Symbol) → base_in t' s ≡ noted (symbol_of g) base s (base_in t s)) (h : TableTo gs k t) where
  -- the new one itself
  itself : (b : Option Base) → base ≡ b → (old : Option Base) → base_in t (symbol_of g) ≡ old → noted (symbol_of g) b (symbol_of g) old ≡ b
  itself (Some b) e old f = ap (λ (v : Bool). if v then Some b else old) (symbol_self (symbol_of g))
  itself None e None f = refl
  itself None e (Some b) f =
      let d = h.only (symbol_of g) b f in
      let twice : d.0.index ≡ k = one_place gs distinct d.0.index k d.0.value g d.0.there here d.0.symbol in
      absurd (omega (arith, twice, d.1))

  -- another symbol is as it was
  other : (b : Option Base) (s : Symbol) (old : Option Base) → (symbol_of g ≡ s → ⊥) → noted (symbol_of g) b s old ≡ old
  other None s old apart = refl
  other (Some b) s old apart = by (symbol_eq (symbol_of g) s) refl where
    by : (v : Bool) → symbol_eq (symbol_of g) s ≡ v → (if v then Some b else old) ≡ old
    by true e = absurd (apart (symbol_true (symbol_of g) s e))
    by false e = refl

  found : (i : ℕ) (x : GlobalValue) → i < k + 1 → slice_get gs i ≡ Some x → base_in t' (symbol_of x) ≡ base_at i (number_at 0 gs i) x
  found i x l e = by (near i k l) where
    near : (a b : ℕ) → a < b + 1 → (a ≡ b) ⊎ (a < b)
    near a b m = grind arith

    by : (i ≡ k) ⊎ (i < k) → base_in t' (symbol_of x) ≡ base_at i (number_at 0 gs i) x
    by (inl f) =
        let both : Some g ≡ Some x = sym here ∙ ap (λ (j : ℕ). slice_get gs j) (sym f) ∙ e in
        let same : g ≡ x = cc both in
        subst (λ (y : GlobalValue). base_in t' (symbol_of y) ≡ base_at i (number_at 0 gs i) y) same
        (subst (λ (j : ℕ). base_in t' (symbol_of g) ≡ base_at j (number_at 0 gs j) g) (sym f)
        (more (symbol_of g) ∙ itself base refl (base_in t (symbol_of g)) refl ∙ is))
    by (inr f) =
        more (symbol_of x)
        ∙ other base (symbol_of x) (base_in t (symbol_of x)) (λ z. let twice : k ≡ i = one_place gs distinct k i g x here e z in absurd (omega (arith, twice, f)))
        ∙ h.found i x f e

  only : (s : Symbol) (b : Base) → base_in t' s ≡ Some b → (d : IsBased gs s b) × (d.index < k + 1)
  only s b e = by base refl (sym (more s) ∙ e) where
    old : base_in t s ≡ Some b → (d : IsBased gs s b) × (d.index < k + 1)
    old f = let d = h.only s b f in (d.0, omega (arith, d.1))

    by : (c : Option Base) → base ≡ c → noted (symbol_of g) c s (base_in t s) ≡ Some b → (d : IsBased gs s b) × (d.index < k + 1)
    by None f z = old z
    by (Some c) f z = at (symbol_eq (symbol_of g) s) refl z where
      at : (v : Bool) → symbol_eq (symbol_of g) s ≡ v → (if v then Some c else base_in t s) ≡ Some b → (d : IsBased gs s b) × (d.index < k + 1)
      at true y z' = (record { index = k; value = g; there = here; symbol = symbol_true (symbol_of g) s y; base = sym is ∙ f ∙ z' }, omega arith)
      at false y z' = old z'

  pub next_table : TableTo gs (k + 1) t'
  next_table = record { found = found; only = only }
