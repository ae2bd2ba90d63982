-- Comparison of pointers by their bases.
use Rattle.std.proofs.Common.{◌≡◌, ◌≢◌, ℕ, Bool, true, false, ◌&&◌, nat_eq, if◌then◌else◌, List, Some, refl, sym, ap, ◌∙◌, eqb-true}
use Rattle.ir_tree.specs.declared.operand.Symbol.{Symbol}
use Rattle.ir_meaning.specs.Memory.{Memory as MeantMemory}
use Rattle.ir_meaning.specs.Pointers.{apart_equal, is_inside, settled_equal, settled_order, unequal_if}
use Rattle.ir_tree.specs.Symbols.{symbol_eq}
use Rattle.ir_meaning.specs.declared.value.Base.TheVariants.{Cell, Code}
use Rattle.ir_machine.specs.Meant.{base_meant, symbol_at}
use Rattle.ir_machine.specs.declared.scalar.Base.{Base}
use Rattle.ir_tree.proofs.Symbols.{symbol_self}

pub at_bases : (names : List Symbol) (memory : MeantMemory) (x y x' y' : Base) (i j : ℕ) → x ≡ x' → y ≡ y' →
    settled_equal memory (base_meant names x') i (base_meant names y') j ≡ settled_equal memory (base_meant names x) i (base_meant names y) j
at_bases names memory x y x' y' i j e f =
    ap (λ (b : Base). settled_equal memory (base_meant names b) i (base_meant names y') j) (sym e)
    ∙ ap (λ (b : Base). settled_equal memory (base_meant names x) i (base_meant names b) j) (sym f)

pub ordered_at : (names : List Symbol) (memory : MeantMemory) (order : ℕ → ℕ → Bool) (x y x' y' : Base) (i j : ℕ) → x ≡ x' → y ≡ y' →
    settled_order memory order (base_meant names x) i (base_meant names y) j ≡ settled_order memory order (base_meant names x') i (base_meant names y') j
ordered_at names memory order x y x' y' i j e f =
    ap (λ (b : Base). settled_order memory order (base_meant names b) i (base_meant names y) j) e
    ∙ ap (λ (b : Base). settled_order memory order (base_meant names x') i (base_meant names b) j) f

not_same : (l m : ℕ) → l ≢ m → nat_eq l m ≡ false
not_same l m h = by (nat_eq l m) refl where
  by : (v : Bool) → nat_eq l m ≡ v → nat_eq l m ≡ false
  by false e = e
  by true e = absurd (h (eqb-true l m e))

pub blocks_apart : (memory : MeantMemory) (l m i j : ℕ) → l ≢ m →
    settled_equal memory (Cell l) i (Cell m) j ≡ unequal_if (is_inside memory l i && is_inside memory m j)
blocks_apart memory l m i j h =
    ap (λ (b : Bool). if b then Some (nat_eq i j) else unequal_if (is_inside memory l i && is_inside memory m j)) (not_same l m h)

pub one_function : (names : List Symbol) (memory : MeantMemory) (f g i j : ℕ) → f ≡ g →
    Some (nat_eq i j) ≡ settled_equal memory (Code (symbol_at names f)) i (Code (symbol_at names g)) j
one_function names memory f g i j e =
    sym (ap (λ (b : Bool). if b then Some (nat_eq i j) else apart_equal memory (Code (symbol_at names f)) i (Code (symbol_at names g)) j)
    (ap (λ (n : ℕ). symbol_eq (symbol_at names f) (symbol_at names n)) (sym e) ∙ symbol_self (symbol_at names f)))
