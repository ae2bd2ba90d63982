-- A function among global values that may be inlined is the program's own.
use Rattle.std.proofs.Common.{◌≡◌, ◌≢◌, ◌∙◌, ℕ, zero, suc, Bool, true, false, if◌then◌else◌, List, [], ◌∷◌, Option, Some, None, option_map, refl, ap, sym}
use Rattle.std.specs.Prelude.{slice_get}
use Rattle.std.proofs.lemmas.Option.{slice_get-map}
use Rattle.ir_tree.specs.Formed.{Distinct}
use Rattle.ir_tree.specs.Wholes.{global_symbol, symbols}
use Rattle.ir_tree.specs.declared.block.Block.{Block}
use Rattle.ir_tree.specs.declared.function.Function.{Function}
use Rattle.ir_tree.specs.declared.function.Param.{Param}
use Rattle.ir_tree.specs.declared.module.GlobalValue.{GlobalValue}
use Rattle.ir_tree.specs.declared.module.GlobalValue.TheVariants as global
use Rattle.ir_tree.specs.declared.operand.Reg.{Reg}
use Rattle.ir_tree.specs.declared.operand.Symbol.{Symbol}
use Rattle.ir_meaning.specs.Frame.{AFunction}
use Rattle.ir_tree.specs.Symbols.{symbol_eq}
use Rattle.ir_tree.proofs.Symbols.{symbol_same, symbol_true}
use Rattle.ir_meaning.specs.Programs.{Body, Definition, behind, body_of, code_of, defined, defined_blocks, definition_from, definition_of, is_declared, kind_of, or_else, program_of, regs_of, symbol_of}
use Rattle.std.specs.Prelude.{◌&&◌, not, nat_le}
use Rattle.std.proofs.lemmas.Bool.{and_parts}
use Rattle.ir_tree.specs.Linkages.{defines, is_replaceable}
use Rattle.ir_tree.specs.Types.{param_types}
use Rattle.inline_site.specs.Laws.{IsOwn}
use Rattle.back_end.specs.Inlinable.{calls, count, has_blocks, may_inline}
use Rattle.back_end.proofs.Offered.{has_body}

same_symbol : (g : GlobalValue) → symbol_of g ≡ global_symbol g
same_symbol (global.Function f) = refl
same_symbol (global.Variable v) = refl

bodied : (bs : List Block) (c : Function) → bs ≢ [] → body_of bs c ≡ Some (Body c)
bodied [] c some = absurd (some refl)
bodied (b ∷ bs) c some = refl

-- ---- the definition of a symbol that stands once

-- a function with a body that defines its symbol
abbrev Defines : Function → Type 0
Defines c = (c.blocks ≢ []) × (defines c.linkage ≡ true)

defined_body : (c : Function) → Defines c → body_of (defined_blocks c) c ≡ Some (Body c)
defined_body c some = ap (λ (b : Bool). body_of (if b then c.blocks else []) c) some.1 ∙ bodied c.blocks c some.0

first : (n : ℕ) (g : GlobalValue) (gs : List GlobalValue) (c : Function) → g ≡ global.Function c → Defines c → definition_from n (g ∷ gs) c.symbol ≡ Some (Body c)
first n g gs c is some =
    ap (λ (h : GlobalValue). definition_from n (h ∷ gs) c.symbol) is
    ∙ ap (λ (b : Bool). or_else (if b then body_of (defined_blocks c) c else None) (definition_from (behind n (body_of (defined_blocks c) c)) gs c.symbol)) (symbol_same c.symbol c.symbol refl)
    ∙ ap (λ (d : Option Definition). or_else d (definition_from (behind n (body_of (defined_blocks c) c)) gs c.symbol)) (defined_body c some)

later : (n : ℕ) (g : GlobalValue) (gs : List GlobalValue) (c : Function) → (symbol_of g ≡ c.symbol → ⊥) → definition_from n (g ∷ gs) c.symbol ≡ definition_from (behind n (defined n g)) gs c.symbol
later n g gs c other = by (symbol_eq (symbol_of g) c.symbol) refl
  where
    by : (b : Bool) → symbol_eq (symbol_of g) c.symbol ≡ b
        → or_else (if b then defined n g else None) (definition_from (behind n (defined n g)) gs c.symbol) ≡ definition_from (behind n (defined n g)) gs c.symbol
    by true e = absurd (other (symbol_true (symbol_of g) c.symbol e))
    by false e = refl

found : (gs : List GlobalValue) (n i : ℕ) (c : Function) → Distinct (symbols gs) → slice_get gs i ≡ Some (global.Function c) → Defines c → definition_from n gs c.symbol ≡ Some (Body c)
found [] n i c once here some = absurd (cc here)
found (g ∷ gs) n zero c once here some = first n g gs c (cc here) some
found (g ∷ gs) n (suc i) c once here some =
    later n g gs c other ∙ found gs (behind n (defined n g)) i c (λ j k s at there. let same : suc j ≡ suc k = once (suc j) (suc k) s at there in cc same) here some
  where
    other : symbol_of g ≡ c.symbol → ⊥
    other e =
        let there : slice_get (symbols (g ∷ gs)) (suc i) ≡ Some c.symbol = slice_get-map global_symbol gs i ∙ ap (option_map global_symbol) here in
        let clash : zero ≡ suc i = once zero (suc i) c.symbol (ap (λ (s : Symbol). Some s) (sym (same_symbol g) ∙ e)) there in
        cc clash

-- ---- the program

-- what may be inlined defines its symbol
counts : (limit : ℕ) (c : Function) → may_inline limit c ≡ true → defines c.linkage ≡ true
counts limit c may =
    let six = (and_parts (has_blocks c.blocks && defines c.linkage && not (is_replaceable c.linkage) && not c.noinline && not c.optnone && not (calls c.symbol.name c.blocks)) (nat_le (count c) limit) may).0 in
    let five = (and_parts (has_blocks c.blocks && defines c.linkage && not (is_replaceable c.linkage) && not c.noinline && not c.optnone) (not (calls c.symbol.name c.blocks)) six).0 in
    let four = (and_parts (has_blocks c.blocks && defines c.linkage && not (is_replaceable c.linkage) && not c.noinline) (not c.optnone) five).0 in
    let three = (and_parts (has_blocks c.blocks && defines c.linkage && not (is_replaceable c.linkage)) (not c.noinline) four).0 in
    let two = (and_parts (has_blocks c.blocks && defines c.linkage) (not (is_replaceable c.linkage)) three).0 in
    (and_parts (has_blocks c.blocks) (defines c.linkage) two).1

regs_are : (ps : List Param) → regs_of ps ≡ param_types ps
regs_are [] = refl
regs_are (p ∷ ps) = ap (λ (l : List Reg). p.reg ∷ l) (regs_are ps)

pub own_body : (limit : ℕ) (gs : List GlobalValue) (i : ℕ) (c : Function) → Distinct (symbols gs) → slice_get gs i ≡ Some (global.Function c) → may_inline limit c ≡ true → IsOwn (program_of gs) c
own_body limit gs i c once here may =
    let is : definition_of gs c.symbol ≡ Some (Body c) = found gs 0 i c once here (has_body limit c may, counts limit c may) in
    record { body = ap code_of is; kind = ap (kind_of (is_declared gs c.symbol) c.symbol) is ∙ ap (λ (regs : List Reg). AFunction regs c.result) (regs_are c.params) }
