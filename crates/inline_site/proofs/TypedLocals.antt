-- The type of a local, by where it is defined.
use Rattle.std.proofs.Common.{◌≡◌, ℕ, zero, suc, ◌≤◌, nat_eq, Bool, true, false, List, [], ◌∷◌, ◌++◌, Option, Some, None, map, option_map, refl, sym, ◌∙◌, ap, subst, arith, if◌then◌else◌}
use Rattle.std.specs.Prelude.{flat_map, filter_map}
use Rattle.std.specs.List.{cons_option}
use Rattle.std.proofs.lemmas.Bool.{eqb-true, eq-eqb}
use Rattle.std.proofs.lemmas.List.{map-append}
use Rattle.std.proofs.lemmas.Option.{some_pair_parts}
use Rattle.ir_tree.specs.Flow.{definitions, holds, locals, parameters, results}
use Rattle.ir_tree.specs.Rules.{Typing, block_typings, line_typing, result_type, type_of, typing, typings}
use Rattle.ir_tree.specs.declared.block.Block.{Block}
use Rattle.ir_tree.specs.declared.function.Function.{Function}
use Rattle.ir_tree.specs.declared.function.Param.{Param}
use Rattle.ir_tree.specs.declared.instr.Line.{Line}
use Rattle.ir_tree.specs.declared.instr.Phi.{Phi}
use Rattle.ir_tree.specs.declared.operand.Operand.TheVariants as operand
use Rattle.ir_tree.specs.declared.operand.Reg.{Reg}
use Rattle.ir_edit.proofs.Tally.{tally, tally_same}
use Rattle.inline_site.proofs.Elements.{In, in_mapped}
use Rattle.inline_site.proofs.Numbered.{holds_in, in_tally}

abbrev pub name_of : Typing → ℕ
name_of t = t.0

abbrev pub typed_phi : Phi → Typing
typed_phi p = (p.local, Some p.reg)

abbrev pub typed_param : Param → Typing
typed_param p = (p.local, Some p.reg)

abbrev pub HasTyping : ℕ → Reg → List Typing → Type 0
HasTyping y r ts = In {X = Typing} (y, Some r) ts

-- ---- in a list of typings

pub found : (ts : List Typing) (y : ℕ) (r : Reg) → typing ts y ≡ Some r → HasTyping y r ts
found [] y r e = absurd cc
found (t ∷ ts) y r e = by (nat_eq t.0 y) refl e (found ts y r)
  where
    further : HasTyping y r ts → HasTyping y r (t ∷ ts)
    further (k, at) = (suc k, at)

    by : (b : Bool) → nat_eq t.0 y ≡ b → (if b then t.1 else typing ts y) ≡ Some r → (typing ts y ≡ Some r → HasTyping y r ts) → HasTyping y r (t ∷ ts)
    by true is e more = (0, (λ i. Some (eqb-true t.0 y is i, e i)))
    by false is e more = further (more e)

typing_is : (ts : List Typing) (y : ℕ) (r : Reg) → tally y (map name_of ts) ≤ 1 → HasTyping y r ts → typing ts y ≡ Some r
typing_is [] y r once (i, e) = absurd cc
typing_is (t ∷ ts) y r once (zero, e) =
    let parts : (t.0 ≡ y) × (t.1 ≡ Some r) = some_pair_parts t.0 y t.1 (Some r) e in
    ap (λ (b : Bool). if b then t.1 else typing ts y) (eq-eqb t.0 y parts.0) ∙ parts.1
typing_is (t ∷ ts) y r once (suc i, e) = by (nat_eq t.0 y) refl (λ most. typing_is ts y r most (i, e))
  where
    again : 1 ≤ tally y (map name_of ts)
    again = in_tally y (map name_of ts) (in_mapped {X = Typing} name_of (y, Some r) ts (i, e))

    by : (b : Bool) → nat_eq t.0 y ≡ b → (tally y (map name_of ts) ≤ 1 → typing ts y ≡ Some r) → (if b then t.1 else typing ts y) ≡ Some r
    by true is more = let one : 1 ≤ (if nat_eq y t.0 then 1 else 0) = tally_same y t.0 (sym (eqb-true t.0 y is)) in absurd (omega (arith, one, again, once))
    by false is more = more (omega (arith, once))

-- ---- the names of a function's typings are its locals

phi_names : (ps : List Phi) → map name_of (map typed_phi ps) ≡ map (λ p. p.local) ps
phi_names [] = refl
phi_names (p ∷ ps) = ap (λ (l : List ℕ). p.local ∷ l) (phi_names ps)

param_names : (ps : List Param) → map name_of (map typed_param ps) ≡ map (λ p. p.local) ps
param_names [] = refl
param_names (p ∷ ps) = ap (λ (l : List ℕ). p.local ∷ l) (param_names ps)

line_names : (ls : List Line) → map name_of (filter_map line_typing ls) ≡ results ls
line_names [] = refl
line_names (l ∷ ls) = by l.local ∙ ap (cons_option l.local) (line_names ls)
  where
    by : (o : Option ℕ) → map name_of (cons_option (option_map {U = Typing} (λ x. (x, result_type l.instr)) o) (filter_map line_typing ls)) ≡ cons_option o (map name_of (filter_map line_typing ls))
    by None = refl
    by (Some x) = refl

block_names : (b : Block) → map name_of (block_typings b) ≡ definitions b
block_names b = map-append name_of (map typed_phi b.phis) (filter_map line_typing b.lines) ∙ (λ i. phi_names b.phis i ++ line_names b.lines i)

blocks_names : (bs : List Block) → map name_of (flat_map block_typings bs) ≡ flat_map definitions bs
blocks_names [] = refl
blocks_names (b ∷ bs) = map-append name_of (block_typings b) (flat_map block_typings bs) ∙ (λ i. block_names b i ++ blocks_names bs i)

names_are : (h : Function) → map name_of (typings h) ≡ locals h
names_are h = map-append name_of (map typed_param h.params) (flat_map block_typings h.blocks) ∙ (λ i. param_names h.params i ++ blocks_names h.blocks i)

-- ---- of a function

pub type_found : (h : Function) (y : ℕ) (r : Reg) → type_of h (operand.Local y) ≡ Some r → HasTyping y r (typings h)
type_found h y r e = found (typings h) y r e

pub type_is : (h : Function) → ((x : ℕ) → tally x (locals h) ≤ 1) → (y : ℕ) (r : Reg) → HasTyping y r (typings h) → type_of h (operand.Local y) ≡ Some r
type_is h once y r there = typing_is (typings h) y r (subst (λ (l : List ℕ). tally y l ≤ 1) (sym (names_are h)) (once y)) there

pub local_in : (h : Function) (y : ℕ) (r : Reg) → HasTyping y r (typings h) → In y (locals h)
local_in h y r there = subst (λ (l : List ℕ). In y l) (names_are h) (in_mapped {X = Typing} name_of (y, Some r) (typings h) there)

-- a local that a block defines
pub defined_typed : (b : Block) (y : ℕ) (r : Reg) → HasTyping y r (block_typings b) → holds (definitions b) y ≡ true
defined_typed b y r there = holds_in y (definitions b) (subst (λ (l : List ℕ). In y l) (block_names b) (in_mapped {X = Typing} name_of (y, Some r) (block_typings b) there))

-- a parameter
pub param_holds : (h : Function) (y : ℕ) (r : Reg) → HasTyping y r (map typed_param h.params) → holds (parameters h) y ≡ true
param_holds h y r there = holds_in y (parameters h) (subst (λ (l : List ℕ). In y l) (param_names h.params) (in_mapped {X = Typing} name_of (y, Some r) (map typed_param h.params) there))
