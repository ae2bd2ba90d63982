-- Types of locals by where they are defined.
use Rattle.std.proofs.Common.{◌≡◌, ℕ, ◌≤◌, nat_eq, Bool, true, false, List, [], ◌∷◌, ◌++◌, map, Option, Some, None, option_map, ◌⊎◌, inl, inr, refl, sym, ◌∙◌, ap, subst, arith, if◌then◌else◌}
use Rattle.std.specs.Prelude.{flat_map, filter_map}
use Rattle.std.specs.List.{cons_option}
use Rattle.std.proofs.lemmas.Bool.{eqb-true, eq-eqb}
use Rattle.ir_tree.specs.Flow.{definitions, locals, results}
use Rattle.ir_tree.specs.Rules.{Typing, block_typings, line_typing, result_type, typing, typings}
use Rattle.ir_tree.specs.declared.block.Block.{Block}
use Rattle.ir_tree.specs.declared.function.Function.{Function}
use Rattle.ir_tree.specs.declared.function.Param.{Param}
use Rattle.ir_tree.specs.declared.instr.Line.{Line}
use Rattle.ir_tree.specs.declared.instr.Phi.{Phi}
use Rattle.ir_tree.specs.declared.operand.Reg.{Reg}
use Rattle.ir_edit.proofs.Tally.{tally, tally_same}

-- the local with its type is among these
abbrev pub In : Typing → List Typing → Type 0
In t [] = ⊥
In t (u ∷ us) = (u ≡ t) ⊎ In t us

pub in_front : (t : Typing) (ts us : List Typing) → In t ts → In t (ts ++ us)
in_front t [] us h = absurd h
in_front t (x ∷ ts) us (inl e) = inl e
in_front t (x ∷ ts) us (inr h) = inr (in_front t ts us h)

pub in_back : (t : Typing) (ts us : List Typing) → In t us → In t (ts ++ us)
in_back t [] us h = h
in_back t (x ∷ ts) us h = inr (in_back t ts us h)

pub in_either : (t : Typing) (ts us : List Typing) → In t (ts ++ us) → In t ts ⊎ In t us
in_either t [] us h = inr h
in_either t (x ∷ ts) us (inl e) = inl (inl e)
in_either t (x ∷ ts) us (inr h) = by (in_either t ts us h)
  where
    by : In t ts ⊎ In t us → In t (x ∷ ts) ⊎ In t us
    by (inl g) = inl (inr g)
    by (inr g) = inr g

-- a local that has a type is among the typings
pub typed_in : (ts : List Typing) (x : ℕ) (reg : Reg) → typing ts x ≡ Some reg → In (x, Some reg) ts
typed_in [] x reg h = absurd cc
typed_in (t ∷ ts) x reg h = by (nat_eq t.0 x) refl h (typed_in ts x reg)
  where
    by : (b : Bool) → nat_eq t.0 x ≡ b → (if b then t.1 else typing ts x) ≡ Some reg → (typing ts x ≡ Some reg → In (x, Some reg) ts) → In (x, Some reg) (t ∷ ts)
    by true e g more = inl (λ i. (eqb-true t.0 x e i, g i))
    by false e g more = inr (more g)

abbrev names : List Typing → List ℕ
names ts = map (λ t. t.0) ts

in_names : (ts : List Typing) (x : ℕ) (o : Option Reg) → In (x, o) ts → 1 ≤ tally x (names ts)
in_names [] x o h = absurd h
in_names (t ∷ ts) x o (inl e) = let one : 1 ≤ (if nat_eq x t.0 then 1 else 0) = tally_same x t.0 (ap (λ (u : Typing). u.0) (sym e)) in omega (arith, one)
in_names (t ∷ ts) x o (inr h) = let more : 1 ≤ tally x (names ts) = in_names ts x o h in omega (arith, more)

-- where no local stands twice each has the type that is among them
one_type : (ts : List Typing) (x : ℕ) (o : Option Reg) → tally x (names ts) ≤ 1 → In (x, o) ts → typing ts x ≡ o
one_type [] x o once h = absurd h
one_type (t ∷ ts) x o once (inl e) =
    ap (λ (b : Bool). if b then t.1 else typing ts x) (eq-eqb t.0 x (ap (λ (u : Typing). u.0) e)) ∙ ap (λ (u : Typing). u.1) e
one_type (t ∷ ts) x o once (inr h) = by (nat_eq t.0 x) refl (one_type ts x o) (in_names ts x o h)
  where
    by : (b : Bool) → nat_eq t.0 x ≡ b → (tally x (names ts) ≤ 1 → In (x, o) ts → typing ts x ≡ o) → 1 ≤ tally x (names ts) → (if b then t.1 else typing ts x) ≡ o
    by true e more some = let one : 1 ≤ (if nat_eq x t.0 then 1 else 0) = tally_same x t.0 (sym (eqb-true t.0 x e)) in absurd (omega (arith, one, some, once))
    by false e more some = more (omega (arith, once)) h

-- ---- the names of a function's typings are its locals

names_both : (ts us : List Typing) → names (ts ++ us) ≡ names ts ++ names us
names_both [] us = refl
names_both (t ∷ ts) us = ap (λ (l : List ℕ). t.0 ∷ l) (names_both ts us)

param_names : (ps : List Param) → names (map (λ p. (p.local, Some p.reg)) ps) ≡ map (λ p. p.local) ps
param_names [] = refl
param_names (p ∷ ps) = ap (λ (l : List ℕ). p.local ∷ l) (param_names ps)

phi_names : (ps : List Phi) → names (map (λ p. (p.local, Some p.reg)) ps) ≡ map (λ p. p.local) ps
phi_names [] = refl
phi_names (p ∷ ps) = ap (λ (l : List ℕ). p.local ∷ l) (phi_names ps)

line_names : (ls : List Line) → names (filter_map line_typing ls) ≡ results ls
line_names [] = refl
line_names (l ∷ ls) = by l.local (line_names ls)
  where
    by : (o : Option ℕ) → names (filter_map line_typing ls) ≡ results ls → names (cons_option (option_map (λ x. (x, result_type l.instr)) o) (filter_map line_typing ls)) ≡ cons_option o (results ls)
    by None h = h
    by (Some x) h = ap (λ (r : List ℕ). x ∷ r) h

block_names : (bs : List Block) → names (flat_map block_typings bs) ≡ flat_map definitions bs
block_names [] = refl
block_names (b ∷ bs) =
    names_both (block_typings b) (flat_map block_typings bs)
    ∙ (λ i. (names_both (map (λ p. (p.local, Some p.reg)) b.phis) (filter_map line_typing b.lines) i) ++ block_names bs i)
    ∙ (λ i. (phi_names b.phis i ++ line_names b.lines i) ++ flat_map definitions bs)

pub all_names : (f : Function) → names (typings f) ≡ locals f
all_names f =
    names_both (map (λ p. (p.local, Some p.reg)) f.params) (flat_map block_typings f.blocks) ∙ (λ i. param_names f.params i ++ block_names f.blocks i)

pub type_is : (f : Function) (x : ℕ) (o : Option Reg) → tally x (locals f) ≤ 1 → In (x, o) (typings f) → typing (typings f) x ≡ o
type_is f x o once h = one_type (typings f) x o (subst (λ (l : List ℕ). tally x l ≤ 1) (sym (all_names f)) once) h
