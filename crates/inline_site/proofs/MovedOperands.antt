-- Operands of the caller and of the callee, as what inlining gives has them: formed, of their types, and there.
use Rattle.std.proofs.Common.{◌≡◌, ℕ, suc, ◌+◌, ◌<◌, ◌≤◌, ◌==◌, nat_eq, ◌⊎◌, inl, inr, Bool, true, false, List, [], ◌∷◌, ◌++◌, Option, Some, None, map, length, refl, sym, ◌∙◌, ap, subst, arith, if◌then◌else◌}
use Rattle.std.specs.Prelude.{All, flat_map}
use Rattle.std.proofs.lemmas.Bool.{eq-eqb, eqb-true, or_cases}
use Rattle.std.proofs.lemmas.List.Elements.{All-tail}
use Rattle.std.proofs.lemmas.Option.{get_or_from_slice_get, slice_get_within}
use Rattle.ir_tree.specs.Flow.{holds, locals, parameters}
use Rattle.ir_tree.specs.Formed.{ArgumentFormed, Formed, OperandFormed, numbers}
use Rattle.ir_tree.specs.Items.{line_item, phi_reads, reads, typed}
use Rattle.ir_tree.specs.Rules.{HasType, IsThere, IsThereAtEnd, Typing, block_typings, result_type, type_of, typings}
use Rattle.ir_tree.specs.declared.function.Function.{Function}
use Rattle.ir_tree.specs.declared.function.Param.{Param}
use Rattle.ir_tree.specs.declared.instr.Instr.{Instr}
use Rattle.ir_tree.specs.declared.operand.Argument.{Argument}
use Rattle.ir_tree.specs.declared.operand.Operand.{Operand}
use Rattle.ir_tree.specs.declared.operand.Operand.TheVariants as operand
use Rattle.ir_tree.specs.declared.operand.Reg.{Reg}
use Rattle.ir_tree.specs.declared.operand.Reg.TheVariants.{Ptr}
use Rattle.ir_tree.specs.declared.rule.Rule.TheVariants.{NotAvailable, TypeMismatch}
use Rattle.ir_tree.specs.Edited.{argument_edited}
use Rattle.ir_edit.specs.Numbered.{later_or}
use Rattle.ir_edit.specs.Substituted.{or_local, replacement}
use Rattle.ir_edit.proofs.Tally.{tally, tally_both, tally_once}
use Rattle.ir_meaning.proofs.Everywhere.{all_front}
use Rattle.inline_site.specs.Copies.{bound, first_free}
use Rattle.ir_tree.specs.Types.{argument_types, param_types}
use Rattle.inline_site.proofs.EditedItems.{IsConstant}
use Rattle.inline_site.proofs.Elements.{In, in_either, in_front, in_mapped}
use Rattle.inline_site.proofs.Fresh.{local_below, local_once, new_past}
use Rattle.inline_site.proofs.Leading.{call_line_right}
use Rattle.inline_site.proofs.MovedItems.{Given, IsRight}
use Rattle.inline_site.proofs.MovedTypes.{call_typing, callee_typed, caller_typed}
use Rattle.inline_site.proofs.Numbered.{holds_in}
use Rattle.inline_site.proofs.Places.{Goes, Inlining, Stays, inner_op, made, new, result_phi}
use Rattle.inline_site.proofs.TypedLocals.{HasTyping, local_in, param_holds, type_found, type_is, typed_param}

-- ---- constants

pub const_at : (h : Function) (i k : ℕ) (o : Operand) → IsConstant o → IsThere h i k o
const_at h i k (operand.Local x) c = absurd c
const_at h i k _ c = tt

pub const_at_end : (h : Function) (i : ℕ) (o : Operand) → IsConstant o → IsThereAtEnd h i o
const_at_end h i (operand.Local x) c = absurd c
const_at_end h i _ c = tt

formed_still : (f g : Function) (o : Operand) → IsConstant o → OperandFormed f o → OperandFormed g o
formed_still f g (operand.Local x) c h = absurd c
formed_still f g (operand.Number width bits) c h = h
formed_still f g operand.Null c h = h
formed_still f g (operand.Poison reg) c h = h
formed_still f g (operand.Symbol symbol offset) c h = h

type_still : (f g : Function) (o : Operand) → IsConstant o → type_of g o ≡ type_of f o
type_still f g (operand.Local x) c = absurd c
type_still f g (operand.Number width bits) c = refl
type_still f g operand.Null c = refl
type_still f g (operand.Poison reg) c = refl
type_still f g (operand.Symbol symbol offset) c = refl

const_given : (f g : Function) (old now : Operand → Type 0) (reg : Reg) (o new : Operand) → ((p : Operand) → IsConstant p → now p) → IsConstant o → new ≡ o → Given f old (typed reg o) → Given g now (typed reg new)
const_given f g old now reg o new constants c is h =
    subst (λ (p : Operand). Given g now (typed reg p)) (sym is) ((h.0.0, formed_still f g o c h.0.1), type_still f g o c ∙ h.1, constants o c)

-- each number once among the locals
pub locals_once : (h : Function) → Formed h → (x : ℕ) → tally x (locals h) ≤ 1
locals_once h formed x =
    let all : tally x (locals h ++ numbers h) ≤ 1 = tally_once x (locals h ++ numbers h) formed.once in
    let both : tally x (locals h ++ numbers h) ≡ tally x (locals h) + tally x (numbers h) = tally_both x (locals h) (numbers h) in
    omega (arith, all, both)

-- ---- parameters and arguments

-- a parameter's replacement is its argument
pub record IsBound (ps : List Param) (as' : List Argument) (y : ℕ) (o : Operand) : Type 0 where
  pub param : Param
  pub argument : Argument
  pub param_in : In param ps
  pub argument_in : In argument as'
  pub local : param.local ≡ y
  pub operand : argument.operand ≡ o
  pub reg : argument.reg ≡ param.reg

pub bound_some : (ps : List Param) (as' : List Argument) (y : ℕ) (o : Operand) → argument_types as' ≡ param_types ps → replacement (bound ps as') y ≡ Some o → IsBound ps as' y o
bound_some [] as' y o types e = absurd cc
bound_some (p ∷ ps) [] y o types e = absurd cc
bound_some (p ∷ ps) (a ∷ more) y o types e = by (replacement (bound ps more) y) refl e (bound_some ps more y o (cc types))
  where
    further : IsBound ps more y o → IsBound (p ∷ ps) (a ∷ more) y o
    further h = record {
      param = h.param;
      argument = h.argument;
      param_in = (suc h.param_in.0, h.param_in.1);
      argument_in = (suc h.argument_in.0, h.argument_in.1);
      local = h.local;
      operand = h.operand;
      reg = h.reg;
    }

    here : (b : Bool) → (p.local == y) ≡ b → (if b then Some a.operand else None) ≡ Some o → IsBound (p ∷ ps) (a ∷ more) y o
    here true t e = record { param = p; argument = a; param_in = (0, refl); argument_in = (0, refl); local = eqb-true p.local y t; operand = cc e; reg = cc types }
    here false t e = absurd cc

    by : (v : Option Operand) → replacement (bound ps more) y ≡ v → later_or v (if p.local == y then Some a.operand else None) ≡ Some o → (replacement (bound ps more) y ≡ Some o → IsBound ps more y o) → IsBound (p ∷ ps) (a ∷ more) y o
    by (Some w) is e rest = further (rest (is ∙ e))
    by None is e rest = here (p.local == y) refl e

bound_none : (ps : List Param) (as' : List Argument) (y : ℕ) → argument_types as' ≡ param_types ps → replacement (bound ps as') y ≡ None → holds (map (λ p. p.local) ps) y ≡ true → ⊥
bound_none [] as' y types e h = cc h
bound_none (p ∷ ps) [] y types e h = cc types
bound_none (p ∷ ps) (a ∷ more) y types e h = by (replacement (bound ps more) y) refl e (or_cases (nat_eq y p.local) (holds (map (λ p. p.local) ps) y) h) (bound_none ps more y (cc types))
  where
    by : (v : Option Operand) → replacement (bound ps more) y ≡ v → later_or v (if p.local == y then Some a.operand else None) ≡ None → (nat_eq y p.local ≡ true) ⊎ (holds (map (λ p. p.local) ps) y ≡ true)
        → (replacement (bound ps more) y ≡ None → holds (map (λ p. p.local) ps) y ≡ true → ⊥) → ⊥
    by (Some w) is e side rest = cc e
    by None is e (inl t) rest =
        let clash : Some a.operand ≡ None = ap (λ (b : Bool). if b then Some a.operand else None) (sym (eq-eqb p.local y (sym (eqb-true y p.local t)))) ∙ e in
        cc clash
    by None is e (inr t) rest = rest is t

module _ (z : Inlining) where
  -- ---- the call

  abbrev n : ℕ
  n = length z.s.front

  abbrev calls : ℕ
  calls = length z.s.before

  call_right : IsRight z.f (line_item n calls z.s.call)
  call_right = call_line_right z.f z.sound z.s z.blocks z.lines

  pub call_result : result_type z.s.call.instr ≡ z.callee.result
  call_result = ap result_type z.call.direct

  -- the arguments of the call are formed, have their types, and are there
  argument_was : (a : Argument) → In a z.arguments → Given z.f (IsThere z.f n calls) a
  argument_was a (i, at) = (at_place (ArgumentFormed z.f) formed, at_place (HasType z.f) types, at_place (λ b. IsThere z.f n calls b.operand) there)
    where
      arguments : (P : Argument → Type 0) → All P (reads z.s.call.instr) → All P z.arguments
      arguments P h = All-tail P (typed Ptr (operand.Symbol z.callee.symbol 0)) z.arguments (subst (λ (j : Instr). All P (reads j)) z.call.direct h)

      at_place : (P : Argument → Type 0) → All P z.arguments → P a
      at_place P h = subst P (get_or_from_slice_get z.arguments i a a at) (h i a (slice_get_within z.arguments i a at))

      formed : All (ArgumentFormed z.f) z.arguments
      formed = arguments (ArgumentFormed z.f) (all_front (ArgumentFormed z.f) (reads z.s.call.instr) (phi_reads z.s.call.instr) call_right.0.operands)

      types : All (HasType z.f) z.arguments
      types = arguments (HasType z.f) (all_front (HasType z.f) (reads z.s.call.instr) (phi_reads z.s.call.instr) (call_right.1 TypeMismatch).0)

      there : All (λ b. IsThere z.f n calls b.operand) z.arguments
      there = arguments (λ b. IsThere z.f n calls b.operand) (call_right.1 NotAvailable).0

  -- ---- the caller's

  pub outer_given : (old now : Operand → Type 0) → ((y : ℕ) → Stays z.op z.s.call.local (result_phi z) y → holds (locals (made z)) y ≡ true → old (operand.Local y) → now (operand.Local y))
      → ((o : Operand) → IsConstant o → now o) → (a : Argument) → Given z.f old a → Given (made z) now (argument_edited z.op a)
  outer_given old now step constants a h = by a.reg a.operand h
    where
      stays : (reg : Reg) (y : ℕ) → Given z.f old (typed reg (operand.Local y)) → Stays z.op z.s.call.local (result_phi z) y → Given (made z) now (typed reg (z.op (operand.Local y)))
      stays reg y g s =
          let has : HasTyping y reg (typings (made z)) = caller_typed z y reg s call_result (type_found z.f y reg g.1) in
          let there : holds (locals (made z)) y ≡ true = holds_in y (locals (made z)) (local_in (made z) y reg has) in
          subst (λ (o : Operand). Given (made z) now (typed reg o)) (sym s.0) ((g.0.0, there), type_is (made z) (local_once z) y reg has, step y s there g.2)

      called : (y : ℕ) (r : Reg) → z.s.call.local ≡ Some y → z.callee.result ≡ Some r → type_of z.f (operand.Local y) ≡ Some r
      called y r local result = type_is z.f (locals_once z.f z.sound.formed) y r (call_typing z y r local (call_result ∙ result))

      goes : (reg : Reg) (y : ℕ) → Given z.f old (typed reg (operand.Local y)) → Goes z.op z.s.call.local z.callee.result y → Given (made z) now (typed reg (z.op (operand.Local y)))
      goes reg y g (r, is, local, result) =
          let same : Some r ≡ Some reg = sym (called y r local result) ∙ g.1 in
          let is_reg : r ≡ reg = cc same in
          subst (λ (o : Operand). Given (made z) now (typed reg o)) (sym (is ∙ ap (λ (x : Reg). operand.Poison x) is_reg)) ((g.0.0, g.0.0), refl, constants (operand.Poison reg) tt)

      local : (reg : Reg) (y : ℕ) → Given z.f old (typed reg (operand.Local y)) → Stays z.op z.s.call.local (result_phi z) y ⊎ Goes z.op z.s.call.local z.callee.result y → Given (made z) now (typed reg (z.op (operand.Local y)))
      local reg y g (inl s) = stays reg y g s
      local reg y g (inr s) = goes reg y g s

      by : (reg : Reg) (o : Operand) → Given z.f old (typed reg o) → Given (made z) now (typed reg (z.op o))
      by reg (operand.Local y) g = local reg y g (z.locals y)
      by reg (operand.Number width bits) g = const_given z.f (made z) old now reg (operand.Number width bits) (z.op (operand.Number width bits)) constants tt (z.fixed (operand.Number width bits) tt) g
      by reg operand.Null g = const_given z.f (made z) old now reg operand.Null (z.op operand.Null) constants tt (z.fixed operand.Null tt) g
      by reg (operand.Poison r) g = const_given z.f (made z) old now reg (operand.Poison r) (z.op (operand.Poison r)) constants tt (z.fixed (operand.Poison r) tt) g
      by reg (operand.Symbol symbol offset) g = const_given z.f (made z) old now reg (operand.Symbol symbol offset) (z.op (operand.Symbol symbol offset)) constants tt (z.fixed (operand.Symbol symbol offset) tt) g

  -- ---- the callee's

  pub inner_fixed : (o : Operand) → IsConstant o → inner_op z o ≡ o
  inner_fixed (operand.Local x) c = absurd c
  inner_fixed (operand.Number width bits) c = z.fixed (operand.Number width bits) tt
  inner_fixed operand.Null c = z.fixed operand.Null tt
  inner_fixed (operand.Poison r) c = z.fixed (operand.Poison r) tt
  inner_fixed (operand.Symbol symbol offset) c = z.fixed (operand.Symbol symbol offset) tt

  -- a new number isn't the call's result
  new_stays : (y : ℕ) → z.op (operand.Local (new z y)) ≡ operand.Local (new z y)
  new_stays y = by (z.locals (new z y))
    where
      by : Stays z.op z.s.call.local (result_phi z) (new z y) ⊎ Goes z.op z.s.call.local z.callee.result (new z y) → z.op (operand.Local (new z y)) ≡ operand.Local (new z y)
      by (inl s) = s.0
      by (inr (r, is, local, result)) =
          let lt : new z y < first_free z.f = local_below z.f (new z y) (local_in z.f (new z y) r (call_typing z (new z y) r local (call_result ∙ result))) in
          let past : first_free z.f ≤ new z y = new_past z y in
          absurd (omega (arith, lt, past))

  pub inner_given : (old now : Operand → Type 0)
      → ((y : ℕ) → (holds (parameters z.callee) y ≡ true → ⊥) → holds (locals (made z)) (new z y) ≡ true → old (operand.Local y) → now (operand.Local (new z y)))
      → ((y : ℕ) → Stays z.op z.s.call.local (result_phi z) y → holds (locals (made z)) y ≡ true → IsThere z.f (length z.s.front) (length z.s.before) (operand.Local y) → now (operand.Local y))
      → ((o : Operand) → IsConstant o → now o) → (a : Argument) → Given z.callee old a → Given (made z) now (argument_edited (inner_op z) a)
  inner_given old now step outer_step constants a h = by a.reg a.operand h
    where
      bound' : (reg : Reg) (y : ℕ) (o : Operand) → Given z.callee old (typed reg (operand.Local y)) → IsBound z.callee.params z.arguments y o → Given (made z) now (typed reg (z.op o))
      bound' reg y o g b =
          let given : Given (made z) now (argument_edited z.op b.argument) = outer_given (IsThere z.f n calls) now outer_step constants b.argument (argument_was b.argument b.argument_in) in
          let typing : HasTyping b.param.local b.param.reg (typings z.callee) =
          in_front {X = Typing} (b.param.local, Some b.param.reg) (map typed_param z.callee.params) (flat_map block_typings z.callee.blocks) (in_mapped typed_param b.param z.callee.params b.param_in) in
          let has : type_of z.callee (operand.Local b.param.local) ≡ Some b.param.reg = type_is z.callee (locals_once z.callee z.sound'.formed) b.param.local b.param.reg typing in
          let same : Some b.param.reg ≡ Some reg = sym has ∙ ap (λ (x : ℕ). type_of z.callee (operand.Local x)) b.local ∙ g.1 in
          let reg_is : b.argument.reg ≡ reg = b.reg ∙ cc same in
          subst (λ (p : Operand). Given (made z) now (typed reg (z.op p))) b.operand (subst (λ (s : Reg). Given (made z) now (typed s (z.op b.argument.operand))) reg_is given)

      own : (reg : Reg) (y : ℕ) → Given z.callee old (typed reg (operand.Local y)) → (holds (parameters z.callee) y ≡ true → ⊥) → Given (made z) now (typed reg (z.op (operand.Local (new z y))))
      own reg y g none =
          let has : HasTyping (new z y) reg (typings (made z)) = callee_typed z y reg (in_blocks (in_either {X = Typing} (y, Some reg) (map typed_param z.callee.params) (flat_map block_typings z.callee.blocks) (type_found z.callee y reg g.1))) in
          let there : holds (locals (made z)) (new z y) ≡ true = holds_in (new z y) (locals (made z)) (local_in (made z) (new z y) reg has) in
          subst (λ (o : Operand). Given (made z) now (typed reg o)) (sym (new_stays y)) ((g.0.0, there), type_is (made z) (local_once z) (new z y) reg has, step y none there g.2)
        where
          in_blocks : HasTyping y reg (map typed_param z.callee.params) ⊎ HasTyping y reg (flat_map block_typings z.callee.blocks) → HasTyping y reg (flat_map block_typings z.callee.blocks)
          in_blocks (inl h) = absurd (none (param_holds z.callee y reg h))
          in_blocks (inr h) = h

      local : (reg : Reg) (y : ℕ) → Given z.callee old (typed reg (operand.Local y)) → (v : Option Operand) → replacement (bound z.callee.params z.arguments) y ≡ v → Given (made z) now (typed reg (z.op (or_local v (new z y))))
      local reg y g None is = own reg y g (bound_none z.callee.params z.arguments y z.call.typed is)
      local reg y g (Some o) is = bound' reg y o g (bound_some z.callee.params z.arguments y o z.call.typed is)

      by : (reg : Reg) (o : Operand) → Given z.callee old (typed reg o) → Given (made z) now (typed reg (inner_op z o))
      by reg (operand.Local y) g = local reg y g (replacement (bound z.callee.params z.arguments) y) refl
      by reg (operand.Number width bits) g = const_given z.callee (made z) old now reg (operand.Number width bits) (inner_op z (operand.Number width bits)) constants tt (inner_fixed (operand.Number width bits) tt) g
      by reg operand.Null g = const_given z.callee (made z) old now reg operand.Null (inner_op z operand.Null) constants tt (inner_fixed operand.Null tt) g
      by reg (operand.Poison r) g = const_given z.callee (made z) old now reg (operand.Poison r) (inner_op z (operand.Poison r)) constants tt (inner_fixed (operand.Poison r) tt) g
      by reg (operand.Symbol symbol offset) g = const_given z.callee (made z) old now reg (operand.Symbol symbol offset) (inner_op z (operand.Symbol symbol offset)) constants tt (inner_fixed (operand.Symbol symbol offset) tt) g
