-- The names of a verified module are known, where its locals are numbered along its text.
use Rattle.std.proofs.Common.{◌≡◌, Option, Some, None, List, [], ◌∷◌, subst}
use Rattle.std.specs.List.{AllByRecursion as Each}
use Rattle.std.specs.Prelude.{All, Contains}
use Rattle.std.proofs.lemmas.List.Elements.{recursion_from_All}
use Rattle.ir_tree.specs.Initials.{Initial, Initials, plain, zeros, bytes, elements, members, no_initials, initial}
use Rattle.ir_tree.specs.Wholes.{ConstantFormed, GlobalFormed, GlobalKnown, GlobalSound, IsKnown, IsVerified, all_operands, global_symbol, init_operands, initial_operands, symbols}
use Rattle.ir_tree.specs.declared.module.GlobalValue.{GlobalValue}
use Rattle.ir_tree.specs.declared.module.GlobalValue.TheVariants as globals
use Rattle.ir_tree.specs.declared.module.Module.{Module}
use Rattle.ir_tree.specs.declared.operand.Operand.{Operand}
use Rattle.ir_tree.specs.declared.operand.Operand.TheVariants as operands
use Rattle.ir_tree.specs.declared.operand.Symbol.{Symbol}
use Rattle.ir_round_trip.specs.Known.{ModuleKnown, ValueKnown}
use Rattle.ir_round_trip.specs.Numbered.{InitialBytes, InitialsBytes, InitBytes, LocalsNumbered, ModuleNumbered, StringsAreBytes}
use Rattle.ir_round_trip.proofs.Each.{front, back}
use Rattle.ir_round_trip.proofs.Sound.{function_known}
use Rattle.ir_round_trip.specs.Homeless.{IsHomeless}
use Rattle.ir_round_trip.specs.PrintedKnown.{InitialKnown, InitialsKnown, InitKnown, OperandKnown}

module _ (known : List Symbol) (homeless : All (λ (s : Symbol). s.home ≡ None) known) where
  pub at_home : (s : Symbol) → Contains known s → s.home ≡ None
  at_home s c = subst (λ (x : Symbol). x.home ≡ None) c.2 (homeless c.0 s c.1)

  operand_homeless : (x : Operand) → IsKnown known x → IsHomeless x
  operand_homeless (operands.Symbol symbol offset) k = at_home symbol k
  operand_homeless x k = tt

  -- ---- initialisers

  constant_known : (x : Operand) → ConstantFormed x → IsKnown known x → OperandKnown [] x
  constant_known (operands.Local n) h k = absurd h
  constant_known (operands.Number w bits) h k = tt
  constant_known operands.Null h k = tt
  constant_known (operands.Poison reg) h k = tt
  constant_known (operands.Symbol symbol offset) h k = at_home symbol k

  mutual
    initial_known : (v : Initial) → Each ConstantFormed (initial_operands v) → Each (IsKnown known) (initial_operands v) → InitialBytes v → InitialKnown v
    initial_known (plain x) h k b = constant_known x h.0 k.0
    initial_known zeros h k b = tt
    initial_known (bytes text) h k b = b
    initial_known (elements parts) h k b = initials_known parts h k b
    initial_known (members packed parts) h k b = initials_known parts h k b

    initials_known : (vs : Initials) → Each ConstantFormed (all_operands vs) → Each (IsKnown known) (all_operands vs) → InitialsBytes vs → InitialsKnown vs
    initials_known no_initials h k b = tt
    initials_known (initial f v vs) h k b = (
      initial_known v (front ConstantFormed (initial_operands v) (all_operands vs) h) (front (IsKnown known) (initial_operands v) (all_operands vs) k) b.0,
      initials_known vs (back ConstantFormed (initial_operands v) (all_operands vs) h) (back (IsKnown known) (initial_operands v) (all_operands vs) k) b.1,
    )

  pub init_known : (v : Option Initial) → Each ConstantFormed (init_operands v) → Each (IsKnown known) (init_operands v) → InitBytes v → InitKnown v
  init_known None h k b = tt
  init_known (Some v) h k b = initial_known v h k b

  -- ---- globals

  value_known : (g : GlobalValue) → GlobalFormed g → GlobalSound g → GlobalKnown known g → (global_symbol g).home ≡ None → StringsAreBytes g → LocalsNumbered g → ValueKnown g
  value_known (globals.Variable v) h s k home b n = record {
    home = home;
    init = init_known v.init (recursion_from_All ConstantFormed (init_operands v.init) h.operands) (recursion_from_All (IsKnown known) (init_operands v.init) k) b;
    declared = h.declared;
  }
  value_known (globals.Function f) h s k home b n = function_known f s n home (λ i d lt j e less. operand_homeless _ (k i d lt j e less))

  values_known : (gs : List GlobalValue) → Each GlobalFormed gs → Each GlobalSound gs → Each (GlobalKnown known) gs → Each (λ (s : Symbol). s.home ≡ None) (symbols gs) → Each StringsAreBytes gs → Each LocalsNumbered gs → Each ValueKnown gs
  values_known [] h s k home b n = tt
  values_known (g ∷ gs) h s k home b n = (value_known g h.0 s.0 k.0 home.0 b.0 n.0, values_known gs h.1 s.1 k.1 home.1 b.1 n.1)

pub module_known : (m : Module) → IsVerified m → ModuleNumbered m → ModuleKnown m
module_known m v n =
    let known = symbols m.globals in
    record {
      whole = v.whole;
      values = values_known known v.whole.homeless m.globals (recursion_from_All GlobalFormed m.globals v.whole.formed) (recursion_from_All GlobalSound m.globals v.sound) (recursion_from_All (GlobalKnown known) m.globals v.whole.known)
          (recursion_from_All (λ (s : Symbol). s.home ≡ None) known v.whole.homeless) n.strings n.locals;
      triple = n.triple;
    }
