-- A module within the limits whose constants are of the types before them is readable, where its locals are numbered along its
-- text; a verified one is such.
use Rattle.std.proofs.Common.{List, [], ◌∷◌, subst}
use Rattle.std.specs.List.{AllByRecursion as Each}
use Rattle.std.specs.Prelude.{All, Contains}
use Rattle.std.proofs.lemmas.List.Elements.{All-from_recursion, recursion_from_All}
use Rattle.ir_parse.specs.Modules.{FURTHER_PARAMETERS}
use Rattle.ir_tree.specs.Wholes.{GlobalFormed, GlobalKnown, GlobalSound, IsKnown, IsVerified, Whole, global_symbol, init_operands, symbols}
use Rattle.ir_tree.specs.declared.module.GlobalValue.{GlobalValue}
use Rattle.ir_tree.specs.declared.module.GlobalValue.TheVariants as globals
use Rattle.ir_tree.specs.declared.module.Module.{Module}
use Rattle.ir_tree.specs.declared.operand.Symbol.{Symbol}
use Rattle.ir_round_trip.specs.Numbered.{LocalsNumbered}
use Rattle.ir_round_trip.specs.Typed.{ModuleTyped, ValueTyped}
use Rattle.ir_round_trip.specs.Within.{ModuleWithin, NameWithin, ValueWithin}
use Rattle.ir_round_trip.proofs.Functions.{function_readable, sound_typed}
use Rattle.ir_round_trip.proofs.Variables.{fitting_typed, variable_readable}
use Rattle.ir_round_trip.specs.ModulesReadable.{GlobalReadable, ModuleReadable}

module _ (known : List Symbol) (names : (s : Symbol) → Contains known s → NameWithin s) where
  value_readable : (g : GlobalValue) → GlobalFormed g → ValueTyped g → GlobalKnown known g → LocalsNumbered g → NameWithin (global_symbol g) → ValueWithin g → GlobalReadable FURTHER_PARAMETERS g
  value_readable (globals.Variable v) h t k n name w = variable_readable known names v h t name (recursion_from_All (IsKnown known) (init_operands v.init) k) w
  value_readable (globals.Function f) h t k n name w = function_readable known names f w n h t name k

  values_readable : (gs : List GlobalValue) → Each GlobalFormed gs → Each ValueTyped gs → Each (GlobalKnown known) gs → Each LocalsNumbered gs → Each NameWithin (symbols gs) → Each ValueWithin gs → Each (GlobalReadable FURTHER_PARAMETERS) gs
  values_readable [] h t k n name w = tt
  values_readable (g ∷ gs) h t k n name w = (value_readable g h.0 t.0 k.0 n.0 name.0 w.0, values_readable gs h.1 t.1 k.1 n.1 name.1 w.1)

pub globals_readable : (gs : List GlobalValue) → Whole gs → Each LocalsNumbered gs → Each NameWithin (symbols gs) → Each ValueWithin gs → Each ValueTyped gs → Each (GlobalReadable FURTHER_PARAMETERS) gs
globals_readable gs v n names w t =
    let known = symbols gs in
    let all : All NameWithin known = All-from_recursion NameWithin known names in
    values_readable known (λ s c. subst NameWithin c.2 (all c.0 s c.1)) gs (recursion_from_All GlobalFormed gs v.formed) t (recursion_from_All (GlobalKnown known) gs v.known) n names w

pub module_readable : (m : Module) → Whole m.globals → Each LocalsNumbered m.globals → ModuleWithin m → ModuleTyped m → ModuleReadable m
module_readable m v n w t = record { layout = w.layout; globals = globals_readable m.globals v n w.names w.values t; few = w.few }

-- ---- verified modules

value_typed : (g : GlobalValue) → GlobalFormed g → GlobalSound g → ValueWithin g → ValueTyped g
value_typed (globals.Variable v) h s w = fitting_typed v.shape v.init (record { shape = h.shape; counts = w.counts }) s
value_typed (globals.Function f) h s w = sound_typed f s

values_typed : (gs : List GlobalValue) → Each GlobalFormed gs → Each GlobalSound gs → Each ValueWithin gs → Each ValueTyped gs
values_typed [] h s w = tt
values_typed (g ∷ gs) h s w = (value_typed g h.0 s.0 w.0, values_typed gs h.1 s.1 w.1)

pub verified_typed : (m : Module) → IsVerified m → Each ValueWithin m.globals → ModuleTyped m
verified_typed m v w = values_typed m.globals (recursion_from_All GlobalFormed m.globals v.whole.formed) (recursion_from_All GlobalSound m.globals v.sound) w
