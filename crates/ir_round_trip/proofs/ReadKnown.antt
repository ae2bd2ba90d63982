-- The names of a module that was read from bytes are known.
use Rattle.std.proofs.Common.{◌≡◌, ℕ, None, List, [], ◌∷◌}
use Rattle.std.specs.List.{AllByRecursion as Each}
use Rattle.std.specs.Prelude.{All}
use Rattle.std.proofs.lemmas.List.Elements.{recursion_from_All}
use Rattle.ir_parse.specs.Laws.{ReadIsParsed}
use Rattle.ir_parse.specs.Reading.{Reads}
use Rattle.ir_tree.specs.Names.{AllBytes}
use Rattle.ir_tree.specs.Wholes.{ConstantFormed, GlobalFormed, GlobalKnown, IsKnown, Whole, global_symbol, init_operands, symbols}
use Rattle.ir_tree.specs.declared.module.GlobalValue.{GlobalValue}
use Rattle.ir_tree.specs.declared.module.GlobalValue.TheVariants as globals
use Rattle.ir_tree.specs.declared.module.Module.{Module}
use Rattle.ir_tree.specs.declared.operand.Symbol.{Symbol}
use Rattle.ir_round_trip.specs.Known.{ModuleKnown, ValueKnown}
use Rattle.ir_round_trip.specs.Numbered.{StringsAreBytes}
use Rattle.ir_round_trip.proofs.Numbering.{ValueRight, read_right}
use Rattle.ir_round_trip.proofs.ReadStrings.{read_strings}
use Rattle.ir_round_trip.proofs.Resolved.{formed_known}
use Rattle.ir_round_trip.proofs.Verified.{at_home, init_known}

module _ (known : List Symbol) (homeless : All (λ (s : Symbol). s.home ≡ None) known) where
  value_known : (g : GlobalValue) → GlobalFormed g → GlobalKnown known g → (global_symbol g).home ≡ None → StringsAreBytes g → ValueRight g → ValueKnown g
  value_known (globals.Variable v) h k home b n = record {
    home = home;
    init = init_known known homeless v.init (recursion_from_All ConstantFormed (init_operands v.init) h.operands) (recursion_from_All (IsKnown known) (init_operands v.init) k) b;
    declared = h.declared;
  }
  value_known (globals.Function f) h k home b n = formed_known known (at_home known homeless) f n.0 h home k n.1

  values_known : (gs : List GlobalValue) → Each GlobalFormed gs → Each (GlobalKnown known) gs → Each (λ (s : Symbol). s.home ≡ None) (symbols gs) → Each StringsAreBytes gs → Each ValueRight gs → Each ValueKnown gs
  values_known [] h k home b n = tt
  values_known (g ∷ gs) h k home b n = (value_known g h.0 k.0 home.0 b.0 n.0, values_known gs h.1 k.1 home.1 b.1 n.1)

pub read_known : ReadIsParsed → (bytes : List ℕ) (m : Module) (lines : List (List ℕ)) → AllBytes bytes → Reads bytes m lines → ModuleKnown m
read_known parsed bytes m lines h r =
    let whole : Whole m.globals = (parsed bytes m lines r).whole in
    let known : List Symbol = symbols m.globals in
    let strings = read_strings bytes m lines h r in
    record {
      whole = whole;
      values = values_known known whole.homeless m.globals (recursion_from_All GlobalFormed m.globals whole.formed) (recursion_from_All (GlobalKnown known) m.globals whole.known)
          (recursion_from_All (λ (s : Symbol). s.home ≡ None) known whole.homeless) strings.values (read_right bytes m lines r);
      triple = strings.triple;
    }
