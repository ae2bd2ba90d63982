-- Modules with the locals of each function numbered anew, in the order of its text (LangRef, "Identifiers").
use Rattle.std.specs.Prelude.{map}
use Rattle.ir_edit.specs.Numbered.{in_text_order}
use Rattle.ir_tree.specs.declared.module.GlobalValue.{GlobalValue}
use Rattle.ir_tree.specs.declared.module.GlobalValue.TheVariants as globals
use Rattle.ir_tree.specs.declared.module.Module.{Module}

abbrev pub value_anew : GlobalValue → GlobalValue
value_anew (globals.Variable v) = globals.Variable v
value_anew (globals.Function f) = globals.Function (in_text_order f)

abbrev pub numbered_anew : Module → Module
numbered_anew m = record m { globals = map value_anew m.globals }
