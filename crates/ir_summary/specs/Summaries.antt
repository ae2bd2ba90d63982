-- Summaries of the definitions of a module.
use Rattle.std.specs.Prelude.{false, List, [], ◌∷◌, length, Option, Some, None, option_map}
use Rattle.std.specs.List.{filter_map}
use Rattle.ir_tree.specs.Items.{items}
use Rattle.ir_tree.specs.declared.function.Function.{Function}
use Rattle.ir_tree.specs.declared.function.Variable.{Variable}
use Rattle.ir_tree.specs.declared.block.Block.{Block}
use Rattle.ir_tree.specs.declared.module.GlobalValue.{GlobalValue}
use Rattle.ir_tree.specs.declared.module.GlobalValue.TheVariants as global
use Rattle.ir_tree.specs.Once.{once}
use Rattle.ir_summary.specs.References.{body_callees, body_names, initial_names}
use Rattle.ir_summary.specs.declared.summary.Summary.{Summary}

abbrev pub variable_summary : Variable → Summary
variable_summary v = record {
  name = v.symbol.name;
  linkage = v.linkage;
  count = None;
  noinline = false;
  optnone = false;
  calls = [];
  refs = once (initial_names v);
}

-- the count is that of the phis, instructions and terminators
abbrev pub function_summary : Function → Summary
function_summary f = record {
  name = f.symbol.name;
  linkage = f.linkage;
  count = Some (length (items f));
  noinline = f.noinline;
  optnone = f.optnone;
  calls = once (body_callees f);
  refs = once (body_names f);
}

-- a function without blocks is a declaration
abbrev pub bodied : List Block → Function → Option Summary
bodied [] f = None
bodied (b ∷ bs) f = Some (function_summary f)

-- of a definition; a declaration has none
abbrev pub summary : GlobalValue → Option Summary
summary (global.Variable v) = option_map (λ init. variable_summary v) v.init
summary (global.Function f) = bodied f.blocks f

-- of the definitions of a module in the order of its text
abbrev pub summaries : List GlobalValue → List Summary
summaries = filter_map summary
