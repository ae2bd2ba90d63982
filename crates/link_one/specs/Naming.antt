-- Which symbols and variables of the merged modules those of the linked module are.
use Rattle.std.specs.Prelude.{ℕ, List, ◌++◌}
use Rattle.ir_tree.specs.declared.module.GlobalValue.{GlobalValue}
use Rattle.ir_tree.specs.declared.module.Module.{Module}
use Rattle.ir_tree.specs.declared.operand.Symbol.{Symbol}
use Rattle.ir_meaning.specs.Refine.{Naming}
use Rattle.ir_meaning.specs.Rename.{then_names}
use Rattle.merge_meaning.specs.Linked.{back_names}
use Rattle.merge_meaning.specs.Lives.{live_names, live_outside}
use Rattle.emit.specs.Laws.{keeps_symbol}
use Rattle.importer.specs.Brought.{joined}
use Rattle.link_one.specs.Linked.{IsLinked}

module _ (exports : List (List ℕ)) (import_limit inline_limit : ℕ) (suffixes : List (List ℕ)) (ms : List Module) (l : Module) (linked : IsLinked exports import_limit inline_limit suffixes ms l) where
  -- what is compiled, and behind it the functions of the outside
  abbrev pub all_compiled : List GlobalValue
  all_compiled = joined linked.made.units ++ live_outside ms linked.index.symbols linked.live suffixes

  abbrev pub linked_names : Naming
  linked_names =
      then_names (back_names (keeps_symbol linked.made.emitted.keeps) (λ (s : Symbol). s) all_compiled l.globals) (live_names ms linked.index.symbols linked.live suffixes)
