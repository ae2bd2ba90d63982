-- Values as a module has them that was read, and under the names that a link gives them; and their declarations.
use Rattle.std.specs.Prelude.{ℕ, List, ◌++◌, All, map, Bool}
use Rattle.std.specs.List.{AllZip}
use Rattle.ir_parse.specs.Reading.{Reads}
use Rattle.ir_tree.specs.Names.{AllBytes}
use Rattle.ir_tree.specs.Wholes.{IsVerified, global_symbol}
use Rattle.ir_tree.specs.declared.module.GlobalValue.{GlobalValue}
use Rattle.ir_tree.specs.declared.module.Module.{Module}
use Rattle.ir_tree.specs.declared.operand.Symbol.{Symbol}
use Rattle.lto_task.specs.Declarations.{declaration_of}
use Rattle.lto_task.specs.Tasks.{module_of}
use Rattle.merge_meaning.specs.Globals.{global_under, named_by}
use Rattle.merge_meaning.specs.Lives.{parts}
use Rattle.combined_index.specs.Suffixes.{suffix_of}
use Rattle.ir_round_trip.specs.Numbered.{LocalsNumbered, StringsAreBytes}
use Rattle.ir_round_trip.specs.OneText.{ModuleSpelled}
use Rattle.ir_round_trip.specs.Tokens.{IsWritable}
use Rattle.ir_round_trip.specs.Within.{NameWithin, ValueWithin}

-- a value within the grammar's limits whose locals are numbered along its text, and whose strings are bytes
pub record ValueSpelled (g : GlobalValue) : Type 0 where
  pub name : NameWithin (global_symbol g)
  pub within : ValueWithin g
  pub locals : LocalsNumbered g
  pub strings : StringsAreBytes g

-- a verified module of such values is told by its text
abbrev pub SpelledIsTold : Type 0
SpelledIsTold = (gs : List GlobalValue) → IsVerified (module_of gs) → All ValueSpelled gs → ModuleSpelled (module_of gs)

-- what was read of bytes has such values
abbrev pub ReadIsSpelled : Type 0
ReadIsSpelled = (bytes : List ℕ) (m : Module) (lines : List (List ℕ)) → AllBytes bytes → Reads bytes m lines → All ValueSpelled m.globals

-- which stay such under other names that can be written
abbrev pub NamesKeepSpelling : Type 0
NamesKeepSpelling = (name : Symbol → Symbol) (g : GlobalValue) → ValueSpelled g → NameWithin (name (global_symbol g)) → ValueSpelled (global_under (named_by name) g)

-- as a name can with the suffix of a module behind it
abbrev pub SuffixedIsWritable : Type 0
SuffixedIsWritable = (name bytes : List ℕ) → IsWritable name → IsWritable (name ++ suffix_of bytes)

abbrev pub IsReadOf : List ℕ → Module → Type 0
IsReadOf bytes m = (lines : List (List ℕ)) × Reads bytes m lines

-- so the parts of modules that were read, under their final names, have such values
abbrev pub PartsAreSpelled : Type 0
PartsAreSpelled = (files : List (List ℕ)) (ms : List Module) (symbols : List Symbol) (live : List Bool) → All AllBytes files → AllZip IsReadOf files ms → All (All ValueSpelled) (parts ms symbols live (map suffix_of files))

-- the declaration of such a value is such
abbrev pub DeclarationsAreSpelled : Type 0
DeclarationsAreSpelled = (g : GlobalValue) → ValueSpelled g → ValueSpelled (declaration_of g)
