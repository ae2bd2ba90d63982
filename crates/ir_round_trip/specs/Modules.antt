-- What is read of a printed module: one item for each entry, in the same order (LangRef, "Module Structure").
use Rattle.std.specs.Prelude.{ℕ, List, [], ◌∷◌, ◌++◌, map}
use Rattle.ir_parse_parts.specs.declared.raw.Item.{Item}
use Rattle.ir_tree.specs.declared.block.Block.{Block}
use Rattle.ir_tree.specs.declared.function.Function.{Function}
use Rattle.ir_tree.specs.declared.module.GlobalValue.{GlobalValue}
use Rattle.ir_tree.specs.declared.module.GlobalValue.TheVariants as globals
use Rattle.ir_tree.specs.declared.module.Module.{Module}
use Rattle.ir_round_trip.specs.Printed.{IsDeclaration, IsDefinition}
use Rattle.ir_round_trip.specs.Variables.{IsVariableItem}
use Rattle.ir_round_trip.specs.PartsPrinted.{Paired, IsLayout, IsTriple}

-- what is printed as an entry of its own
pub data Entry : Type 0 where
  layout : (text : List ℕ) → Entry
  triple : (text : List ℕ) → Entry
  global_value : (value : GlobalValue) → Entry

-- a target line, where its text isn't empty
abbrev pub target : (List ℕ → Entry) → List ℕ → List Entry
target entry [] = []
target entry (b ∷ bs) = entry (b ∷ bs) ∷ []

abbrev pub all_entries : Module → List Entry
all_entries m = target layout m.datalayout ++ (target triple m.triple ++ map global_value m.globals)

-- one without blocks is a declaration
abbrev pub IsFunctionOf : List Block → Function → Item → Type 0
IsFunctionOf [] f i = IsDeclaration f i
IsFunctionOf (b ∷ bs) f i = IsDefinition f i

abbrev pub IsGlobalItem : GlobalValue → Item → Type 0
IsGlobalItem (globals.Variable v) i = IsVariableItem v i
IsGlobalItem (globals.Function f) i = IsFunctionOf f.blocks f i

abbrev pub IsItem : Entry → Item → Type 0
IsItem (layout text) i = IsLayout text i
IsItem (triple text) i = IsTriple text i
IsItem (global_value g) i = IsGlobalItem g i

abbrev pub AreItems : Module → List Item → Type 0
AreItems m items = Paired IsItem (all_entries m) items
