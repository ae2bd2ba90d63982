-- Which modules mention a name that others see, and as what (LangRef, "Linkage Types").
use Rattle.std.specs.Prelude.{ℕ, suc, Bool, true, false, ◌&&◌, List, [], ◌∷◌, ◌++◌, map, filter, Option, Some, None}
use Rattle.std.specs.List.{flat_map}
use Rattle.std.specs.Str.{bytes_eq}
use Rattle.ir_tree.specs.Initials.{Initial}
use Rattle.ir_tree.specs.declared.block.Block.{Block}
use Rattle.ir_tree.specs.declared.function.Linkage.{Linkage}
use Rattle.ir_tree.specs.declared.function.Linkage.TheVariants as linkage
use Rattle.ir_tree.specs.declared.module.GlobalValue.{GlobalValue}
use Rattle.ir_tree.specs.declared.module.GlobalValue.TheVariants as global
use Rattle.ir_tree.specs.declared.module.Module.{Module}
use Rattle.symbol_resolve.specs.declared.mention.SymbolKind.{SymbolKind}
use Rattle.symbol_resolve.specs.declared.mention.SymbolKind.TheVariants as kind
use Rattle.symbol_resolve.specs.declared.mention.Standing.{Standing}
use Rattle.symbol_resolve.specs.declared.mention.Standing.TheVariants as standing

-- a module mentions a name: it declares or defines it
pub record Mention : Type 0 where
  pub number : ℕ
  pub name : List ℕ
  pub kind : SymbolKind
  pub standing : Standing

-- what a definition counts as; one that is local to its module is no mention
abbrev pub standing_of : Linkage → Option Standing
standing_of linkage.Private = None
standing_of linkage.Internal = None
standing_of linkage.External = Some standing.Strong
standing_of linkage.Linkonce = Some standing.Weak
standing_of linkage.LinkonceOdr = Some standing.Weak
standing_of linkage.Weak = Some standing.Weak
standing_of linkage.WeakOdr = Some standing.Weak
standing_of linkage.AvailableExternally = Some standing.Declared

abbrev pub variable_standing : Option Initial → Linkage → Option Standing
variable_standing None l = Some standing.Declared
variable_standing (Some init) l = standing_of l

abbrev pub function_standing : List Block → Linkage → Option Standing
function_standing [] l = Some standing.Declared
function_standing (b ∷ bs) l = standing_of l

abbrev pub mentioned : ℕ → List ℕ → SymbolKind → Option Standing → List Mention
mentioned k name kind None = []
mentioned k name kind (Some standing) = record { number = k; name = name; kind = kind; standing = standing } ∷ []

abbrev pub mention : ℕ → GlobalValue → List Mention
mention k (global.Variable v) = mentioned k v.symbol.name kind.Variable (variable_standing v.init v.linkage)
mention k (global.Function f) = mentioned k f.symbol.name kind.Function (function_standing f.blocks f.linkage)

-- in command order, each module in the order of its text; modules are numbered from k
abbrev pub mentions_from : ℕ → List Module → List Mention
mentions_from k [] = []
mentions_from k (m ∷ ms) = flat_map (mention k) m.globals ++ mentions_from (suc k) ms

abbrev pub mentions : List Module → List Mention
mentions ms = mentions_from 0 ms

-- ---- mentions of a sort

abbrev pub as_function : SymbolKind → Bool
as_function kind.Function = true
as_function kind.Variable = false

abbrev pub as_variable : SymbolKind → Bool
as_variable kind.Function = false
as_variable kind.Variable = true

abbrev pub strongly : Standing → Bool
strongly standing.Strong = true
strongly standing.Weak = false
strongly standing.Declared = false

abbrev pub weakly : Standing → Bool
weakly standing.Strong = false
weakly standing.Weak = true
weakly standing.Declared = false

abbrev pub is_function : Mention → Bool
is_function m = as_function m.kind

abbrev pub is_variable : Mention → Bool
is_variable m = as_variable m.kind

-- an external definition
abbrev pub is_strong : Mention → Bool
is_strong m = strongly m.standing

-- a weak or linkonce definition
abbrev pub is_weak : Mention → Bool
is_weak m = weakly m.standing

-- the modules that mention a name so, in command order
abbrev pub modules_with : (Mention → Bool) → List Mention → List ℕ → List ℕ
modules_with test ms name = map (λ m. m.number) (filter (λ m. bytes_eq name m.name && test m) ms)

abbrev pub names_of : List Mention → List (List ℕ)
names_of = map (λ m. m.name)
