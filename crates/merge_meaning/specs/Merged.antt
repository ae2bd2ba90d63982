-- The merged program of modules: the definitions that prevail, in which each name is the symbol that it stands for in its
-- module (LangRef, "Linkage Types", "Module Structure").
use Rattle.std.specs.Prelude.{ℕ, suc, Bool, true, false, ◌&&◌, is_none, nat_eq, if◌then◌else◌, List, [], ◌∷◌, ◌++◌, map, filter, Option, Some, None, codes}
use Rattle.std.specs.List.{list_any}
use Rattle.std.specs.Option.{option_eq}
use Rattle.std.specs.Str.{bytes_eq}
use Rattle.ir_tree.specs.declared.function.Linkage.TheVariants.{External}
use Rattle.ir_tree.specs.declared.module.GlobalValue.{GlobalValue}
use Rattle.ir_tree.specs.declared.module.GlobalValue.TheVariants as global
use Rattle.ir_tree.specs.declared.module.Module.{Module}
use Rattle.ir_tree.specs.declared.operand.Reg.TheVariants.{Int}
use Rattle.ir_tree.specs.declared.operand.Symbol.{Symbol}
use Rattle.ir_meaning.specs.Program.{Program}
use Rattle.ir_meaning.specs.Programs.{is_declared, program_of, shared, symbol_of}
use Rattle.symbol_resolve.specs.Mentions.{function_standing, mentions, variable_standing}
use Rattle.symbol_resolve.specs.Prevailing.{prevailing}
use Rattle.symbol_resolve.specs.declared.mention.Standing.{Standing}
use Rattle.symbol_resolve.specs.declared.mention.Standing.TheVariants as standing
use Rattle.merge_meaning.specs.Globals.{global_under, named_by}

-- ---- symbols

-- what a global value is to other modules: a definition, strong or weak, or a declaration; none where it is a local definition
abbrev pub standing_of : GlobalValue → Option Standing
standing_of (global.Variable v) = variable_standing v.init v.linkage
standing_of (global.Function f) = function_standing f.blocks f.linkage

-- the module defines the name for itself alone
abbrev pub is_own : List GlobalValue → List ℕ → Bool
is_own gs name = list_any (λ g. is_none (standing_of g) && bytes_eq name (symbol_of g).name) gs

abbrev pub local_to : ℕ → List ℕ → Symbol
local_to k name = record { home = Some k; name = name }

-- what a name stands for in module k, whose own names these are: a symbol of the module's own, or one that modules share
abbrev pub symbol_by : ℕ → (List ℕ → Bool) → Symbol → Symbol
symbol_by k own s = if own s.name then local_to k s.name else s

abbrev pub symbol_in : ℕ → List GlobalValue → Symbol → Symbol
symbol_in k gs s = symbol_by k (is_own gs) s

-- ---- definitions that prevail

-- a local definition prevails always, another where its module is the one that is chosen, a declaration never
abbrev pub prevails_as : Option ℕ → ℕ → Option Standing → Bool
prevails_as chosen k None = true
prevails_as chosen k (Some standing.Strong) = option_eq nat_eq chosen (Some k)
prevails_as chosen k (Some standing.Weak) = option_eq nat_eq chosen (Some k)
prevails_as chosen k (Some standing.Declared) = false

-- the global value of module k is the definition of its symbol
abbrev pub prevails : List Module → ℕ → GlobalValue → Bool
prevails ms k g = prevails_as (prevailing (mentions ms) (symbol_of g).name) k (standing_of g)

-- ---- what is given

-- what module k gives: its definitions that prevail, with names as symbols
abbrev pub given_by : List Module → ℕ → List GlobalValue → List GlobalValue
given_by ms k gs = map (global_under (named_by (symbol_in k gs))) (filter (prevails ms k) gs)

-- the modules from number k on, in command order
abbrev pub merged_from : List Module → ℕ → List Module → List GlobalValue
merged_from ms k [] = []
merged_from ms k (m ∷ rest) = given_by ms k m.globals ++ merged_from ms (suc k) rest

-- ---- functions of the outside

-- a declaration of the symbol of a name that modules share; what it takes and gives is nobody's concern
abbrev pub declaration : List ℕ → GlobalValue
declaration name = global.Function (record {
  symbol = shared name;
  linkage = External;
  result = Some (Int 32);
  params = [];
  noinline = false;
  optnone = false;
  blocks = [];
})

-- with that declaration behind them, where none of them defines or declares the symbol
abbrev pub with_host : List ℕ → List GlobalValue → List GlobalValue
with_host name gs = if is_declared gs (shared name) then gs else gs ++ declaration name ∷ []

-- with the functions of the outside
abbrev pub with_hosts : List GlobalValue → List GlobalValue
with_hosts gs = with_host (codes "getchar") (with_host (codes "putchar") gs)

-- ---- the merged program

abbrev pub merged_globals : List Module → List GlobalValue
merged_globals ms = with_hosts (merged_from ms 0 ms)

-- the modules are numbered from 0 in command order
abbrev pub merged : List Module → Program
merged ms = program_of (merged_globals ms)
