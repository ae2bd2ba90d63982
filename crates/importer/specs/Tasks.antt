-- The task of each module of a link: all that its back end reads (Johnson, Amini and Li, "ThinLTO: Scalable and Incremental LTO",
-- CGO 2017, on distributed back ends).
use Rattle.std.specs.Prelude.{◌≡◌, ◌≢◌, ◌↔◌, ℕ, List, [], ◌∷◌, ◌++◌, All, Contains, map, Option, Some, None}
use Rattle.ir_tree.specs.declared.module.GlobalValue.{GlobalValue}
use Rattle.ir_tree.specs.declared.operand.Symbol.{Symbol}
use Rattle.ir_meaning.specs.Programs.{symbol_of}
use Rattle.ir_summary.specs.References.{global_names}
use Rattle.lto_task.specs.Declarations.{declaration_of}
use Rattle.lto_task.specs.Pieces.{NamesRise}
use Rattle.lto_task.specs.Tasks.{TaskView}
use Rattle.merge_meaning.specs.ByName.{IsInOrder}
use Rattle.merge_meaning.specs.Hosts.{getchar, putchar}
use Rattle.importer.specs.Brought.{brought, names_of, value_named}

abbrev pub name_of : GlobalValue → List ℕ
name_of g = (symbol_of g).name

-- ---- declarations

-- what has the name is declared as the link has it, or as the system does
abbrev pub declared_as : List GlobalValue → List ℕ → Option GlobalValue
declared_as all name = value_named (map declaration_of all ++ (getchar ∷ (putchar ∷ []))) name

-- these values refer to the name, and none of them has it
pub record IsLacked (values : List GlobalValue) (name : List ℕ) : Type 0 where
  pub user : GlobalValue
  pub is_there : Contains values user
  pub refers : Contains (global_names user) name
  pub lacks : Contains (map name_of values) name → ⊥

-- declarations of all that the values refer to and lack, in the order of names
pub record IsClosedUp (all values declared : List GlobalValue) : Type 0 where
  pub rise : NamesRise (map name_of declared)
  pub each : All (λ d. declared_as all (name_of d) ≡ Some d) declared
  pub just : (name : List ℕ) → Contains (map name_of declared) name ↔ (IsLacked values name × (declared_as all name ≢ None))

-- ---- tasks

-- the values, and declarations behind them
pub record IsModuleOf (all values globals : List GlobalValue) : Type 0 where
  pub declared : List GlobalValue
  pub closed : IsClosedUp all values declared
  pub is : globals ≡ values ++ declared

-- the task of a module with this part, which imports and promotes the symbols of these numbers
pub record IsTaskOf (exports : List (List ℕ)) (limit : ℕ) (all : List GlobalValue) (symbols : List Symbol) (suffixes : List (List ℕ)) (imports promoted : List ℕ) (part : List GlobalValue) (t : TaskView) : Type 0 where
  pub limit_is : t.inline_limit ≡ limit
  pub exports_rise : NamesRise t.exports
  pub exports_are : (name : List ℕ) → Contains t.exports name ↔ (Contains exports name × Contains (map name_of part) name)
  pub promoted_rise : NamesRise t.promoted
  pub promoted_are : (name : List ℕ) → Contains t.promoted name ↔ Contains (names_of symbols suffixes promoted) name
  pub own : IsModuleOf all part t.own
  pub bodies : List GlobalValue
  pub bodies_are : IsInOrder (brought all symbols suffixes imports) bodies
  pub imported : IsModuleOf all bodies t.imported
