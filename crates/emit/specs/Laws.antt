-- The linked module is one, whole and sound, it is an order of the kept definitions, which refer to one another alone, and its text is
-- joined of pieces.
use Rattle.std.specs.Prelude.{◌≡◌, ℕ, Bool, true, ◌&&◌, is_none, ◌⊎◌, List, [], ◌++◌, All, Contains, None, codes}
use Rattle.std.specs.List.{AllZip}
use Rattle.ir_tree.specs.Formed.{Distinct}
use Rattle.ir_tree.specs.Wholes.{GlobalFormed, GlobalKnown, GlobalSound, Whole, symbols}
use Rattle.ir_tree.specs.declared.module.GlobalValue.{GlobalValue}
use Rattle.ir_tree.specs.declared.operand.Symbol.{Symbol}
use Rattle.ir_tree.specs.declared.module.Module.{Module}
use Rattle.ir_print.specs.Modules.{module_text}
use Rattle.lto_task.specs.Pieces.{IsPieceOf}
use Rattle.lto_task.specs.declared.piece.Piece.{Piece}
use Rattle.ir_meaning.specs.Programs.{defined, shared, symbol_of}
use Rattle.merge_meaning.specs.Lives.{is_export}
use Rattle.merge_meaning.specs.Linked.{IsClosed, IsDefinition, IsReordering, emission}
use Rattle.merge_meaning.specs.Hosts.{getchar, putchar}
use Rattle.emit.specs.Emissions.{IsEmission, settled}
use Rattle.emit.specs.Joins.{IsJoin}

-- names as symbols, which have no home
abbrev pub keeps_symbol : (List ℕ → Bool) → Symbol → Bool
keeps_symbol keeps s = is_none s.home && keeps s.name

-- it defines nothing, and its symbol is that of a function of the outside
abbrev pub IsOutside : GlobalValue → Type 0
IsOutside g = (defined 0 g ≡ None) × ((symbol_of g ≡ shared (codes "getchar")) ⊎ (symbol_of g ≡ shared (codes "putchar")))

-- definitions, behind which stand functions of the outside, each symbol once and without a home; definitions refer to these alone
pub record AreLinkable (exports : List (List ℕ)) (hs hosts : List GlobalValue) : Type 0 where
  pub definitions : All IsDefinition hs
  pub outside : All IsOutside hosts
  pub once : Distinct (symbols (hs ++ hosts))
  pub homeless : All (λ s. s.home ≡ None) (symbols (hs ++ hosts))
  pub known : All (GlobalKnown (symbols (hs ++ hosts))) hs
  pub exported : (name : List ℕ) → Contains exports name → Contains (symbols hs) (shared name)

-- ---- which module it is

-- no values have two linked modules
abbrev pub EmissionIsOne : Type 0
EmissionIsOne = (exports : List (List ℕ)) (hs ks js : List GlobalValue) → IsEmission exports hs ks → IsEmission exports hs js → ks ≡ js

-- each value is one of those, settled, or declares a function of the outside
abbrev pub EmissionComesFrom : Type 0
EmissionComesFrom =
    (exports : List (List ℕ)) (hs ks : List GlobalValue) → IsEmission exports hs ks → (k : GlobalValue) → Contains ks k
    → ((h : GlobalValue) × Contains hs h × (k ≡ settled exports h)) ⊎ ((k ≡ getchar) ⊎ (k ≡ putchar))

-- ---- what it means

-- kept definitions refer to kept symbols alone, and each of these is defined or a function of the outside
abbrev pub EmissionIsClosed : Type 0
EmissionIsClosed =
    (exports : List (List ℕ)) (hs hosts ks : List GlobalValue) → AreLinkable exports hs hosts → (e : IsEmission exports hs ks) → IsClosed (keeps_symbol e.keeps) (hs ++ hosts)

-- an exported symbol is kept
abbrev pub ExportsAreKept : Type 0
ExportsAreKept =
    (exports : List (List ℕ)) (hs ks : List GlobalValue) → (e : IsEmission exports hs ks) → (s : Symbol) → is_export exports s ≡ true → keeps_symbol e.keeps s ≡ true

-- the module has the kept values in another order, and no others
abbrev pub EmissionIsReordering : Type 0
EmissionIsReordering =
    (exports : List (List ℕ)) (hs hosts ks : List GlobalValue) → AreLinkable exports hs hosts → (e : IsEmission exports hs ks)
    → IsReordering (emission (keeps_symbol e.keeps) (λ s. s) (hs ++ hosts)) ks

-- ---- what is true of it

abbrev pub EmissionIsWhole : Type 0
EmissionIsWhole =
    (exports : List (List ℕ)) (hs hosts ks : List GlobalValue) → AreLinkable exports hs hosts → All GlobalFormed hs → IsEmission exports hs ks → Whole ks

abbrev pub EmissionIsSound : Type 0
EmissionIsSound = (exports : List (List ℕ)) (hs ks : List GlobalValue) → All IsDefinition hs → All GlobalSound hs → IsEmission exports hs ks → All GlobalSound ks

-- ---- its text

-- what is joined of the pieces of definitions, each settled, is the text of their linked module, behind the target lines of m
abbrev pub JoinIsEmission : Type 0
JoinIsEmission =
    (exports : List (List ℕ)) (hs hosts : List GlobalValue) (pieces : List Piece) (m : Module) (text : List ℕ) → AreLinkable exports hs hosts
    → AllZip (λ h. IsPieceOf (settled exports h)) hs pieces → IsJoin exports pieces (module_text (record m { globals = [] })) text
    → (ks : List GlobalValue) × IsEmission exports hs ks × (text ≡ module_text (record m { globals = ks }))
