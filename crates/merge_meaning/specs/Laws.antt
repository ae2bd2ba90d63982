-- What is true of merged programs and of what is linked from them.
use Rattle.std.specs.Prelude.{◌≡◌, ◌≢◌, ◌⊎◌, ℕ, All, Bool, true, IsTrue, List, [], ◌∷◌, ◌++◌, map, flat_map, slice_get, None, Some, codes}
use Rattle.std.specs.List.{AllZip}
use Rattle.ir_tree.specs.Formed.{Distinct}
use Rattle.ir_tree.specs.Wholes.{GlobalFormed, GlobalSound, IsVerified, Whole, symbols as all_symbols}
use Rattle.ir_tree.specs.declared.module.GlobalValue.{GlobalValue}
use Rattle.ir_tree.specs.declared.module.Module.{Module}
use Rattle.ir_tree.specs.declared.operand.Symbol.{Symbol}
use Rattle.ir_meaning.specs.Near.{IsBetter}
use Rattle.ir_meaning.specs.Program.{Program}
use Rattle.ir_meaning.specs.Refine.{RefinesUnder}
use Rattle.ir_meaning.specs.Programs.{Definition, defined, definition_of, program_of, symbol_of}
use Rattle.ir_meaning.specs.Runnable.{AreRunnable}
use Rattle.symbol_resolve.specs.Mentions.{mentions}
use Rattle.symbol_resolve.specs.Prevailing.{prevailing}
use Rattle.symbol_resolve.specs.Resolved.{module_of, symbols}
use Rattle.merge_meaning.specs.Globals.{global_under, named_by}
use Rattle.merge_meaning.specs.Linked.{AreEmitted, AreFinal, Improves, IsClosed, IsDefinition, IsReordering, back_names, back_of, emission}
use Rattle.merge_meaning.specs.Lives.{live_globals, live_outside, parts}
use Rattle.merge_meaning.specs.Merged.{declaration, merged, merged_globals, prevails, standing_of, symbol_in, with_hosts}

-- ---- what is merged

-- none is local to the module
abbrev pub NoLocals : List GlobalValue → Type 0
NoLocals [] = Unit {0}
NoLocals (g ∷ gs) = (standing_of g ≢ None) × NoLocals gs

-- a global value of module k, with names as symbols
abbrev pub taken_in : ℕ → Module → GlobalValue → GlobalValue
taken_in k m g = global_under (named_by (symbol_in k m.globals)) g

-- module k has this global value, which prevails
pub record IsGivenBy (ms : List Module) (k : ℕ) (m : Module) (g : GlobalValue) : Type 0 where
  pub number : slice_get ms k ≡ Some m
  pub place : ℕ
  pub stands : slice_get m.globals place ≡ Some g
  pub kept : prevails ms k g ≡ true

abbrev pub AllWhole : List Module → Type 0
AllWhole ms = (k : ℕ) (m : Module) → slice_get ms k ≡ Some m → Whole m.globals

-- in the merged program each symbol has the definition that prevails, with names as symbols
abbrev pub PrevailingIsDefined : Type 0
PrevailingIsDefined = (ms : List Module) → AllWhole ms → (k : ℕ) (m : Module) (g : GlobalValue) → IsGivenBy ms k m g →
    (n : ℕ) × (definition_of (merged_globals ms) (symbol_in k m.globals (symbol_of g)) ≡ defined n (taken_in k m g))

-- and none has another
abbrev pub DefinedPrevails : Type 0
DefinedPrevails = (ms : List Module) (s : Symbol) (d : Definition) → definition_of (merged_globals ms) s ≡ Some d →
    (k : ℕ) × (m : Module) × (g : GlobalValue) × (n : ℕ) × IsGivenBy ms k m g × (symbol_of (taken_in k m g) ≡ s) × (defined n (taken_in k m g) ≡ Some d)

-- the merged program of one module is the program of its global values, in which each of its locals has it as its home, with the
-- functions of the outside
abbrev pub OneModule : Type 0
OneModule = (m : Module) → merged (m ∷ []) ≡ program_of (with_hosts (map (taken_in 0 m) m.globals))

-- so of one module without locals it is the program that the module means by itself
abbrev pub OneModuleOfAll : Type 0
OneModuleOfAll = (m : Module) → NoLocals m.globals → merged (m ∷ []) ≡ program_of (with_hosts m.globals)

-- of each symbol one module gives one definition, so none stands twice among what is merged
abbrev pub MergedIsOnce : Type 0
MergedIsOnce = (ms : List Module) → AllWhole ms → Distinct (all_symbols (merged_globals ms))

-- and what is merged of modules that were verified can be run
abbrev pub MergedIsRunnable : Type 0
MergedIsRunnable = (ms : List Module) → All IsVerified ms → AreRunnable (merged_globals ms)

-- the table of a resolution names for each name the module whose definition prevails
abbrev pub TableNamesPrevailing : Type 0
TableNamesPrevailing = (ms : List Module) (name : List ℕ) → module_of (symbols ms) name ≡ prevailing (mentions ms) name

-- ---- under other names

-- a sound global value is sound under other names for symbols
abbrev pub NamesKeepSoundness : Type 0
NamesKeepSoundness = (name : Symbol → Symbol) (g : GlobalValue) → GlobalSound g → GlobalSound (global_under (named_by name) g)

-- and a formed one is formed
abbrev pub NamesKeepForms : Type 0
NamesKeepForms = (name : Symbol → Symbol) (g : GlobalValue) → GlobalFormed g → GlobalFormed (global_under (named_by name) g)

-- ---- by module

-- the live definitions are the parts of the modules one after another, and behind them live functions of the outside
abbrev pub LiveByModule : Type 0
LiveByModule = (ms : List Module) (symbols : List Symbol) (live : List Bool) (suffixes : List (List ℕ)) →
    live_globals ms symbols live suffixes ≡ flat_map (λ part. part) (parts ms symbols live suffixes) ++ live_outside ms symbols live suffixes

-- a part has definitions alone
abbrev pub PartsDefine : Type 0
PartsDefine = (ms : List Module) (symbols : List Symbol) (live : List Bool) (suffixes : List (List ℕ)) → All (All IsDefinition) (parts ms symbols live suffixes)

-- those of verified modules are sound and formed
abbrev pub PartsAreSound : Type 0
PartsAreSound = (ms : List Module) (symbols : List Symbol) (live : List Bool) (suffixes : List (List ℕ)) → All IsVerified ms →
    All (All GlobalSound) (parts ms symbols live suffixes) × All (All GlobalFormed) (parts ms symbols live suffixes)

-- and what stands behind the parts is declared, and no more
abbrev pub OutsideIsDeclared : Type 0
OutsideIsDeclared = (ms : List Module) (symbols : List Symbol) (live : List Bool) (suffixes : List (List ℕ)) →
    All (λ g. (g ≡ declaration (codes "putchar")) ⊎ (g ≡ declaration (codes "getchar"))) (live_outside ms symbols live suffixes)

-- ---- what is linked

-- with better functions in the places of its functions a program is better
abbrev pub ImprovedIsBetter : Type 0
ImprovedIsBetter = (gs hs : List GlobalValue) (bound : ℕ) → AllZip (Improves (program_of gs) bound) gs hs → IsBetter (program_of hs) (program_of gs) bound

-- and it has the same symbols, so none stands twice where none did
abbrev pub ImprovedIsOnce : Type 0
ImprovedIsOnce = (p : Program) (bound : ℕ) (gs hs : List GlobalValue) → AllZip (Improves p bound) gs hs → Distinct (all_symbols gs) → Distinct (all_symbols hs)

-- the live definitions in their order are one such list
abbrev pub EmissionIsEmitted : Type 0
EmissionIsEmitted = (live : Symbol → Bool) (final : Symbol → Symbol) (hs : List GlobalValue) → Distinct (all_symbols hs) → IsClosed live hs →
    AreFinal live final → AreEmitted live final hs (emission live final hs)

-- and what is emitted may be emitted in any order, under any linkage
abbrev pub EmittedInAnyOrder : Type 0
EmittedInAnyOrder = (live : Symbol → Bool) (final : Symbol → Symbol) (hs ls ks : List GlobalValue) → AreEmitted live final hs ls →
    IsReordering ls ks → AreEmitted live final hs ks

-- each live symbol is found again from its final name
abbrev pub FinalNamesLeadBack : Type 0
FinalNamesLeadBack = (live : Symbol → Bool) (final : Symbol → Symbol) (hs ls : List GlobalValue) → AreEmitted live final hs ls →
    (s : Symbol) → live s ≡ true → back_of live final hs (final s) ≡ s

-- the live definitions of the improved program, under their final names, refine the program from each live root that modules share
abbrev pub EmittedRefines : Type 0
EmittedRefines = (gs hs ls : List GlobalValue) (bound : ℕ) (live : Symbol → Bool) (final : Symbol → Symbol) →
    AllZip (Improves (program_of gs) bound) gs hs → AreEmitted live final hs ls →
    (IsRoot : Symbol → Bool) → ((s : Symbol) → IsTrue (IsRoot s) → (s.home ≡ None) × (live s ≡ true)) →
    RefinesUnder (back_names live final hs ls) (program_of ls) (program_of gs) (λ s. IsTrue (IsRoot s))

-- so the linked program of modules refines their merged program
abbrev pub LinkedRefinesMerged : Type 0
LinkedRefinesMerged = (ms : List Module) (hs ls : List GlobalValue) (bound : ℕ) (live : Symbol → Bool) (final : Symbol → Symbol) →
    AllZip (Improves (merged ms) bound) (merged_globals ms) hs → AreEmitted live final hs ls →
    (IsRoot : Symbol → Bool) → ((s : Symbol) → IsTrue (IsRoot s) → (s.home ≡ None) × (live s ≡ true)) →
    RefinesUnder (back_names live final hs ls) (program_of ls) (merged ms) (λ s. IsTrue (IsRoot s))
