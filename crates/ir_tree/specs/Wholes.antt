-- Modules whose functions and variables are formed, and whose names are each there once; and the sound ones.
use Rattle.std.specs.Prelude.{◌≡◌, ℕ, ◌<◌, List, [], ◌∷◌, ◌++◌, map, length, slice_get, All, Contains, Option, Some, None, ◌^◌}
use Rattle.std.specs.List.{AllZip}
use Rattle.ir_tree.specs.Initials.{Initial, plain, zeros, bytes, elements, members, Initials, no_initials, initial}
use Rattle.ir_tree.specs.Fits.{FitsShape}
use Rattle.ir_tree.specs.Formed.{Distinct, Formed, IsWidth, IsReg, IsShape, IsAlignment}
use Rattle.ir_tree.specs.Items.{Item, items, operands}
use Rattle.ir_tree.specs.Rules.{Sound, Breaks}
use Rattle.ir_tree.specs.declared.function.Linkage.TheVariants.{External}
use Rattle.ir_tree.specs.declared.function.Variable.{Variable}
use Rattle.ir_tree.specs.declared.module.GlobalValue.{GlobalValue}
use Rattle.ir_tree.specs.declared.module.GlobalValue.TheVariants as global
use Rattle.ir_tree.specs.declared.module.Module.{Module}
use Rattle.ir_tree.specs.declared.operand.Operand.{Operand}
use Rattle.ir_tree.specs.declared.operand.Operand.TheVariants as operand
use Rattle.ir_tree.specs.declared.operand.Symbol.{Symbol}
use Rattle.ir_tree.specs.declared.rule.Rule.{Rule}
use Rattle.ir_tree.specs.declared.rule.Rule.TheVariants.{TypeMismatch}

-- ---- initialisers

-- the operands of an initialiser, in the order of the text
abbrev mutual
  pub initial_operands : Initial → List Operand
  initial_operands (plain o) = o ∷ []
  initial_operands zeros = []
  initial_operands (bytes text) = []
  initial_operands (elements parts) = all_operands parts
  initial_operands (members packed parts) = all_operands parts

  pub all_operands : Initials → List Operand
  all_operands no_initials = []
  all_operands (initial f v vs) = initial_operands v ++ all_operands vs

abbrev pub init_operands : Option Initial → List Operand
init_operands None = []
init_operands (Some value) = initial_operands value

-- numbers are in their range
abbrev pub ConstantFormed : Operand → Type 0
ConstantFormed (operand.Local x) = ⊥
ConstantFormed (operand.Number w bits) = IsWidth w × (bits < 2 ^ w)
ConstantFormed operand.Null = Unit {0}
ConstantFormed (operand.Poison reg) = IsReg reg
ConstantFormed (operand.Symbol symbol offset) = Unit {0}

-- a variable without an initialiser is a declaration, and has no linkage of its own
pub record VariableFormed (v : Variable) : Type 0 where
  pub shape : IsShape v.shape
  pub align : IsAlignment v.align
  pub operands : All ConstantFormed (init_operands v.init)
  pub declared : v.init ≡ None → v.linkage ≡ External

-- ---- names

abbrev pub global_symbol : GlobalValue → Symbol
global_symbol (global.Variable v) = v.symbol
global_symbol (global.Function f) = f.symbol

abbrev pub symbols : List GlobalValue → List Symbol
symbols gs = map global_symbol gs

-- where an operand is a symbol, it is one of these
abbrev pub IsKnown : List Symbol → Operand → Type 0
IsKnown known (operand.Symbol symbol offset) = Contains known symbol
IsKnown known _ = Unit {0}

abbrev pub ItemKnown : List Symbol → Item → Type 0
ItemKnown known item = All (λ a. IsKnown known a.operand) (operands item)

abbrev pub GlobalKnown : List Symbol → GlobalValue → Type 0
GlobalKnown known (global.Variable v) = All (IsKnown known) (init_operands v.init)
GlobalKnown known (global.Function f) = All (ItemKnown known) (items f)

-- ---- modules

abbrev pub GlobalFormed : GlobalValue → Type 0
GlobalFormed (global.Variable v) = VariableFormed v
GlobalFormed (global.Function f) = Formed f

-- the globals of a module as it is read: each is formed, each name is there once, and each one that is used is there
pub record Whole (gs : List GlobalValue) : Type 0 where
  pub formed : All GlobalFormed gs
  pub once : Distinct (symbols gs)
  pub homeless : All (λ s. s.home ≡ None) (symbols gs)
  pub known : All (GlobalKnown (symbols gs)) gs

-- a line for a variable, and one for each item of a function
abbrev pub HasLines : GlobalValue → List ℕ → Type 0
HasLines (global.Variable v) lines = length lines ≡ 1
HasLines (global.Function f) lines = length lines ≡ length (items f)

-- what is kept of a module that was read, with the lines of its globals
pub record IsParsed (m : Module) (lines : List (List ℕ)) : Type 0 where
  pub whole : Whole m.globals
  pub lined : AllZip HasLines m.globals lines

abbrev pub GlobalSound : GlobalValue → Type 0
GlobalSound (global.Variable v) = FitsShape v
GlobalSound (global.Function f) = Sound f

-- what is kept of a module that was verified
pub record IsVerified (m : Module) : Type 0 where
  pub whole : Whole m.globals
  pub sound : All GlobalSound m.globals

-- ---- faults

-- a global breaks the rule on this line: a function by one of its items, a variable by its initialiser
abbrev pub GlobalBreaks : GlobalValue → List ℕ → Rule → ℕ → Type 0
GlobalBreaks (global.Variable v) lines rule line = (rule ≡ TypeMismatch) × (slice_get lines 0 ≡ Some line) × (FitsShape v → ⊥)
GlobalBreaks (global.Function f) lines rule line = Breaks f lines rule line
