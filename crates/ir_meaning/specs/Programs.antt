-- The program that global values mean (LangRef, "Module Structure", "Global Variables", "Functions").
use Rattle.std.specs.Prelude.{ℕ, suc, Bool, true, not, if◌then◌else◌, List, [], ◌∷◌, Option, Some, None, codes}
use Rattle.std.specs.List.{list_any}
use Rattle.std.specs.Str.{bytes_eq}
use Rattle.ir_tree.specs.Initials.{Initial}
use Rattle.ir_tree.specs.Layout.{size}
use Rattle.ir_tree.specs.Linkages.{defines}
use Rattle.ir_tree.specs.declared.block.Block.{Block}
use Rattle.ir_tree.specs.declared.function.Function.{Function}
use Rattle.ir_tree.specs.declared.function.Param.{Param}
use Rattle.ir_tree.specs.declared.function.Variable.{Variable}
use Rattle.ir_tree.specs.declared.module.GlobalValue.{GlobalValue}
use Rattle.ir_tree.specs.declared.module.GlobalValue.TheVariants as global
use Rattle.ir_tree.specs.declared.operand.Operand.{Operand}
use Rattle.ir_tree.specs.declared.operand.Reg.{Reg}
use Rattle.ir_tree.specs.declared.operand.Symbol.{Symbol}
use Rattle.ir_meaning.specs.Frame.{AFunction, AHost, AVariable, GetChar, SymbolKind, Missing, PutChar, Signature, value_of}
use Rattle.ir_meaning.specs.Memory.{Memory, MemoryBlock}
use Rattle.ir_meaning.specs.Program.{Program}
use Rattle.ir_tree.specs.Symbols.{symbol_eq}
use Rattle.ir_meaning.specs.declared.value.Value.{Value}
use Rattle.ir_meaning.specs.Constants.{initial_bytes}

-- ---- definitions

-- what defines a symbol: a function with its body, or a variable with its number and its initialiser
pub data Definition : Type 0 where
  Body : (function : Function) → Definition
  Storage : (number : ℕ) (variable : Variable) (init : Initial) → Definition

abbrev pub body_of : List Block → Function → Option Definition
body_of [] f = None
body_of (b ∷ bs) f = Some (Body f)

abbrev pub storage_of : Option Initial → ℕ → Variable → Option Definition
storage_of None n v = None
storage_of (Some init) n v = Some (Storage n v init)

-- the body of a function and the initialiser of a variable, where they define them; a copy of another module's definition is a
-- declaration (LangRef, "Linkage Types": `available_externally`)
abbrev pub defined_blocks : Function → List Block
defined_blocks f = if defines f.linkage then f.blocks else []

abbrev pub defined_init : Variable → Option Initial
defined_init v = if defines v.linkage then v.init else None

-- a function without blocks and a variable without an initialiser are declarations
abbrev pub defined : ℕ → GlobalValue → Option Definition
defined n (global.Function f) = body_of (defined_blocks f) f
defined n (global.Variable v) = storage_of (defined_init v) n v

abbrev pub symbol_of : GlobalValue → Symbol
symbol_of (global.Function f) = f.symbol
symbol_of (global.Variable v) = v.symbol

-- the number of the next variable behind this one, if it is one
abbrev pub behind : ℕ → Option Definition → ℕ
behind n None = n
behind n (Some (Body f)) = n
behind n (Some (Storage k v init)) = suc n

abbrev pub or_else : Option Definition → Option Definition → Option Definition
or_else None later = later
or_else (Some d) later = Some d

-- the first definition of a symbol; variables that are defined are numbered from n, in order
abbrev pub definition_from : ℕ → List GlobalValue → Symbol → Option Definition
definition_from n [] s = None
definition_from n (g ∷ gs) s =
    or_else (if symbol_eq (symbol_of g) s then defined n g else None) (definition_from (behind n (defined n g)) gs s)

abbrev pub definition_of : List GlobalValue → Symbol → Option Definition
definition_of gs s = definition_from 0 gs s

-- ---- what symbols are

abbrev pub regs_of : List Param → List Reg
regs_of [] = []
regs_of (p ∷ ps) = p.reg ∷ regs_of ps

-- the symbol of a name that modules share
abbrev pub shared : List ℕ → Symbol
shared name = record { home = None; name = name }

-- a function of the outside, by its name
abbrev pub host_of : List ℕ → SymbolKind
host_of name = if bytes_eq name (codes "putchar") then AHost PutChar else (if bytes_eq name (codes "getchar") then AHost GetChar else Missing)

-- a symbol that is local to a module is nobody's outside
abbrev pub undefined_kind : Option ℕ → List ℕ → SymbolKind
undefined_kind None name = host_of name
undefined_kind (Some k) name = Missing

-- what a symbol is that is defined so; one that isn't is a function of the outside only where it is declared
abbrev pub kind_of : Bool → Symbol → Option Definition → SymbolKind
kind_of declared s None = if declared then undefined_kind s.home s.name else Missing
kind_of declared s (Some (Body f)) = AFunction (regs_of f.params) f.result
kind_of declared s (Some (Storage n v init)) = AVariable n

-- a global value declares or defines the symbol
abbrev pub is_declared : List GlobalValue → Symbol → Bool
is_declared gs s = list_any (λ g. symbol_eq (symbol_of g) s) gs

abbrev pub signature_of : List GlobalValue → Signature
signature_of gs = record { kind = λ s. kind_of (is_declared gs s) s (definition_of gs s) }

abbrev pub code_of : Option Definition → Option Function
code_of None = None
code_of (Some (Body f)) = Some f
code_of (Some (Storage n v init)) = None

-- ---- what variables begin with

abbrev pub block_of : (Operand → Value) → Variable → Initial → MemoryBlock
block_of value v init = record {
  size = size v.shape;
  align = v.align;
  bytes = initial_bytes value v.shape init;
  live = true;
  writable = not v.constant;
}

abbrev pub storage_in : (Operand → Value) → Option Definition → Memory → Memory
storage_in value None rest = rest
storage_in value (Some (Body f)) rest = rest
storage_in value (Some (Storage n v init)) rest = block_of value v init ∷ rest

-- a block for each variable that is defined, in order
abbrev pub opening_from : (Operand → Value) → List GlobalValue → Memory
opening_from value [] = []
opening_from value (g ∷ gs) = storage_in value (defined 0 g) (opening_from value gs)

-- ---- the program

abbrev pub program_of : List GlobalValue → Program
program_of gs = record {
  signature = signature_of gs;
  code = λ s. code_of (definition_of gs s);
  opening = opening_from (value_of (signature_of gs) []) gs;
}
