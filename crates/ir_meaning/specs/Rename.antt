-- Renaming and dropping of symbols: a program with other names for its symbols, and without some of them.
use Rattle.std.specs.Prelude.{◌≡◌, ◌≢◌, ℕ, ◌+◌, ◌-◌, ◌<◌, ◌≤◌, Bool, true, false, IsTrue, nat_lt, if◌then◌else◌, List, [], ◌∷◌, length, map, slice_get, option_map, Option, Some, None}
use Rattle.ir_tree.specs.declared.block.Block.{Block}
use Rattle.ir_tree.specs.declared.block.Terminator.{Terminator}
use Rattle.ir_tree.specs.declared.block.Terminator.TheVariants.{Branch, Jump, Return, Switch, Unreachable}
use Rattle.ir_tree.specs.declared.function.Function.{Function}
use Rattle.ir_tree.specs.declared.instr.Incoming.{Incoming}
use Rattle.ir_tree.specs.declared.instr.Instr.{Instr}
use Rattle.ir_tree.specs.declared.instr.Instr.TheVariants.{Address, Alloca, Binary, Call, Cast, Freeze, Icmp, Load, Phi as StrayPhi, Select, Store}
use Rattle.ir_tree.specs.declared.instr.Line.{Line}
use Rattle.ir_tree.specs.declared.instr.Phi.{Phi}
use Rattle.ir_tree.specs.declared.operand.Argument.{Argument}
use Rattle.ir_tree.specs.declared.operand.Operand.{Operand}
use Rattle.ir_tree.specs.declared.operand.Operand.TheVariants.{Symbol as Named}
use Rattle.ir_tree.specs.declared.operand.Symbol.{Symbol}
use Rattle.ir_tree.specs.Edited.{argument_edited, incoming_edited, with_operands}
use Rattle.ir_meaning.specs.Frame.{AFunction, AHost, AVariable, SymbolKind, Missing}
use Rattle.ir_meaning.specs.Memory.{MemoryBlock}
use Rattle.ir_meaning.specs.Near.{IsBetter}
use Rattle.ir_meaning.specs.Program.{Program, variables}
use Rattle.ir_meaning.specs.Refine.{Naming, RefinesUnder}
use Rattle.ir_meaning.specs.declared.value.Base.{Base}
use Rattle.ir_meaning.specs.declared.value.Base.TheVariants.{Cell, Code, Nowhere}
use Rattle.ir_meaning.specs.declared.value.Byte.{Byte}
use Rattle.ir_meaning.specs.declared.value.Byte.TheVariants.{Fragment}
use Rattle.ir_meaning.specs.Formed.{OpensInside}

-- ---- code under other names: each operand's symbol is the program's

abbrev pub operand_under : Naming → Operand → Operand
operand_under t (Named s offset) = Named (t.symbol s) offset
operand_under t o = o

abbrev pub line_under : Naming → Line → Line
line_under t line = record { local = line.local; instr = with_operands (operand_under t) line.instr }

abbrev pub edge_under : Naming → Incoming → Incoming
edge_under t e = incoming_edited (λ n. n) (operand_under t) e

abbrev pub phi_under : Naming → Phi → Phi
phi_under t x = record { local = x.local; reg = x.reg; incoming = map (edge_under t) x.incoming }

abbrev pub argument_under : Naming → Argument → Argument
argument_under t a = argument_edited (operand_under t) a

abbrev pub end_under : Naming → Terminator → Terminator
end_under t (Return a) = Return (option_map (argument_under t) a)
end_under t (Jump target) = Jump target
end_under t (Branch c yes' no') = Branch (operand_under t c) yes' no'
end_under t (Switch w o default cases) = Switch w (operand_under t o) default cases
end_under t Unreachable = Unreachable

abbrev pub block_under : Naming → Block → Block
block_under t b = record { number = b.number; phis = map (phi_under t) b.phis; lines = map (line_under t) b.lines; end = end_under t b.end }

-- the second has the first one's parameters, and its blocks under the other names
pub record FunctionUnder (t : Naming) (f g : Function) : Type 0 where
  pub params : g.params ≡ f.params
  pub blocks : g.blocks ≡ map (block_under t) f.blocks

-- no function on both sides, or the same under the other names
abbrev pub CodeUnder : Naming → Option Function → Option Function → Type 0
CodeUnder t None None = Unit {0}
CodeUnder t (Some f) (Some g) = FunctionUnder t f g
CodeUnder t _ _ = ⊥

-- ---- values and memory under other names

-- the program's number of a block: a variable's as the naming has it; the stack blocks follow on both sides in one order
abbrev pub cell_under : Naming → ℕ → ℕ
cell_under t l = if nat_lt l t.count then t.variable l else (l - t.count) + t.count'

abbrev pub base_under : Naming → Base → Base
base_under t Nowhere = Nowhere
base_under t (Code s) = Code (t.symbol s)
base_under t (Cell l) = Cell (cell_under t l)

abbrev pub byte_under : Naming → Byte → Byte
byte_under t (Fragment i x offset) = Fragment i (base_under t x) offset
byte_under t b = b

abbrev pub bytes_under : Naming → List Byte → List Byte
bytes_under t [] = []
bytes_under t (b ∷ bs) = byte_under t b ∷ bytes_under t bs

abbrev pub cells_under : Naming → MemoryBlock → MemoryBlock
cells_under t b = record { size = b.size; align = b.align; bytes = bytes_under t b.bytes; live = b.live; writable = b.writable }

abbrev pub kind_under : Naming → SymbolKind → SymbolKind
kind_under t (AFunction params result) = AFunction params result
kind_under t (AVariable number) = AVariable (cell_under t number)
kind_under t (AHost host) = AHost host
kind_under t Missing = Missing

-- what a program has is what the other has under other names; what else the other has is no symbol's and no variable's of the first
pub record IsRenamed (t : Naming) (q p : Program) : Type 0 where
  pub count : t.count ≡ variables q
  pub count' : t.count' ≡ variables p
  pub symbols : (s u : Symbol) → t.symbol s ≡ t.symbol u → s ≡ u
  pub within : (l : ℕ) → l < t.count → t.variable l < t.count'
  pub one_to_one : (l m : ℕ) → l < t.count → m < t.count → t.variable l ≡ t.variable m → l ≡ m
  pub kinds : (s : Symbol) → p.signature.kind (t.symbol s) ≡ kind_under t (q.signature.kind s)
  pub code : (s : Symbol) → CodeUnder t (q.code s) (p.code (t.symbol s))
  pub opening : (l : ℕ) → l < t.count → slice_get p.opening (t.variable l) ≡ option_map (cells_under t) (slice_get q.opening l)

-- such a program refines the other, from the roots under their names there
abbrev pub RenamedRefines : Type 0
RenamedRefines = (t : Naming) (q p : Program) → IsRenamed t q p → (IsRoot : Symbol → Bool) → RefinesUnder t q p (λ s. IsTrue (IsRoot s))

-- ---- without what is not kept

-- only kept symbols are named
abbrev pub OperandNames : (Symbol → Bool) → Operand → Type 0
OperandNames keeps (Named s offset) = keeps s ≡ true
OperandNames keeps _ = Unit {0}

abbrev pub ArgumentsName : (Symbol → Bool) → List Argument → Type 0
ArgumentsName keeps [] = Unit {0}
ArgumentsName keeps (a ∷ more) = OperandNames keeps a.operand × ArgumentsName keeps more

abbrev pub EdgesName : (Symbol → Bool) → List Incoming → Type 0
EdgesName keeps [] = Unit {0}
EdgesName keeps (e ∷ es) = OperandNames keeps e.value × EdgesName keeps es

abbrev pub InstrNames : (Symbol → Bool) → Instr → Type 0
InstrNames keeps (Binary op flags w l r) = OperandNames keeps l × OperandNames keeps r
InstrNames keeps (Icmp p reg l r) = OperandNames keeps l × OperandNames keeps r
InstrNames keeps (Cast op from o to) = OperandNames keeps o
InstrNames keeps (Select c l r) = OperandNames keeps c × OperandNames keeps l.operand × OperandNames keeps r.operand
InstrNames keeps (Freeze w o) = OperandNames keeps o
InstrNames keeps (Alloca shape align) = Unit {0}
InstrNames keeps (Load reg o align) = OperandNames keeps o
InstrNames keeps (Store reg o d align) = OperandNames keeps o × OperandNames keeps d
InstrNames keeps (Address inbounds shape o is) = OperandNames keeps o × ArgumentsName keeps is
InstrNames keeps (Call result c args) = OperandNames keeps c × ArgumentsName keeps args
InstrNames keeps (StrayPhi reg es) = EdgesName keeps es

abbrev pub LinesName : (Symbol → Bool) → List Line → Type 0
LinesName keeps [] = Unit {0}
LinesName keeps (line ∷ rest) = InstrNames keeps line.instr × LinesName keeps rest

abbrev pub PhisName : (Symbol → Bool) → List Phi → Type 0
PhisName keeps [] = Unit {0}
PhisName keeps (x ∷ ps) = EdgesName keeps x.incoming × PhisName keeps ps

abbrev pub EndNames : (Symbol → Bool) → Terminator → Type 0
EndNames keeps (Return None) = Unit {0}
EndNames keeps (Return (Some a)) = OperandNames keeps a.operand
EndNames keeps (Jump target) = Unit {0}
EndNames keeps (Branch c yes' no') = OperandNames keeps c
EndNames keeps (Switch w o default cases) = OperandNames keeps o
EndNames keeps Unreachable = Unit {0}

abbrev pub BlocksName : (Symbol → Bool) → List Block → Type 0
BlocksName keeps [] = Unit {0}
BlocksName keeps (b ∷ bs) = PhisName keeps b.phis × LinesName keeps b.lines × EndNames keeps b.end × BlocksName keeps bs

abbrev pub ByteNames : (Symbol → Bool) → Byte → Type 0
ByteNames keeps (Fragment i (Code s) offset) = keeps s ≡ true
ByteNames keeps _ = Unit {0}

abbrev pub BytesName : (Symbol → Bool) → List Byte → Type 0
BytesName keeps [] = Unit {0}
BytesName keeps (b ∷ bs) = ByteNames keeps b × BytesName keeps bs

-- q has the kept symbols of p and no other, under its own names for them; its code and its variables name kept symbols alone
pub record IsKeptOf (t : Naming) (keeps : Symbol → Bool) (most : ℕ) (q p : Program) : Type 0 where
  pub count : t.count ≡ variables q
  pub count' : t.count' ≡ variables p
  pub within : (l : ℕ) → l < t.count → t.variable l < t.count'
  pub one_to_one : (l m : ℕ) → l < t.count → m < t.count → t.variable l ≡ t.variable m → l ≡ m
  pub symbols : (s u : Symbol) → keeps s ≡ true → keeps u ≡ true → t.symbol s ≡ t.symbol u → s ≡ u
  -- the names of p's symbols are of at most so many bytes
  pub short : (s : Symbol) → keeps s ≡ true → length (t.symbol s).name ≤ most
  pub longer : (s : Symbol) → most < length s.name → (p.signature.kind s ≡ Missing) × (p.code s ≡ None)
  pub kinds : (s : Symbol) → keeps s ≡ true → p.signature.kind (t.symbol s) ≡ kind_under t (q.signature.kind s)
  pub code : (s : Symbol) → keeps s ≡ true → CodeUnder t (q.code s) (p.code (t.symbol s))
  pub gone : (s : Symbol) → keeps s ≡ false → (q.signature.kind s ≡ Missing) × (q.code s ≡ None)
  pub closed : (s : Symbol) (f : Function) → q.code s ≡ Some f → BlocksName keeps f.blocks
  pub opening : (l : ℕ) → l < t.count → slice_get p.opening (t.variable l) ≡ option_map (cells_under t) (slice_get q.opening l)
  pub pointers : (l : ℕ) (b : MemoryBlock) → slice_get q.opening l ≡ Some b → BytesName keeps b.bytes

-- such a program refines the other, from kept roots under their names there
abbrev pub KeptRefines : Type 0
KeptRefines = (t : Naming) (keeps : Symbol → Bool) (most : ℕ) (q p : Program) → IsKeptOf t keeps most q p →
    (IsRoot : Symbol → Bool) → ((s : Symbol) → IsTrue (IsRoot s) → keeps s ≡ true) → RefinesUnder t q p (λ s. IsTrue (IsRoot s))

-- ---- in the direction of the emission: the live symbols of p, renamed

-- the block of the program is a variable that is there
abbrev pub IsThere : Naming → ℕ → Type 0
IsThere t r = (l : ℕ) × (l < t.count) × (t.variable l ≡ r)

-- a pointer leads to what is live, if anywhere
abbrev pub ByteReaches : Naming → (Symbol → Bool) → Byte → Type 0
ByteReaches t live (Fragment i (Code s) offset) = live s ≡ true
ByteReaches t live (Fragment i (Cell r) offset) = IsThere t r
ByteReaches t live _ = Unit {0}

abbrev pub BytesReach : Naming → (Symbol → Bool) → List Byte → Type 0
BytesReach t live [] = Unit {0}
BytesReach t live (b ∷ bs) = ByteReaches t live b × BytesReach t live bs

-- q is p's live symbols under their final names, and no more; what is live names and points to what is live alone.
-- `final` has the final name of each symbol of p and the new number of each of p's variables, t leads back
pub record IsEmitted (t final : Naming) (live : Symbol → Bool) (most : ℕ) (q p : Program) : Type 0 where
  pub count : t.count ≡ variables q
  pub count' : t.count' ≡ variables p
  pub final_count : final.count ≡ variables p
  pub within : (l : ℕ) → l < t.count → t.variable l < t.count'
  pub variable_back : (l : ℕ) → l < t.count → final.variable (t.variable l) ≡ l
  pub symbol_back : (s : Symbol) → live s ≡ true → t.symbol (final.symbol s) ≡ s
  -- the names of p's symbols are of at most so many bytes
  pub short : (s : Symbol) → live s ≡ true → length s.name ≤ most
  pub longer : (s : Symbol) → most < length s.name → (p.signature.kind s ≡ Missing) × (p.code s ≡ None)
  pub kinds : (s : Symbol) → live s ≡ true → q.signature.kind (final.symbol s) ≡ kind_under final (p.signature.kind s)
  pub code : (s : Symbol) → live s ≡ true → CodeUnder final (p.code s) (q.code (final.symbol s))
  pub only : (u : Symbol) → ((s : Symbol) → live s ≡ true → final.symbol s ≢ u) → (q.signature.kind u ≡ Missing) × (q.code u ≡ None)
  pub opening : (l : ℕ) → l < t.count → slice_get q.opening l ≡ option_map (cells_under final) (slice_get p.opening (t.variable l))
  -- reached from what is live
  pub closed : (s : Symbol) (f : Function) → live s ≡ true → p.code s ≡ Some f → BlocksName live f.blocks
  pub numbers : (s : Symbol) (r : ℕ) → live s ≡ true → p.signature.kind s ≡ AVariable r → IsThere t r
  pub pointers : (l : ℕ) (b : MemoryBlock) → l < t.count → slice_get p.opening (t.variable l) ≡ Some b → BytesReach t live b.bytes

-- such a program refines the other, from the final names of live roots
abbrev pub EmittedRefines : Type 0
EmittedRefines = (t final : Naming) (live : Symbol → Bool) (most : ℕ) (q p : Program) → IsEmitted t final live most q p →
    (IsRoot : Symbol → Bool) → ((s : Symbol) → IsTrue (IsRoot s) → live s ≡ true) →
    RefinesUnder t q p (λ u. (s : Symbol) × IsTrue (IsRoot s) × (final.symbol s ≡ u))

-- first these names, then those
abbrev pub then_names : Naming → Naming → Naming
then_names t u = record {
  symbol = λ s. u.symbol (t.symbol s);
  variable = λ l. u.variable (t.variable l);
  count = t.count;
  count' = u.count';
}

-- refining under some names and then under others
abbrev pub ChainUnder : Type 0
ChainUnder = (t u : Naming) (a b c : Program) (IsRoot IsRoot' : Symbol → Bool) → t.count' ≡ u.count →
    ((l : ℕ) → l < t.count → t.variable l < t.count') → ((s : Symbol) → IsTrue (IsRoot s) → IsTrue (IsRoot' (t.symbol s))) →
    RefinesUnder t a b (λ s. IsTrue (IsRoot s)) → RefinesUnder u b c (λ s. IsTrue (IsRoot' s)) →
    RefinesUnder (then_names t u) a c (λ s. IsTrue (IsRoot s))

-- the live part of q under its final names refines p, where each function of q is better than p's own
abbrev pub LinkedRefines : Type 0
LinkedRefines = (t final : Naming) (live : Symbol → Bool) (most bound : ℕ) (l q p : Program) → OpensInside p →
    IsBetter q p bound → IsEmitted t final live most l q → (IsRoot : Symbol → Bool) →
    ((s : Symbol) → IsTrue (IsRoot s) → live s ≡ true) →
    RefinesUnder t l p (λ u. (s : Symbol) × IsTrue (IsRoot s) × (final.symbol s ≡ u))
