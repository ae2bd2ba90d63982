-- Inlining: a call replaced by the callee's body.
use Rattle.std.specs.Prelude.{◌≡◌, ℕ, ◌+◌, ◌<◌, ◌≤◌, Bool, true, ◌&&◌, nat_lt, ◌==◌, if◌then◌else◌, List, [], ◌∷◌, ◌++◌, Option, Some, None}
use Rattle.ir_tree.specs.declared.block.Block.{Block}
use Rattle.ir_tree.specs.declared.block.Case.{Case}
use Rattle.ir_tree.specs.declared.block.Terminator.{Terminator}
use Rattle.ir_tree.specs.declared.block.Terminator.TheVariants.{Branch, Jump, Return, Switch, Unreachable}
use Rattle.ir_tree.specs.declared.function.Function.{Function}
use Rattle.ir_tree.specs.declared.function.Param.{Param}
use Rattle.ir_tree.specs.declared.instr.Incoming.{Incoming}
use Rattle.ir_tree.specs.declared.instr.Instr.TheVariants.{Call}
use Rattle.ir_tree.specs.declared.instr.Line.{Line}
use Rattle.ir_tree.specs.declared.instr.Phi.{Phi}
use Rattle.ir_tree.specs.declared.operand.Argument.{Argument}
use Rattle.ir_tree.specs.declared.operand.Operand.{Operand}
use Rattle.ir_tree.specs.declared.operand.Operand.TheVariants.{Local, Symbol as Named}
use Rattle.ir_tree.specs.declared.operand.Reg.{Reg}
use Rattle.ir_tree.specs.declared.operand.Symbol.{Symbol}
use Rattle.ir_tree.specs.Edited.{with_operands}
use Rattle.ir_meaning.specs.Act.{find_block}
use Rattle.ir_meaning.specs.Execute.{regs_eq, result_eq}
use Rattle.ir_meaning.specs.Frame.{AFunction, regs_of}
use Rattle.ir_meaning.specs.Program.{Program}
use Rattle.ir_meaning.specs.Needed.{EndReads, IsKept, UsesKept}

-- a call, and how its callee is moved into the caller
pub record Site : Type 0 where
  -- the block of the call, what stands before the call and behind it, and the call
  pub block : ℕ
  pub before : List Line
  pub call : Line
  pub after : List Line
  pub callee : Symbol
  pub result : Option Reg
  pub arguments : List Argument
  -- what is added to the callee's numbers, and the number of the block of what stands behind the call
  pub by : ℕ
  pub join : ℕ
  pub join_reg : Reg
  -- the callee
  pub body : Function

-- the argument of a parameter
abbrev pub argument_of : List Param → List Argument → ℕ → Option Operand
argument_of [] arguments x = None
argument_of (p ∷ ps) [] x = None
argument_of (p ∷ ps) (a ∷ more) x = if p.local == x then Some a.operand else argument_of ps more x

abbrev pub or_moved : ℕ → ℕ → Option Operand → Operand
or_moved by x None = Local (x + by)
or_moved by x (Some o) = o

-- an operand of the callee: a parameter is its argument, another local is moved
abbrev pub moved : Site → Operand → Operand
moved t (Local x) = or_moved t.by x (argument_of t.body.params t.arguments x)
moved t o = o

abbrev pub local_moved : ℕ → Option ℕ → Option ℕ
local_moved by None = None
local_moved by (Some x) = Some (x + by)

abbrev pub line_moved : Site → Line → Line
line_moved t l = record { local = local_moved t.by l.local; instr = with_operands (moved t) l.instr }

abbrev pub lines_moved : Site → List Line → List Line
lines_moved t [] = []
lines_moved t (l ∷ ls) = line_moved t l ∷ lines_moved t ls

abbrev pub edges_moved : Site → List Incoming → List Incoming
edges_moved t [] = []
edges_moved t (e ∷ es) = record { from = e.from + t.by; value = moved t e.value } ∷ edges_moved t es

abbrev pub phis_moved : Site → List Phi → List Phi
phis_moved t [] = []
phis_moved t (p ∷ ps) = record { local = p.local + t.by; reg = p.reg; incoming = edges_moved t p.incoming } ∷ phis_moved t ps

abbrev pub cases_moved : ℕ → List Case → List Case
cases_moved by [] = []
cases_moved by (c ∷ cs) = record c { target = c.target + by } ∷ cases_moved by cs

-- a return of the callee goes to the join
abbrev pub end_moved : Site → Terminator → Terminator
end_moved t (Return argument) = Jump t.join
end_moved t (Jump target) = Jump (target + t.by)
end_moved t (Branch c yes' no') = Branch (moved t c) (yes' + t.by) (no' + t.by)
end_moved t (Switch w o default cases) = Switch w (moved t o) (default + t.by) (cases_moved t.by cases)
end_moved t Unreachable = Unreachable

abbrev pub block_moved : Site → Block → Block
block_moved t b = record { number = b.number + t.by; phis = phis_moved t b.phis; lines = lines_moved t b.lines; end = end_moved t b.end }

abbrev pub blocks_moved : Site → List Block → List Block
blocks_moved t [] = []
blocks_moved t (b ∷ bs) = block_moved t b ∷ blocks_moved t bs

-- one entry for each return, in block order
abbrev pub return_edge : Site → ℕ → Terminator → List Incoming → List Incoming
return_edge t n (Return (Some a)) es = record { from = n + t.by; value = moved t a.operand } ∷ es
return_edge t n _ es = es

abbrev pub return_edges : Site → List Block → List Incoming
return_edges t [] = []
return_edges t (b ∷ bs) = return_edge t b.number b.end (return_edges t bs)

abbrev pub join_phis : Site → Option ℕ → List Phi
join_phis t None = []
join_phis t (Some x) = record { local = x; reg = t.join_reg; incoming = return_edges t t.body.blocks } ∷ []

-- phi entries that named the block of the call name the join
abbrev pub renamed : Site → ℕ → ℕ
renamed t n = if n == t.block then t.join else n

abbrev pub edges_renamed : Site → List Incoming → List Incoming
edges_renamed t [] = []
edges_renamed t (e ∷ es) = record { from = renamed t e.from; value = e.value } ∷ edges_renamed t es

abbrev pub phis_renamed : Site → List Phi → List Phi
phis_renamed t [] = []
phis_renamed t (p ∷ ps) = record { local = p.local; reg = p.reg; incoming = edges_renamed t p.incoming } ∷ phis_renamed t ps

abbrev pub block_renamed : Site → Block → Block
block_renamed t b = record { number = b.number; phis = phis_renamed t b.phis; lines = b.lines; end = b.end }

abbrev pub blocks_renamed : Site → List Block → List Block
blocks_renamed t [] = []
blocks_renamed t (b ∷ bs) = block_renamed t b ∷ blocks_renamed t bs

abbrev pub entry_number : List Block → ℕ
entry_number [] = 0
entry_number (b ∷ bs) = b.number

-- the block of the call, up to it
abbrev pub first_part : Site → Block → Block
first_part t b = record {
  number = b.number;
  phis = phis_renamed t b.phis;
  lines = t.before;
  end = Jump (entry_number t.body.blocks + t.by);
}

-- and what stands behind it
abbrev pub second_part : Site → Block → Block
second_part t b = record { number = t.join; phis = join_phis t t.call.local; lines = t.after; end = b.end }

abbrev pub inlined_blocks : Site → List Block → List Block
inlined_blocks t [] = []
inlined_blocks t (b ∷ bs) =
    if b.number == t.block
    then first_part t b ∷ (blocks_moved t t.body.blocks ++ second_part t b ∷ blocks_renamed t bs)
    else block_renamed t b ∷ inlined_blocks t bs

abbrev pub inlined : Site → Function → Function
inlined t f = record f { blocks = inlined_blocks t f.blocks }

-- ---- conditions

abbrev pub below : ℕ → ℕ → Bool
below n x = nat_lt x n

-- the caller's numbers are below what is added
abbrev pub EdgesBelow : ℕ → List Incoming → Type 0
EdgesBelow n [] = Unit {0}
EdgesBelow n (e ∷ es) = (e.from < n) × IsKept (below n) e.value × EdgesBelow n es

abbrev pub PhisBelow : ℕ → List Phi → Type 0
PhisBelow n [] = Unit {0}
PhisBelow n (p ∷ ps) = EdgesBelow n p.incoming × PhisBelow n ps

abbrev pub LinesBelow : ℕ → List Line → Type 0
LinesBelow n [] = Unit {0}
LinesBelow n (l ∷ ls) = UsesKept (below n) l.instr × LinesBelow n ls

pub record BlockBelow (n : ℕ) (b : Block) : Type 0 where
  pub number : b.number < n
  pub phis : PhisBelow n b.phis
  pub lines : LinesBelow n b.lines
  pub end : EndReads (below n) b.end

abbrev pub BlocksBelow : ℕ → List Block → Type 0
BlocksBelow n [] = Unit {0}
BlocksBelow n (b ∷ bs) = BlockBelow n b × BlocksBelow n bs

-- the callee gives no value to a parameter
abbrev pub IsNoParameter : Site → Option ℕ → Type 0
IsNoParameter t None = Unit {0}
IsNoParameter t (Some x) = argument_of t.body.params t.arguments x ≡ None

abbrev pub LinesSparing : Site → List Line → Type 0
LinesSparing t [] = Unit {0}
LinesSparing t (l ∷ ls) = IsNoParameter t l.local × LinesSparing t ls

abbrev pub PhisSparing : Site → List Phi → Type 0
PhisSparing t [] = Unit {0}
PhisSparing t (p ∷ ps) = IsNoParameter t (Some p.local) × PhisSparing t ps

-- a return without a value is for a call without a result
abbrev pub ReturnsFor : Site → Terminator → Type 0
ReturnsFor t (Return None) = t.call.local ≡ None
ReturnsFor t _ = Unit {0}

pub record BlockSparing (t : Site) (b : Block) : Type 0 where
  pub number : b.number + t.by < t.join
  pub phis : PhisSparing t b.phis
  pub lines : LinesSparing t b.lines
  pub end : ReturnsFor t b.end

abbrev pub BlocksSparing : Site → List Block → Type 0
BlocksSparing t [] = Unit {0}
BlocksSparing t (b ∷ bs) = BlockSparing t b × BlocksSparing t bs

-- the callee is the program's own, and the call is a direct one of its type
pub record CanInline (p : Program) (f : Function) (t : Site) : Type 0 where
  pub code : p.code t.callee ≡ Some t.body
  pub calls : t.call.instr ≡ Call t.result (Named t.callee 0) t.arguments
  pub params : List Reg
  pub returns : Option Reg
  pub kind : p.signature.kind t.callee ≡ AFunction params returns
  pub type_is : (regs_eq params (regs_of t.arguments) && result_eq returns t.result) ≡ true
  pub block : Block
  pub found : find_block f.blocks t.block ≡ Some block
  pub lines : block.lines ≡ t.before ++ t.call ∷ t.after
  pub caller : BlocksBelow t.by f.blocks
  pub join : t.by ≤ t.join
  pub entry : Block
  pub others : List Block
  pub blocks : t.body.blocks ≡ entry ∷ others
  pub no_phis : entry.phis ≡ []
  pub callee : BlocksSparing t t.body.blocks
