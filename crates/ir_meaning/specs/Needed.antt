-- Dead code elimination: instructions whose values nobody needs are dropped.
use Rattle.std.specs.Prelude.{◌≡◌, ℕ, ◌≤◌, Bool, true, false, ◌||◌, if◌then◌else◌, List, [], ◌∷◌, length, Option, Some, None}
use Rattle.ir_tree.specs.declared.block.Block.{Block}
use Rattle.ir_tree.specs.declared.block.Terminator.{Terminator}
use Rattle.ir_tree.specs.declared.block.Terminator.TheVariants.{Branch, Jump, Return, Switch, Unreachable}
use Rattle.ir_tree.specs.declared.function.Function.{Function}
use Rattle.ir_tree.specs.declared.instr.Incoming.{Incoming}
use Rattle.ir_tree.specs.declared.instr.Instr.{Instr}
use Rattle.ir_tree.specs.declared.instr.Instr.TheVariants.{Address, Alloca, Binary, Call, Cast, Freeze, Icmp, Load, Phi as StrayPhi, Select, Store}
use Rattle.ir_tree.specs.declared.instr.Line.{Line}
use Rattle.ir_tree.specs.declared.instr.Phi.{Phi}
use Rattle.ir_tree.specs.declared.operand.Argument.{Argument}
use Rattle.ir_tree.specs.declared.operand.Operand.{Operand}
use Rattle.ir_tree.specs.declared.operand.Operand.TheVariants.{Local}

-- the operand is no local that isn't asked for
abbrev pub IsKept : (ℕ → Bool) → Operand → Type 0
IsKept keeps (Local x) = keeps x ≡ true
IsKept keeps _ = Unit {0}

abbrev pub AllKept : (ℕ → Bool) → List Argument → Type 0
AllKept keeps [] = Unit {0}
AllKept keeps (a ∷ more) = IsKept keeps a.operand × AllKept keeps more

-- an instruction reads no other locals
abbrev pub UsesKept : (ℕ → Bool) → Instr → Type 0
UsesKept keeps (Binary op f k l r) = IsKept keeps l × IsKept keeps r
UsesKept keeps (Icmp p reg l r) = IsKept keeps l × IsKept keeps r
UsesKept keeps (Cast op from o to) = IsKept keeps o
UsesKept keeps (Select c t f) = IsKept keeps c × IsKept keeps t.operand × IsKept keeps f.operand
UsesKept keeps (Freeze k o) = IsKept keeps o
UsesKept keeps (Alloca shape align) = Unit {0}
UsesKept keeps (Load reg o align) = IsKept keeps o
UsesKept keeps (Store reg o d align) = IsKept keeps o × IsKept keeps d
UsesKept keeps (Address inbounds shape o is) = IsKept keeps o × AllKept keeps is
UsesKept keeps (Call result c args) = IsKept keeps c × AllKept keeps args
UsesKept keeps (StrayPhi reg es) = Unit {0}

-- the edges read no other locals
abbrev pub EdgesKept : (ℕ → Bool) → List Incoming → Type 0
EdgesKept keeps [] = Unit {0}
EdgesKept keeps (e ∷ es) = IsKept keeps e.value × EdgesKept keeps es

-- each phi that is asked for reads no other locals
abbrev pub PhisKept : (ℕ → Bool) → List Phi → Type 0
PhisKept keeps [] = Unit {0}
PhisKept keeps (x ∷ ps) = (keeps x.local ≡ true → EdgesKept keeps x.incoming) × PhisKept keeps ps

abbrev pub EndReads : (ℕ → Bool) → Terminator → Type 0
EndReads keeps (Return None) = Unit {0}
EndReads keeps (Return (Some a)) = IsKept keeps a.operand
EndReads keeps (Jump target) = Unit {0}
EndReads keeps (Branch c t f) = IsKept keeps c
EndReads keeps (Switch w operand default cases) = IsKept keeps operand
EndReads keeps Unreachable = Unit {0}

-- ---- the pass

-- stores and calls are always needed
abbrev pub is_effect : Instr → Bool
is_effect (Store reg o d align) = true
is_effect (Call result c args) = true
is_effect _ = false

abbrev pub local_kept : (ℕ → Bool) → Option ℕ → Bool
local_kept keeps None = false
local_kept keeps (Some x) = keeps x

abbrev pub is_needed : (ℕ → Bool) → Line → Bool
is_needed keeps line = is_effect line.instr || local_kept keeps line.local

abbrev pub needed_lines : (ℕ → Bool) → List Line → List Line
needed_lines keeps [] = []
needed_lines keeps (line ∷ rest) = if is_needed keeps line then line ∷ needed_lines keeps rest else needed_lines keeps rest

abbrev pub needed_phis : (ℕ → Bool) → List Phi → List Phi
needed_phis keeps [] = []
needed_phis keeps (p ∷ ps) = if keeps p.local then p ∷ needed_phis keeps ps else needed_phis keeps ps

abbrev pub needed_block : (ℕ → Bool) → Block → Block
needed_block keeps b = record b { phis = needed_phis keeps b.phis; lines = needed_lines keeps b.lines }

abbrev pub needed_blocks : (ℕ → Bool) → List Block → List Block
needed_blocks keeps [] = []
needed_blocks keeps (b ∷ bs) = needed_block keeps b ∷ needed_blocks keeps bs

-- the function without what nobody needs
abbrev pub needed : (ℕ → Bool) → Function → Function
needed keeps f = record f { blocks = needed_blocks keeps f.blocks }

-- what is needed reads only what is kept
abbrev pub LinesClosed : (ℕ → Bool) → List Line → Type 0
LinesClosed keeps [] = Unit {0}
LinesClosed keeps (line ∷ rest) = (is_needed keeps line ≡ true → UsesKept keeps line.instr) × LinesClosed keeps rest

-- and each block has at most k instructions
pub record BlockClosed (keeps : ℕ → Bool) (k : ℕ) (b : Block) : Type 0 where
  pub phis : PhisKept keeps b.phis
  pub lines : LinesClosed keeps b.lines
  pub end : EndReads keeps b.end
  pub short : length b.lines ≤ k

abbrev pub BlocksClosed : (ℕ → Bool) → ℕ → List Block → Type 0
BlocksClosed keeps k [] = Unit {0}
BlocksClosed keeps k (b ∷ bs) = BlockClosed keeps k b × BlocksClosed keeps k bs
