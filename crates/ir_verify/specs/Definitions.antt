-- The locals of a function with their types and homes, and its blocks with their places, in the order of the text.
use Rattle.std.specs.Prelude.{ℕ, suc, List, [], ◌∷◌, ◌++◌, Option, Some, None}
use Rattle.ir_tree.specs.declared.block.Block.{Block}
use Rattle.ir_tree.specs.declared.function.Function.{Function}
use Rattle.ir_tree.specs.declared.function.Param.{Param}
use Rattle.ir_tree.specs.declared.instr.Line.{Line}
use Rattle.ir_tree.specs.declared.instr.Phi.{Phi}
use Rattle.ir_tree.specs.declared.operand.Reg.{Reg}
use Rattle.ir_tree.specs.Rules.{result_type}
use Rattle.ir_verify.specs.declared.definitions.Definition.{Definition}
use Rattle.ir_verify.specs.Tables.{Holds}

abbrev pub Pair : Type 0
Pair = ℕ × Definition

abbrev pub at_home : ℕ → Option Reg → ℕ → ℕ → Pair
at_home x reg b k = (x, record { reg = reg; home = Some (record { block = b; after = k }) })

abbrev pub param_pair : Param → Pair
param_pair p = (p.local, record { reg = Some p.reg; home = None })

abbrev pub param_pairs : List Param → List Pair
param_pairs [] = []
param_pairs (p ∷ ps) = param_pair p ∷ param_pairs ps

abbrev pub phi_pairs : ℕ → List Phi → List Pair
phi_pairs b [] = []
phi_pairs b (p ∷ ps) = at_home p.local (Some p.reg) b 0 ∷ phi_pairs b ps

abbrev pub named : Option ℕ → Option Reg → ℕ → ℕ → List Pair
named None reg b k = []
named (Some x) reg b k = at_home x reg b k ∷ []

-- a result is there behind its line
abbrev pub line_pairs : ℕ → ℕ → List Line → List Pair
line_pairs b k [] = []
line_pairs b k (l ∷ ls) = named l.local (result_type l.instr) b (suc k) ++ line_pairs b (suc k) ls

abbrev pub block_pairs : ℕ → Block → List Pair
block_pairs b block = phi_pairs b block.phis ++ line_pairs b 0 block.lines

abbrev pub blocks_pairs : ℕ → List Block → List Pair
blocks_pairs b [] = []
blocks_pairs b (block ∷ bs) = block_pairs b block ++ blocks_pairs (suc b) bs

unfoldable pub definitions : Function → List Pair
definitions f = param_pairs f.params ++ blocks_pairs 0 f.blocks

-- the numbers of blocks with their places
abbrev pub numbered : ℕ → List Block → List (ℕ × ℕ)
numbered b [] = []
numbered b (block ∷ bs) = (block.number, b) ∷ numbered (suc b) bs

-- a table that held some pairs holds these behind them
abbrev pub Extends : {T : Type 0} → List (Option T) → List (Option T) → List (ℕ × T) → Type 0
Extends {T} old new more = (pairs : List (ℕ × T)) → Holds old pairs → Holds new (pairs ++ more)
