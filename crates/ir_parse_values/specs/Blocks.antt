-- Blocks and functions with each name resolved.
use Rattle.std.specs.Prelude.{ℕ, ◌+◌, Bool, List, [], ◌∷◌, length, Option, None, Some, Result, Ok}
use Rattle.ir_parse_parts.specs.declared.raw.Block as raw_block
use Rattle.ir_parse_parts.specs.declared.raw.FunctionHeader as raw_head
use Rattle.ir_parse_parts.specs.declared.raw.WrittenLine as raw_line
use Rattle.ir_parse_parts.specs.declared.raw.Terminator as raw_end
use Rattle.ir_parse_parts.specs.declared.raw.Param as raw_param
use Rattle.ir_tree.specs.declared.block.Block.{Block}
use Rattle.ir_tree.specs.declared.function.Function.{Function}
use Rattle.ir_tree.specs.declared.function.Param.{Param}
use Rattle.ir_tree.specs.declared.instr.Instr.{Instr}
use Rattle.ir_tree.specs.declared.instr.Instr.TheVariants as ti
use Rattle.ir_tree.specs.declared.instr.Line.{Line}
use Rattle.ir_tree.specs.declared.instr.Phi.{Phi}
use Rattle.ir_parse_values.specs.declared.block.Body.{Body}
use Rattle.ir_parse_names.specs.declared.fault.Fault.{Fault}
use Rattle.ir_parse_names.specs.Bodies.{lines_in, behind_lines, end_in}
use Rattle.ir_parse_names.specs.Locals.{LocalTable}
use Rattle.ir_parse_names.specs.Numbering.{locals_of}
use Rattle.ir_parse_names.specs.Resolving.{◌>>=◌}
use Rattle.ir_parse_names.specs.Symbols.{symbol_of}
use Rattle.ir_parse_names.specs.Types.{Types}

-- a line as a phi, where it is one
abbrev pub phi_of : Option ℕ → Instr → Option Phi
phi_of (Some n) (ti.Phi reg incoming) = Some (record { local = n; reg = reg; incoming = incoming })
phi_of local instr = None

abbrev pub as_phi : Line → Option Phi
as_phi l = phi_of l.local l.instr

abbrev pub phi_before : Option Phi → List Phi → List Phi
phi_before None more = []
phi_before (Some p) more = p ∷ more

abbrev pub lines_behind : Option Phi → List Line → List Line → List Line
lines_behind None all rest = all
lines_behind (Some p) all rest = rest

-- the phis that stand first are the block's phis, and what follows its lines
abbrev pub phis_of : List Line → List Phi
phis_of [] = []
phis_of (l ∷ ls) = phi_before (as_phi l) (phis_of ls)

abbrev pub rest_of : List Line → List Line
rest_of [] = []
rest_of (l ∷ ls) = lines_behind (as_phi l) (l ∷ ls) (rest_of ls)

abbrev pub body_of : List Line → Body
body_of ls = record { phis = phis_of ls; lines = rest_of ls }

abbrev pub body_in : Types → LocalTable → ℕ → List raw_line.WrittenLine → Result Body Fault
body_in types locals next lines = lines_in types locals next lines >>= λ ls. Ok (body_of ls)

-- a block under its number; its lines take the numbers behind it
unfoldable pub block_of : Types → LocalTable → ℕ → List raw_line.WrittenLine → raw_end.Terminator → Result Block Fault
block_of types locals number lines end =
    body_in types locals (number + 1) lines >>= λ body. end_in types locals end >>= λ e. Ok (record { number = number; phis = body.phis; lines = body.lines; end = e })

abbrev pub block_in : Types → LocalTable → ℕ → raw_block.Block → Result Block Fault
block_in types locals number b = block_of types locals number b.lines b.end

abbrev pub behind_block : ℕ → raw_block.Block → ℕ
behind_block number b = behind_lines (number + 1) b.lines

abbrev pub blocks_in : Types → LocalTable → ℕ → List raw_block.Block → Result (List Block) Fault
blocks_in types locals next [] = Ok []
blocks_in types locals next (b ∷ bs) =
    block_in types locals next b >>= λ t. blocks_in types locals (behind_block next b) bs >>= λ ts. Ok (t ∷ ts)

abbrev pub params_from : ℕ → List raw_param.Param → List Param
params_from n [] = []
params_from n (p ∷ ps) = record { local = n; reg = p.reg } ∷ params_from (n + 1) ps

-- the blocks of a function, whose locals are found first; no block of a declaration
abbrev pub blocks_of : Types → List raw_param.Param → List raw_block.Block → Result (List Block) Fault
blocks_of types params blocks = locals_of params blocks >>= λ locals. blocks_in types locals (length params) blocks

-- a function: parameters from 0 on, then each block followed by its results
unfoldable pub function_in : Types → raw_head.FunctionHeader → List raw_block.Block → Bool → Bool → Result Function Fault
function_in types head blocks noinline optnone =
    blocks_of types head.params blocks >>= λ bs.
    Ok (record { symbol = symbol_of head.name; linkage = head.linkage; result = head.result; params = params_from 0 head.params; noinline = noinline; optnone = optnone; blocks = bs })
