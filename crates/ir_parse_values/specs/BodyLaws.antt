-- Bodies of blocks, a line at a time.
use Rattle.std.specs.Prelude.{ℕ, List, [], ◌∷◌, ◌++◌, Option, None, Some, Result, Ok}
use Rattle.ir_tree.specs.declared.instr.Line.{Line}
use Rattle.ir_tree.specs.declared.instr.Phi.{Phi}
use Rattle.ir_parse_values.specs.declared.block.Body.{Body}
use Rattle.ir_parse_names.specs.declared.fault.Fault.{Fault}
use Rattle.ir_parse_values.specs.Blocks.{as_phi, phis_of, rest_of}
use Rattle.ir_parse_names.specs.Bodies.{instr_in, local_at}
use Rattle.ir_parse_names.specs.Locals.{LocalTable}
use Rattle.ir_parse_names.specs.Resolving.{◌>>=◌}
use Rattle.ir_parse_names.specs.Types.{Types}
use Rattle.ir_parse_parts.specs.declared.raw.WrittenLine as raw_line

abbrev pub placed_first : List Phi → Line → Option Phi → Body
placed_first phis l None = record { phis = phis; lines = l ∷ [] }
placed_first phis l (Some p) = record { phis = phis ++ p ∷ []; lines = [] }

abbrev pub placed_in : List Phi → List Line → Line → Body
placed_in phis [] l = placed_first phis l (as_phi l)
placed_in phis (k ∷ ks) l = record { phis = phis; lines = k ∷ ks ++ l ∷ [] }

-- one more line: a phi where only phis stand before it, else a line
abbrev pub placed : Body → Line → Body
placed b l = placed_in b.phis b.lines l

abbrev pub followed_in : List Phi → List Line → List Line → Body
followed_in phis [] more = record { phis = phis ++ phis_of more; lines = rest_of more }
followed_in phis (k ∷ ks) more = record { phis = phis; lines = k ∷ ks ++ more }

abbrev pub followed : Body → List Line → Body
followed b more = followed_in b.phis b.lines more

-- a body with one more line, whose names are resolved
abbrev pub line_onto : Types → LocalTable → ℕ → raw_line.WrittenLine → Body → Result Body Fault
line_onto types locals number line b = instr_in types locals line.instr >>= λ i. Ok (placed b (record { local = local_at number line; instr = i }))
