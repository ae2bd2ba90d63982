-- The definitions of a function in the order of its text: parameters, and each block before its results.
use Rattle.std.specs.Prelude.{Bool, true, false, ◌||◌, is_some, if◌then◌else◌, List, [], ◌∷◌, Result, Ok}
use Rattle.ir_parse_parts.specs.declared.raw.Block as raw_block
use Rattle.ir_parse_parts.specs.declared.raw.Instr.{Instr}
use Rattle.ir_parse_parts.specs.declared.raw.Instr.TheVariants as instr
use Rattle.ir_parse_parts.specs.declared.raw.WrittenLine as raw_line
use Rattle.ir_parse_parts.specs.declared.raw.Param as raw_param
use Rattle.ir_parse_names.specs.declared.fault.Fault.{Fault}
use Rattle.ir_parse_names.specs.declared.locals.Sort.TheVariants.{Value, Block}
use Rattle.ir_parse_names.specs.Locals.{LocalTable, none_known, with_name}
use Rattle.ir_parse_names.specs.Resolving.{◌>>=◌}

-- whether there is a result that takes a number without a name
abbrev pub has_result : Instr → Bool
has_result (instr.Call result callee arguments) = is_some result
has_result (instr.Store reg value address align) = false
has_result _ = true

abbrev pub is_defined : raw_line.WrittenLine → Bool
is_defined l = is_some l.name || has_result l.instr

abbrev pub with_params : LocalTable → List raw_param.Param → Result LocalTable Fault
with_params known [] = Ok known
with_params known (p ∷ ps) = with_name known p.name Value >>= λ k. with_params k ps

abbrev pub with_line : LocalTable → raw_line.WrittenLine → Result LocalTable Fault
with_line known l = if is_defined l then with_name known l.name Value else Ok known

abbrev pub with_lines : LocalTable → List raw_line.WrittenLine → Result LocalTable Fault
with_lines known [] = Ok known
with_lines known (l ∷ ls) = with_line known l >>= λ k. with_lines k ls

unfoldable pub with_block : LocalTable → raw_block.Block → Result LocalTable Fault
with_block known b = with_name known b.label Block >>= λ k. with_lines k b.lines

abbrev pub with_blocks : LocalTable → List raw_block.Block → Result LocalTable Fault
with_blocks known [] = Ok known
with_blocks known (b ∷ bs) = with_block known b >>= λ k. with_blocks k bs

-- all definitions of a function
unfoldable pub locals_of : List raw_param.Param → List raw_block.Block → Result LocalTable Fault
locals_of params blocks = with_params none_known params >>= λ k. with_blocks k blocks
