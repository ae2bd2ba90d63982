-- Lines and what stands on them.
use Rattle.std.specs.Prelude.{◌≡◌, Bool, List, length, flat_map, IfOk}
use Rattle.ir_parse_parts.specs.declared.raw.Block as raw_block
use Rattle.ir_parse_parts.specs.declared.raw.FunctionHeader as raw_head
use Rattle.ir_tree.specs.Items.{items}
use Rattle.ir_parse_values.specs.Blocks.{function_in}
use Rattle.ir_parse_names.specs.Types.{Types}
use Rattle.ir_parse.specs.Lines.{block_lines}

-- a function has a line for each phi, instruction and terminator
abbrev pub LinesFit : Type 0
LinesFit =
    (types : Types) (head : raw_head.FunctionHeader) (blocks : List raw_block.Block) (noinline optnone : Bool) → IfOk (function_in types head blocks noinline optnone) (λ f. length (flat_map block_lines blocks) ≡ length (items f))
