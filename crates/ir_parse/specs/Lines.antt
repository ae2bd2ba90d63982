-- The lines on which the parts of a module's global values begin.
use Rattle.std.specs.Prelude.{ℕ, List, [], ◌∷◌, ◌++◌, map, filter_map, flat_map, Option, None, Some}
use Rattle.ir_parse_parts.specs.declared.raw.Block as raw_block
use Rattle.ir_parse_parts.specs.declared.raw.Item.{Item}
use Rattle.ir_parse_parts.specs.declared.raw.Item.TheVariants as item

-- the line of each phi and instruction, and that of the terminator
abbrev pub block_lines : raw_block.Block → List ℕ
block_lines b = map (λ l. l.line) b.lines ++ b.end_line ∷ []

-- the lines of a global value; no other item has lines
abbrev pub item_lines : Item → Option (List ℕ)
item_lines (item.Datalayout text) = None
item_lines (item.Triple text) = None
item_lines (item.Attributes group noinline optnone) = None
item_lines (item.Type name typed) = None
item_lines (item.Variable v) = Some (v.line ∷ [])
item_lines (item.Declaration head) = Some []
item_lines (item.Definition head blocks) = Some (flat_map block_lines blocks)

abbrev pub lines_of : List Item → List (List ℕ)
lines_of items = filter_map item_lines items
