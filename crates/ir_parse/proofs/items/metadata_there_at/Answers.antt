use Rattle.std.proofs.Common.{None, sym, ap, ◌∙◌}
use Rattle.ir_parse_parts.specs.declared.places.Before.{Before}
use Rattle.ir_parse_parts.specs.declared.places.Before.TheVariants as befores
use Rattle.ir_parse_parts.specs.MetadataAt.{metadata_line_at}
use Rattle.ir_parse_parts.specs.MetadataBehindAt.{metadata_behind_at, node_yet_at}
use Rattle.ir_parse_parts.specs.Readers.{done}
use Rattle.ir_parse_operands.proofs.Choices.{goes_on}
use Rattle.ir_parse_operands.proofs.Levels.{gives_as}
use Rattle.ir_parse.specs.ItemForms.{ParsedItem}
use Rattle.ir_parse.specs.ItemFormsAt.{left_out_at, metadata_there_at, placed_at}
use Rattle.ir_parse.proofs.Putting.{returned_with}
use Rattle.ir_parse.proofs.items.metadata_there_at.Goals as goal

pub returns-in_ok-metadata_line_at-in-Item : goal.returns-in_ok-metadata_line_at-in-Item
unfolding left_out_at
returns-in_ok-metadata_line_at-in-Item c =
    ap (λ (b : Before). metadata_there_at b c.args.tokens.now) c.in-Item.is
    ∙ goes_on {B = ParsedItem} (λ _. done (None, befores.Item)) (metadata_line_at c.args.tokens.now) tt c.metadata_line_at.new.tokens c.in_ok-metadata_line_at-in-Item.ensures

pub returns-in-Declaration : goal.returns-in-Declaration
unfolding placed_at
returns-in-Declaration c =
    gives_as _ _ _ _ (ap (λ (b : Before). metadata_there_at b c.args.tokens.now) (sym c.in-Declaration.is))
    (returned_with {Z = ParsedItem} (λ (b : Before). (b, c.metadata_behind_at.new.tokens)) (λ (b : Before). (None, b)) c.metadata_behind_at.result (metadata_behind_at c.args.tokens.now) c.metadata_behind_at.ensures)

pub returns-in-Name : goal.returns-in-Name
unfolding placed_at
returns-in-Name c =
    gives_as _ _ _ _ (ap (λ (b : Before). metadata_there_at b c.args.tokens.now) (sym c.in-Name.is))
    (returned_with {Z = ParsedItem} (λ (b : Before). (b, c.node_yet_at.new.tokens)) (λ (b : Before). (None, b)) c.node_yet_at.result (node_yet_at c.args.tokens.now) c.node_yet_at.ensures)
