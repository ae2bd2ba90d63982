use Rattle.std.proofs.Common.{sym, ◌∙◌}
use Rattle.ir_lex.specs.TokenKinds.{number}
use Rattle.ir_parse.proofs.Beginnings.{attribute_begins, item_begins}
use Rattle.ir_parse.proofs.items.begins_there.Goals as goal

pub returns-then-begins_head_attribute : goal.returns-then-begins_head_attribute
returns-then-begins_head_attribute c =
    c.if-begins_head_attribute.true ∙ sym (attribute_begins c.args.before (number c.args.head) c.in-Declaration.is (sym c.begins_head_attribute.ensures ∙ c.if-begins_head_attribute.true))

pub returns-else-begins_head_attribute : goal.returns-else-begins_head_attribute
returns-else-begins_head_attribute c =
    c.begins_item-else-begins_head_attribute.ensures
    ∙ sym (item_begins c.args.before (number c.args.head) c.in-Declaration.is (sym c.begins_head_attribute.ensures ∙ c.if-begins_head_attribute.false))
