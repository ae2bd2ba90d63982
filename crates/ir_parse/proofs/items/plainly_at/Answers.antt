use Rattle.std.proofs.Common.{◌∙◌}
use Rattle.ir_parse.proofs.Putting.{attribute_behind, no_attribute}
use Rattle.ir_parse.proofs.items.plainly_at.Goals as goal

pub returns-in_ok-head_attribute_at : goal.returns-in_ok-head_attribute_at
returns-in_ok-head_attribute_at c =
    let comes = c.comes_attribute.ensures.comes c.if-comes_attribute.true in
    attribute_behind c.args.items.now.items c.args.tokens.now c.args.before c.in_ok-head_attribute_at.field-0 c.head_attribute_at.new.tokens comes.0 comes.1 c.in_ok-head_attribute_at.ensures

pub returns-in_ok-unnamed_into : goal.returns-in_ok-unnamed_into
returns-in_ok-unnamed_into c =
    no_attribute c.args.items.now.items c.args.tokens.now c.args.before (c.comes_attribute.ensures.other c.if-comes_attribute.false) ∙ c.in_ok-unnamed_into.ensures
