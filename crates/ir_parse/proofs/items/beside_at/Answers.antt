use Rattle.std.proofs.Common.{None, sym, ◌∙◌}
use Rattle.ir_parse_parts.specs.Alphabet.{among}
use Rattle.ir_parse_parts.specs.Classes.{tokens}
use Rattle.ir_parse_parts.specs.declared.places.Before.{Before}
use Rattle.ir_parse_parts.specs.Metadata.{META}
use Rattle.ir_parse_operands.proofs.Levels.{gives_as}
use Rattle.ir_parse.specs.ItemForms.{ParsedItem, keep}
use Rattle.ir_parse.specs.ItemFormsAt.{beside_at, metadata_there_at, plainly_at}
use Rattle.ir_parse.specs.Putting.{behind_at}
use Rattle.ir_parse.proofs.Putting.{behind_passes, behind_picks, returned_with}
use Rattle.ir_parse.proofs.items.beside_at.Goals as goal

pub returns-then-comes_meta : goal.returns-then-comes_meta
unfolding behind_at beside_at
returns-then-comes_meta c =
    gives_as _ _ _ _
    (sym (behind_picks c.args.items.now.items c.args.tokens.now (among tokens META) (metadata_there_at c.args.before) (plainly_at c.args.before) (sym c.comes_meta.ensures ∙ c.if-comes_meta.true)))
    (returned_with (λ (b : Before). ((None, b), c.metadata_there_at.new.tokens)) (λ (x : ParsedItem). (keep c.args.items.now.items x.0, x.1)) c.metadata_there_at.result (metadata_there_at c.args.before c.args.tokens.now) c.metadata_there_at.ensures)

pub returns-else-comes_meta : goal.returns-else-comes_meta
unfolding beside_at
returns-else-comes_meta c =
    gives_as _ _ _ _
    (sym (behind_passes c.args.items.now.items c.args.tokens.now (among tokens META) (metadata_there_at c.args.before) (plainly_at c.args.before) (sym c.comes_meta.ensures ∙ c.if-comes_meta.false)))
    c.plainly_at.ensures
