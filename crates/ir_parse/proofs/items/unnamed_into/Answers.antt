use Rattle.std.proofs.Common.{sym, ◌∙◌}
use Rattle.ir_parse_parts.specs.Alphabet.{among}
use Rattle.ir_parse_parts.specs.Classes.{tokens}
use Rattle.ir_parse_parts.specs.Operands.{LOCAL}
use Rattle.ir_parse_parts.specs.Readers.{Reader, pick}
use Rattle.ir_lex.specs.Tok.{Tok}
use Rattle.ir_parse_heads.specs.AttributesAt.{attribute_group_at}
use Rattle.ir_parse_heads.specs.TargetsAt.{comdat_line_at, source_line_at, target_line_at}
use Rattle.ir_parse_globals.specs.TypeDefinitionsAt.{type_line_at}
use Rattle.ir_parse_operands.proofs.Levels.{gives_as}
use Rattle.ir_parse.specs.ItemForms.{ParsedItem}
use Rattle.ir_parse.specs.ItemFormsAt.{COMDAT, SOURCE, TARGET, kept_at, left_out_at, unnamed_at}
use Rattle.ir_parse.proofs.Putting.{behind_passes, behind_picks, kept_returns, left_out_returns}
use Rattle.ir_parse.proofs.items.unnamed_into.Goals as goal

-- what is read where the first choices don't come
abbrev behind_comdat : Reader Tok ParsedItem
behind_comdat = pick (among tokens LOCAL) (kept_at type_line_at) (kept_at attribute_group_at)

abbrev behind_target : Reader Tok ParsedItem
behind_target = pick (among tokens COMDAT) (left_out_at comdat_line_at) behind_comdat

abbrev behind_source : Reader Tok ParsedItem
behind_source = pick (among tokens TARGET) (kept_at target_line_at) behind_target

pub returns-then-comes : goal.returns-then-comes
unfolding unnamed_at
returns-then-comes c =
    gives_as _ _ _ _
    (sym (behind_picks c.args.items.now.items c.args.tokens.now (among tokens SOURCE) (left_out_at source_line_at) behind_source (sym c.comes.ensures ∙ c.if-comes.true)))
    (left_out_returns c.args.items.now.items c.args.tokens.now source_line_at c.source_line_at.new.tokens c.source_line_at.result c.source_line_at.ensures)

pub returns-then-comes-2 : goal.returns-then-comes-2
unfolding unnamed_at
returns-then-comes-2 c =
    gives_as _ _ _ _
    (sym (behind_passes c.args.items.now.items c.args.tokens.now (among tokens SOURCE) (left_out_at source_line_at) behind_source (sym c.comes.ensures ∙ c.if-comes.false)
    ∙ behind_picks c.args.items.now.items c.args.tokens.now (among tokens TARGET) (kept_at target_line_at) behind_target (sym c.comes-else-comes.ensures ∙ c.if-comes-2.true)))
    (kept_returns c.args.items.now.items c.args.tokens.now target_line_at c.target_line_into.new.items.items c.target_line_into.new.tokens c.target_line_into.result c.target_line_into.ensures)

pub returns-then-comes-3 : goal.returns-then-comes-3
unfolding unnamed_at
returns-then-comes-3 c =
    gives_as _ _ _ _
    (sym (behind_passes c.args.items.now.items c.args.tokens.now (among tokens SOURCE) (left_out_at source_line_at) behind_source (sym c.comes.ensures ∙ c.if-comes.false)
    ∙ behind_passes c.args.items.now.items c.args.tokens.now (among tokens TARGET) (kept_at target_line_at) behind_target (sym c.comes-else-comes.ensures ∙ c.if-comes-2.false)
    ∙ behind_picks c.args.items.now.items c.args.tokens.now (among tokens COMDAT) (left_out_at comdat_line_at) behind_comdat (sym c.comes-else-comes-2.ensures ∙ c.if-comes-3.true)))
    (left_out_returns c.args.items.now.items c.args.tokens.now comdat_line_at c.comdat_line_at.new.tokens c.comdat_line_at.result c.comdat_line_at.ensures)

pub returns-then-comes-4 : goal.returns-then-comes-4
unfolding unnamed_at
returns-then-comes-4 c =
    gives_as _ _ _ _
    (sym (behind_passes c.args.items.now.items c.args.tokens.now (among tokens SOURCE) (left_out_at source_line_at) behind_source (sym c.comes.ensures ∙ c.if-comes.false)
    ∙ behind_passes c.args.items.now.items c.args.tokens.now (among tokens TARGET) (kept_at target_line_at) behind_target (sym c.comes-else-comes.ensures ∙ c.if-comes-2.false)
    ∙ behind_passes c.args.items.now.items c.args.tokens.now (among tokens COMDAT) (left_out_at comdat_line_at) behind_comdat (sym c.comes-else-comes-2.ensures ∙ c.if-comes-3.false)
    ∙ behind_picks c.args.items.now.items c.args.tokens.now (among tokens LOCAL) (kept_at type_line_at) (kept_at attribute_group_at) (sym c.comes-else-comes-3.ensures ∙ c.if-comes-4.true)))
    (kept_returns c.args.items.now.items c.args.tokens.now type_line_at c.type_line_into.new.items.items c.type_line_into.new.tokens c.type_line_into.result c.type_line_into.ensures)

pub returns-else-comes-4 : goal.returns-else-comes-4
unfolding unnamed_at
returns-else-comes-4 c =
    gives_as _ _ _ _
    (sym (behind_passes c.args.items.now.items c.args.tokens.now (among tokens SOURCE) (left_out_at source_line_at) behind_source (sym c.comes.ensures ∙ c.if-comes.false)
    ∙ behind_passes c.args.items.now.items c.args.tokens.now (among tokens TARGET) (kept_at target_line_at) behind_target (sym c.comes-else-comes.ensures ∙ c.if-comes-2.false)
    ∙ behind_passes c.args.items.now.items c.args.tokens.now (among tokens COMDAT) (left_out_at comdat_line_at) behind_comdat (sym c.comes-else-comes-2.ensures ∙ c.if-comes-3.false)
    ∙ behind_passes c.args.items.now.items c.args.tokens.now (among tokens LOCAL) (kept_at type_line_at) (kept_at attribute_group_at) (sym c.comes-else-comes-3.ensures ∙ c.if-comes-4.false)))
    (kept_returns c.args.items.now.items c.args.tokens.now attribute_group_at c.attribute_group_into.new.items.items c.attribute_group_into.new.tokens c.attribute_group_into.result c.attribute_group_into.ensures)
