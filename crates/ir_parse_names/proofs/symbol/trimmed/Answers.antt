use Rattle.std.proofs.Common.{sym, ap, ◌∙◌}
use Rattle.ir_parse_names.specs.Symbols.{trimmed}
use Rattle.ir_parse_names.proofs.Firsts.{behind_first}
use Rattle.ir_parse_names.proofs.Trimming.{trimmed_padded}
use Rattle.ir_parse_names.proofs.symbol.trimmed.Goals as goal

pub each-preserved : goal.each-preserved
each-preserved c = ap trimmed (behind_first c.each.rest.now) ∙ trimmed_padded c.each.rest.now (sym c.is_padded.ensures ∙ c.each-test.true) ∙ c.each.invariant
