use Rattle.std.proofs.Common.{subst, sym, Result, List}
use Rattle.ir_lex.specs.Tok.{Tok}
use Rattle.ir_parse_parts.specs.declared.fault.Fault.{Fault}
use Rattle.ir_parse_parts.specs.Readers.{Returns}
use Rattle.ir_parse_parts.specs.MetadataBehind.{BRACES}
use Rattle.ir_parse_parts.proofs.LineStarts.{goes_on_is}
use Rattle.ir_parse_parts.proofs.metadata_behind.goes_on_without_group_at.Goals as goal

pub returns : goal.returns
returns c = subst (λ (x : Result (Unit {0} × List Tok) Fault). Returns (λ _. (tt, c.rest_of_line_at.new.tokens)) c.rest_of_line_at.result x) (sym (goes_on_is BRACES c.args.rest.now c.requires)) c.rest_of_line_at.ensures
