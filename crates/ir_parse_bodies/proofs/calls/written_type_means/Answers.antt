use Rattle.std.proofs.Common.{Err, ap, sym, ◌∙◌}
use Rattle.ir_lex.specs.Tok.{tok}
use Rattle.ir_parse_parts.specs.Classes.{itself}
use Rattle.ir_parse_parts.specs.Operands.{REG, type_refusal}
use Rattle.ir_parse_bodies.proofs.OtherKinds.{not_among, not_type}
use Rattle.ir_parse_bodies.proofs.calls.written_type_means.Goals as goal

pub returns-in_default : goal.returns-in_default
returns-in_default c =
    ap Err c.type_refusal.ensures
    ∙ sym (not_among type_refusal REG (tok c.args.t.now) (not_type c.args.t.now.kind c.in_default.not-MemoryInteger c.in_default.not-RegisterInteger c.in_default.not-Ptr) itself)
