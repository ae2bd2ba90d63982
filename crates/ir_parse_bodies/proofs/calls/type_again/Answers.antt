use Rattle.std.proofs.Common.{Err, ap, sym, ◌∙◌}
use Rattle.ir_lex.specs.Tok.{tok}
use Rattle.ir_parse_parts.specs.Operands.{REG, reg_of, type_refusal}
use Rattle.ir_parse_bodies.specs.Calls.{is_type}
use Rattle.ir_parse_bodies.proofs.OtherKinds.{not_exact, not_type}
use Rattle.ir_parse_bodies.proofs.calls.type_again.Goals as goal

pub returns-in_default-clause-exact : goal.returns-in_default-clause-exact
returns-in_default-clause-exact c =
    ap Err c.type_refusal-in_default.ensures
    ∙ sym (not_exact type_refusal REG (tok c.args.t.now) (not_type c.args.t.now.kind c.in_default.not-MemoryInteger c.in_default.not-RegisterInteger c.in_default.not-Ptr) (is_type (tok c.args.written.now)) reg_of)
