use Rattle.std.proofs.Common.{◌≡◌, true, Err, ap, sym, ◌∙◌}
use Rattle.ir_lex.specs.declared.token_kind.TokenKind.{TokenKind}
use Rattle.ir_lex.specs.declared.token_kind.TokenKind.TheVariants as kinds
use Rattle.ir_lex.specs.TokenKinds.{number}
use Rattle.ir_lex.specs.Tok.{tok}
use Rattle.ir_parse_parts.specs.Alphabet.{contains}
use Rattle.ir_parse_parts.specs.Classes.{refusal}
use Rattle.ir_parse_bodies.specs.Instructions.{PREDICATES, predicate_of}
use Rattle.ir_parse_bodies.proofs.OtherKinds.{none_of, not_among, outside}
use Rattle.ir_parse_bodies.proofs.instructions.predicate_means.Goals as goal

pub returns-in_default : goal.returns-in_default
returns-in_default c = ap Err c.refusal.ensures ∙ sym (not_among refusal PREDICATES (tok c.args.t.now) (none_of PREDICATES c.args.t.now.kind other) predicate_of)
  where
    other : (k : TokenKind) → contains PREDICATES (number k) ≡ true → c.args.t.now.kind ≡ k → ⊥
    other kinds.Eq e = c.in_default.not-Eq
    other kinds.Ne e = c.in_default.not-Ne
    other kinds.Ugt e = c.in_default.not-Ugt
    other kinds.Uge e = c.in_default.not-Uge
    other kinds.Ult e = c.in_default.not-Ult
    other kinds.Ule e = c.in_default.not-Ule
    other kinds.Sgt e = c.in_default.not-Sgt
    other kinds.Sge e = c.in_default.not-Sge
    other kinds.Slt e = c.in_default.not-Slt
    other kinds.Sle e = c.in_default.not-Sle
    other k e = absurd (outside e)
