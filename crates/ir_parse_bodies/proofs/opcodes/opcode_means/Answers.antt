use Rattle.std.proofs.Common.{◌≡◌, true, Err, ap, sym, ◌∙◌}
use Rattle.ir_lex.specs.declared.token_kind.TokenKind.{TokenKind}
use Rattle.ir_lex.specs.declared.token_kind.TokenKind.TheVariants as kinds
use Rattle.ir_lex.specs.TokenKinds.{number}
use Rattle.ir_lex.specs.Tok.{tok}
use Rattle.ir_parse_parts.specs.Alphabet.{contains}
use Rattle.ir_parse_parts.specs.Classes.{refusal}
use Rattle.ir_parse_bodies.specs.Lines.{OPCODES, opcode_of}
use Rattle.ir_parse_bodies.proofs.OtherKinds.{none_of, not_among, outside}
use Rattle.ir_parse_bodies.proofs.opcodes.opcode_means.Goals as goal

pub returns-in_default : goal.returns-in_default
returns-in_default c = ap Err c.refusal.ensures ∙ sym (not_among refusal OPCODES (tok c.args.t.now) (none_of OPCODES c.args.t.now.kind other) opcode_of)
  where
    other : (k : TokenKind) → contains OPCODES (number k) ≡ true → c.args.t.now.kind ≡ k → ⊥
    other kinds.GetElementPtr e = c.in_default.not-GetElementPtr
    other kinds.Add e = c.in_default.not-Add
    other kinds.Sub e = c.in_default.not-Sub
    other kinds.Mul e = c.in_default.not-Mul
    other kinds.Shl e = c.in_default.not-Shl
    other kinds.Udiv e = c.in_default.not-Udiv
    other kinds.Sdiv e = c.in_default.not-Sdiv
    other kinds.Lshr e = c.in_default.not-Lshr
    other kinds.Ashr e = c.in_default.not-Ashr
    other kinds.Urem e = c.in_default.not-Urem
    other kinds.Srem e = c.in_default.not-Srem
    other kinds.And e = c.in_default.not-And
    other kinds.Xor e = c.in_default.not-Xor
    other kinds.Or e = c.in_default.not-Or
    other kinds.Icmp e = c.in_default.not-Icmp
    other kinds.Zext e = c.in_default.not-Zext
    other kinds.Sext e = c.in_default.not-Sext
    other kinds.Trunc e = c.in_default.not-Trunc
    other kinds.Select e = c.in_default.not-Select
    other kinds.Freeze e = c.in_default.not-Freeze
    other kinds.Phi e = c.in_default.not-Phi
    other kinds.Alloca e = c.in_default.not-Alloca
    other kinds.Load e = c.in_default.not-Load
    other kinds.Store e = c.in_default.not-Store
    other kinds.TailMark e = c.in_default.not-TailMark
    other kinds.Call e = c.in_default.not-Call
    other k e = absurd (outside e)
