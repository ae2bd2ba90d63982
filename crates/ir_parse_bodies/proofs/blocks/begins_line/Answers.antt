use Rattle.std.proofs.Common.{◌≡◌, true, sym, ◌∷◌, [], refl, map}
use Rattle.ir_lex.specs.declared.token_kind.TokenKind.{TokenKind}
use Rattle.ir_lex.specs.declared.token_kind.TokenKind.TheVariants as kinds
use Rattle.ir_lex.specs.TokenKinds.{number}
use Rattle.ir_parse_parts.specs.Alphabet.{contains}
use Rattle.ir_parse_parts.proofs.Heads.{is_in}
use Rattle.ir_parse_parts.proofs.Rules.{within_of}
use Rattle.ir_parse_bodies.specs.LinesAt.{LINE}
use Rattle.ir_parse_bodies.proofs.OtherKinds.{none_of, outside}
use Rattle.ir_parse_bodies.proofs.blocks.begins_line.Goals as goal

pub returns-in-Local : goal.returns-in-Local
returns-in-Local c =
    let others = kinds.Store ∷ kinds.Add ∷ kinds.Sub ∷ kinds.Mul ∷ kinds.Shl ∷ kinds.Udiv ∷ kinds.Sdiv ∷ kinds.Lshr ∷ kinds.Ashr ∷ kinds.Urem ∷ kinds.Srem ∷ kinds.And ∷ kinds.Xor ∷ kinds.Or ∷ kinds.Icmp ∷ kinds.Zext ∷ kinds.Sext ∷ kinds.Trunc ∷ kinds.Select ∷ kinds.Freeze ∷ kinds.Phi ∷ kinds.Alloca ∷ kinds.Load ∷ kinds.GetElementPtr ∷ kinds.TailMark ∷ kinds.Call ∷ [] in
    sym (within_of (map number (kinds.Local ∷ others)) LINE refl (number c.args.head) (is_in kinds.Local others c.args.head c.in-Local.is))

pub returns-in_default : goal.returns-in_default
returns-in_default c = sym (none_of LINE c.args.head other)
  where
    other : (k : TokenKind) → contains LINE (number k) ≡ true → c.args.head ≡ k → ⊥
    other kinds.Local e = c.in_default.not-Local
    other kinds.GetElementPtr e = c.in_default.not-GetElementPtr
    other kinds.Add e = c.in_default.not-Add
    other kinds.Sub e = c.in_default.not-Sub
    other kinds.Mul e = c.in_default.not-Mul
    other kinds.Shl e = c.in_default.not-Shl
    other kinds.Udiv e = c.in_default.not-Udiv
    other kinds.Sdiv e = c.in_default.not-Sdiv
    other kinds.Lshr e = c.in_default.not-Lshr
    other kinds.Ashr e = c.in_default.not-Ashr
    other kinds.Urem e = c.in_default.not-Urem
    other kinds.Srem e = c.in_default.not-Srem
    other kinds.And e = c.in_default.not-And
    other kinds.Xor e = c.in_default.not-Xor
    other kinds.Or e = c.in_default.not-Or
    other kinds.Icmp e = c.in_default.not-Icmp
    other kinds.Zext e = c.in_default.not-Zext
    other kinds.Sext e = c.in_default.not-Sext
    other kinds.Trunc e = c.in_default.not-Trunc
    other kinds.Select e = c.in_default.not-Select
    other kinds.Freeze e = c.in_default.not-Freeze
    other kinds.Phi e = c.in_default.not-Phi
    other kinds.Alloca e = c.in_default.not-Alloca
    other kinds.Load e = c.in_default.not-Load
    other kinds.Store e = c.in_default.not-Store
    other kinds.TailMark e = c.in_default.not-TailMark
    other kinds.Call e = c.in_default.not-Call
    other k e = absurd (outside e)
