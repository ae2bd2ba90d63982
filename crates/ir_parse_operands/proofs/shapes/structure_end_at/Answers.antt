use Rattle.std.proofs.Common.{◌≡◌, Bool, true, false, List, Result, Ok, sym, ap}
use Rattle.ir_lex.specs.declared.token_kind.TokenKind.TheVariants as kinds
use Rattle.ir_lex.specs.Tok.{Tok}
use Rattle.ir_parse_parts.specs.Classes.{the_at}
use Rattle.ir_parse_parts.specs.declared.fault.Fault.{Fault}
use Rattle.ir_parse_parts.specs.Readers.{follow}
use Rattle.ir_parse_operands.specs.ShapeFormsAt.{structure_end_at}
use Rattle.ir_parse_operands.proofs.Levels.{gives_as}
use Rattle.ir_parse_operands.proofs.shapes.structure_end_at.Goals as goal

angle_behind : (packed : Bool) (ts mid : List Tok) → packed ≡ true → the_at kinds.CloseBrace ts ≡ Ok (tt, mid) → structure_end_at packed ts ≡ the_at kinds.CloseAngle mid
unfolding structure_end_at
angle_behind true ts mid e h = ap (λ (r : Result (Unit {0} × List Tok) Fault). follow r (λ _. the_at kinds.CloseAngle)) h
angle_behind false ts mid e h = absurd cc

pub returns-then-packed : goal.returns-then-packed
returns-then-packed c = gives_as _ _ _ _ (sym (angle_behind c.args.packed _ _ c.if-packed.true c.in_ok-expect.ensures)) c.expect-then-packed.ensures
