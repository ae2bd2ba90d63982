use Rattle.std.proofs.Common.{◌≡◌, ap, true, false, Ok, sym, ◌∙◌}
use Rattle.std.specs.Prelude.{nat_lt}
use Rattle.ir_lex.specs.Tok.{tok}
use Rattle.ir_parse_operands.specs.declared.extents.Extent.{Extent}
use Rattle.ir_parse_operands.specs.Extents.{room_for}
use Rattle.ir_parse_operands.specs.ShapeForms.{has_room}
use Rattle.ir_parse_operands.proofs.Leaves.{full, roomy, scalar_means}
use Rattle.ir_parse_operands.proofs.shapes.scalar_within.Goals as goal

pub returns-then-room_for-gt1-clause-exact : goal.returns-then-room_for-gt1-clause-exact
returns-then-room_for-gt1-clause-exact c =
    let fits : has_room c.args.room (tok c.args.t.now) ≡ true = ap (nat_lt 1) (sym (c.room_for.ensures.exact ∙ ap (λ (e : Extent). room_for c.args.room e.align) c.scalar_of-scalar.ensures.align)) ∙ roomy c.room_for.result c.if-room_for-gt1.true in
    ap Ok c.scalar_of-scalar.ensures.exact ∙ sym (scalar_means c.args.room (tok c.args.t.now) true c.requires.scalar fits)

pub returns-else-room_for-gt1-clause-exact : goal.returns-else-room_for-gt1-clause-exact
returns-else-room_for-gt1-clause-exact c =
    let none : has_room c.args.room (tok c.args.t.now) ≡ false = ap (nat_lt 1) (sym (c.room_for.ensures.exact ∙ ap (λ (e : Extent). room_for c.args.room e.align) c.scalar_of-scalar.ensures.align)) ∙ full c.room_for.result c.if-room_for-gt1.false in
    sym (scalar_means c.args.room (tok c.args.t.now) false c.requires.scalar none)
