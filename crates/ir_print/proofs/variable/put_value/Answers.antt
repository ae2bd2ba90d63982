use Rattle.std.proofs.Common.{List, ap, subst, ◌∙◌}
use Rattle.std.specs.Prelude.{IfOk, reverse}
use Rattle.ir_lex.specs.Pieces.{Piece}
use Rattle.ir_print.specs.declared.level.Level.{Level}
use Rattle.ir_print.specs.Initials.{opened_by}
use Rattle.ir_print.specs.Wrote.{Wrote}
use Rattle.ir_print.proofs.Initials.{flat_printed}
use Rattle.ir_print.proofs.Written.{finish}
use Rattle.ir_print.proofs.variable.put_value.Goals as goal

pub returns : goal.returns
returns c =
    let open_ones = c.in_ok-is_first.ensures.opened ∙ ap (λ (s : List Level). opened_by c.flat.result.0.now (reverse s)) c.new-levels.ensures.items in
    let whole = flat_printed c.args.init.now _ _ _ _ c.flat.ensures open_ones c.in_ok-is_first.ensures.first in
    subst (λ (ps : List Piece). IfOk c.put_parts.result (λ x. Wrote ps c.args.out.now.items c.put_parts.new.out.items)) whole (finish _ _ _ _ _ _ c.in_ok-is_first.ensures.wrote c.put_parts.ensures)
