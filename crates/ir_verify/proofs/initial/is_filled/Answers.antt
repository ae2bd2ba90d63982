use Rattle.std.proofs.Common.{sym, subst, ◌↔◌, IsTrue}
use Rattle.ir_tree.specs.Initials.{no_initials}
use Rattle.ir_verify.specs.declared.initial.Wanted.{Wanted}
use Rattle.ir_verify.specs.Wants.{Fills}
use Rattle.ir_verify.proofs.Wants.{these_filled}
use Rattle.ir_verify.proofs.initial.is_filled.Goals as goal

pub returns-in-These : goal.returns-in-These
returns-in-These c =
    subst (λ (w : Wanted). IsTrue c.is_empty.result ↔ Fills w no_initials) (sym c.in-These.is) (these_filled c.in-These.parts c.is_empty.result c.is_empty.ensures)
