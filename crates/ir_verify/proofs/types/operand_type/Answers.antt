use Rattle.std.proofs.Common.{ap, sym, ◌∙◌}
use Rattle.ir_tree.specs.Rules.{type_of}
use Rattle.ir_verify.proofs.Typings.{type_found, reg_at}
use Rattle.ir_verify.proofs.types.operand_type.Goals as goal

pub returns-in-Some : goal.returns-in-Some
returns-in-Some c =
    ap reg_at (sym c.in-Some.is ∙ c.get.ensures ∙ c.requires c.in-Local.local) ∙ sym (type_found c.args.function.now c.in-Local.local) ∙ ap (type_of c.args.function.now) (sym c.in-Local.is)

pub returns-in-None : goal.returns-in-None
returns-in-None c =
    ap reg_at (sym c.in-None.is ∙ c.get.ensures ∙ c.requires c.in-Local.local) ∙ sym (type_found c.args.function.now c.in-Local.local) ∙ ap (type_of c.args.function.now) (sym c.in-Local.is)
