use Rattle.std.proofs.Common.{option_copied, List, Option, slice_get, sym, ap, ◌∙◌}
use Rattle.ir_interp.specs.Code.{block_in}
use Rattle.ir_interp.specs.declared.code.Function.{Function}
use Rattle.ir_interp.specs.declared.code.Block.{Block}
use Rattle.ir_interp.proofs.Positions.{got_copied}
use Rattle.ir_interp.proofs.code.Code.block.Goals as goal

pub returns-in-Some : goal.returns-in-Some
returns-in-Some c =
    got_copied c.deref.result.now c.args.position c.get.result c.get.ensures.lookup.1 c.get.ensures.lookup.3
    ∙ ap (λ (bs : List Block). slice_get bs c.args.position) c.deref.ensures.value
    ∙ ap (λ (o : Option Function). block_in o c.args.position) (sym (ap option_copied c.in-Some.is) ∙ c.function.ensures)

pub returns-in-None : goal.returns-in-None
returns-in-None c = ap (λ (o : Option Function). block_in o c.args.position) (sym (ap option_copied c.in-None.is) ∙ c.function.ensures)
