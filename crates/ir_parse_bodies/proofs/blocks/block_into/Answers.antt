use Rattle.std.proofs.Common.{List, Ok, ap, sym, ◌∙◌, []}
use Rattle.std.proofs.Common.{◌++◌, ◌∷◌}
use Rattle.ir_parse_parts.specs.declared.raw.Block.{Block}
use Rattle.ir_parse_bodies.proofs.Successions.{out_of_memory, passed_on, reads_behind}
use Rattle.ir_parse_operands.proofs.Additions.{first_fails}
use Rattle.ir_parse_bodies.proofs.blocks.block_into.Goals as goal

pub returns : goal.returns
returns c = reads_behind c.in_ok-left.ensures _ (ap (λ (all : List Block). Ok ((all, c.in_ok-left.left), c.begun_into.new.tokens)) (ap (λ (b : Block). c.args.blocks.now.list.items ++ b ∷ []) (sym c.block.ensures) ∙ sym c.in_ok-push.ensures.pushed))

pub returns-in_err-left : goal.returns-in_err-left
returns-in_err-left c = passed_on _ _ _ _ c.from_residual.ensures (first_fails _ _ _ c.in_err-left.ensures)

pub returns-in_err-push : goal.returns-in_err-push
returns-in_err-push c = passed_on _ _ _ _ c.from_residual-in_err-push.ensures (out_of_memory _ _ c.in_err-push.ensures.memory)
