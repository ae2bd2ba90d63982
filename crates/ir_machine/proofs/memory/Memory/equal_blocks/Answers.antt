use Rattle.std.proofs.Common.{Bool, ◌&&◌, sym, ap, ◌∙◌}
use Rattle.ir_meaning.specs.Pointers.{is_inside, unequal_if}
use Rattle.ir_machine.proofs.Comparing.{blocks_apart}
use Rattle.ir_machine.proofs.memory.Memory.equal_blocks.Goals as goal

pub returns : goal.returns
returns c = λ names memory s k l.
    c.unequal_if.ensures
    ∙ ap (λ (b : Bool). unequal_if (b && c.is_inside-second.result)) (c.is_inside-first.ensures names memory s k)
    ∙ ap (λ (b : Bool). unequal_if (is_inside memory c.args.left.number c.args.i && b)) (c.is_inside-second.ensures names memory s l)
    ∙ sym (blocks_apart memory c.args.left.number c.args.right.number c.args.i c.args.j c.if-left-right.false)
