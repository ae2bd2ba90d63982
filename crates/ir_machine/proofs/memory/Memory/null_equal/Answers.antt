use Rattle.std.proofs.Common.{Bool, ◌&&◌, nat_eq, ap, ◌∙◌}
use Rattle.ir_meaning.specs.Pointers.{unequal_if}
use Rattle.ir_machine.proofs.memory.Memory.null_equal.Goals as goal

pub returns : goal.returns
returns c = λ names memory s k.
    c.unequal_if.ensures ∙ ap (λ (b : Bool). unequal_if (nat_eq c.args.j 0 && b)) (c.is_at-at.ensures names memory s k)
