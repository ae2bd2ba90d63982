use Rattle.std.proofs.Common.{Bool, ◌&&◌, nat_eq, if◌then◌else◌, Some, None, sym, ap, subst, ◌∙◌}
use Rattle.ir_meaning.specs.Pointers.{is_at}
use Rattle.ir_machine.specs.Memories.{IsBase}
use Rattle.ir_machine.specs.declared.scalar.Base.{Base}
use Rattle.ir_machine.specs.declared.scalar.Base.TheVariants.{Block}
use Rattle.ir_machine.proofs.Comparing.{ordered_at}
use Rattle.ir_machine.proofs.memory.Memory.are_ordered.Goals as goal

pub returns-in-Block-Block : goal.returns-in-Block-Block
returns-in-Block-Block c = λ names memory order s l r.
    ordered_at names memory order c.args.left.base c.args.right.base (Block c.in-Block-Block.first) (Block c.in-Block-Block.second) c.args.left.offset c.args.right.offset c.in-Block-Block.is-0 c.in-Block-Block.is-1
    ∙ sym (ap (λ (b : Bool). if b then Some (order c.args.left.offset c.args.right.offset) else None)
    (c.all.ensures
    ∙ ap (λ (b : Bool). nat_eq c.in-Block-Block.first.number c.in-Block-Block.second.number && (b && c.is_at-other.result))
    (c.is_at-one.ensures names memory s (subst (λ (b : Base). IsBase c.args.self.now memory b) c.in-Block-Block.is-0 l))
    ∙ ap (λ (b : Bool). nat_eq c.in-Block-Block.first.number c.in-Block-Block.second.number && (is_at memory c.in-Block-Block.first.number c.args.left.offset && b))
    (c.is_at-other.ensures names memory s (subst (λ (b : Base). IsBase c.args.self.now memory b) c.in-Block-Block.is-0 l))))
