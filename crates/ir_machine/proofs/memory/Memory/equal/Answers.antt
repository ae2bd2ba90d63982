use Rattle.std.proofs.Common.{subst, ◌∙◌}
use Rattle.ir_machine.specs.Memories.{IsBase}
use Rattle.ir_machine.specs.Names.{IsNamed}
use Rattle.ir_machine.specs.declared.scalar.Base.{Base}
use Rattle.ir_machine.specs.declared.scalar.Base.TheVariants.{Block, Function, Null}
use Rattle.ir_machine.proofs.Comparing.{at_bases}
use Rattle.ir_machine.proofs.memory.Memory.equal.Goals as goal

pub returns-in-Null-Block : goal.returns-in-Null-Block
returns-in-Null-Block c = λ names memory distinct s l r f g.
    c.equal_null.ensures names memory s (subst (λ (b : Base). IsBase c.args.self.now memory b) c.in-Null-Block.is-1 r)
    ∙ at_bases names memory c.args.left.base c.args.right.base Null (Block c.in-Null-Block.block) c.args.left.offset c.args.right.offset c.in-Null-Block.is-0 c.in-Null-Block.is-1

pub returns-in-Block-Null : goal.returns-in-Block-Null
returns-in-Block-Null c = λ names memory distinct s l r f g.
    c.null_equal.ensures names memory s (subst (λ (b : Base). IsBase c.args.self.now memory b) c.in-Block-Null.is-0 l)
    ∙ at_bases names memory c.args.left.base c.args.right.base (Block c.in-Block-Null.block) Null c.args.left.offset c.args.right.offset c.in-Block-Null.is-0 c.in-Block-Null.is-1

pub returns-in-Function-Function : goal.returns-in-Function-Function
returns-in-Function-Function c = λ names memory distinct s l r f g.
    c.equal_functions.ensures names memory distinct (subst (λ (b : Base). IsNamed names b) c.in-Function-Function.is-0 f) (subst (λ (b : Base). IsNamed names b) c.in-Function-Function.is-1 g)
    ∙ at_bases names memory c.args.left.base c.args.right.base (Function c.in-Function-Function.f) (Function c.in-Function-Function.g) c.args.left.offset c.args.right.offset c.in-Function-Function.is-0 c.in-Function-Function.is-1

pub returns-in-Block-Block : goal.returns-in-Block-Block
returns-in-Block-Block c = λ names memory distinct s l r f g.
    c.equal_blocks.ensures names memory s (subst (λ (b : Base). IsBase c.args.self.now memory b) c.in-Block-Block.is-0 l) (subst (λ (b : Base). IsBase c.args.self.now memory b) c.in-Block-Block.is-1 r)
    ∙ at_bases names memory c.args.left.base c.args.right.base (Block c.in-Block-Block.first) (Block c.in-Block-Block.second) c.args.left.offset c.args.right.offset c.in-Block-Block.is-0 c.in-Block-Block.is-1
