-- What a global value defines is what it has.
use Rattle.std.proofs.Common.{◌≡◌, Bool, true, false, cond, List, [], ◌∷◌, Some, None}
use Rattle.ir_tree.specs.Initials.{Initial}
use Rattle.ir_tree.specs.Linkages.{defines}
use Rattle.ir_tree.specs.declared.block.Block.{Block}
use Rattle.ir_tree.specs.declared.function.Function.{Function}
use Rattle.ir_tree.specs.declared.function.Variable.{Variable}
use Rattle.ir_meaning.specs.Programs.{defined_blocks, defined_init}

pub own_blocks : (f : Function) (b : Block) (bs : List Block) → defined_blocks f ≡ b ∷ bs → f.blocks ≡ b ∷ bs
own_blocks f b bs e = by (defines f.linkage) e
  where
    by : (counts : Bool) → cond counts f.blocks [] ≡ b ∷ bs → f.blocks ≡ b ∷ bs
    by true e = e
    by false e = absurd (cc e)

pub own_init : (v : Variable) (init : Initial) → defined_init v ≡ Some init → v.init ≡ Some init
own_init v init e = by (defines v.linkage) e
  where
    by : (counts : Bool) → cond counts v.init None ≡ Some init → v.init ≡ Some init
    by true e = e
    by false e = absurd (cc e)
