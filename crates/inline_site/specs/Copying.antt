-- The copy while it is made, and a site as the code has it.
use Rattle.std.specs.Prelude.{ℕ, ◌+◌, [], ◌∷◌, ◌++◌}
use Rattle.ir_tree.specs.declared.block.Block.{Block}
use Rattle.ir_tree.specs.declared.block.Terminator.TheVariants.{Unreachable}
use Rattle.ir_tree.specs.declared.function.Function.{Function}
use Rattle.ir_tree.specs.declared.operand.Operand.{Operand}
use Rattle.inline_site.specs.Sites.{Site}
use Rattle.inline_site.specs.declared.site.SiteParts.{SiteParts}

-- an empty block of this number
abbrev pub empty : ℕ → Block
empty n = record { number = n; phis = []; lines = []; end = Unreachable }

-- the function without its parameters, and with an empty block at its end
abbrev pub opened : ℕ → Function → Function
opened last f = record f { params = []; blocks = f.blocks ++ empty last ∷ [] }

-- a local's replacement, under the local's number with this added to it
abbrev pub shifted_by : ℕ → ℕ × Operand → ℕ × Operand
shifted_by by r = (r.0 + by, r.1)

-- the site whose parts these are
abbrev pub site_of : SiteParts → Site
site_of s = record {
  front = s.front.now;
  block = s.block.now;
  back = s.back.now;
  before = s.before.now;
  call = s.call.now;
  after = s.after.now;
}
