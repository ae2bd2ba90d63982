-- Facts that rest on locals to which unreached blocks give values.
use Rattle.std.specs.Prelude.{◌≡◌, ℕ, suc, ◌==◌, Bool, true, false, ◌||◌, if◌then◌else◌, List, [], ◌∷◌, ◌++◌}
use Rattle.lto_sets.specs.Sets.{contains}
use Rattle.ir_tree.specs.Flow.{definitions, holds}
use Rattle.ir_tree.specs.declared.block.Block.{Block}
use Rattle.ir_tree.specs.declared.function.Function.{Function}
use Rattle.ir_tree.specs.declared.operand.Operand.{Operand}
use Rattle.ir_edit.specs.Numbered.{line_numbers, phi_numbers}
use Rattle.ir_flow.specs.OfFunction.{IsReach}
use Rattle.fact_sources.specs.Membership.{is_member}

-- what a block defines
abbrev pub defined : Block → ℕ → Bool
defined b x = holds (definitions b) x

-- what a block gives values, where it isn't reached
unfoldable pub given_where : Bool → Block → List ℕ
given_where true b = []
given_where false b = phi_numbers b.phis ++ line_numbers b.lines

-- what the blocks that aren't of the set give values, where the first of them stands at the place p
abbrev pub given_apart : (ℕ → Bool) → ℕ → List Block → List ℕ
given_apart inside p [] = []
given_apart inside p (b ∷ bs) = given_where (inside p) b ++ given_apart inside (suc p) bs

abbrev pub is_listed : ℕ → List ℕ → Bool
is_listed x [] = false
is_listed x (y ∷ ys) = (y == x) || is_listed x ys

-- the locals to which unreached blocks give values
pub record IsApart (f : Function) (among : ℕ → Bool) : Type 0 where
  pub reached : List Bool
  pub reach : IsReach f reached
  pub is : (x : ℕ) → among x ≡ is_listed x (given_apart (contains reached) 0 f.blocks)

-- the facts whose operand is a local of the set, and the others
abbrev pub resting : (ℕ → Bool) → List (ℕ × Operand) → List (ℕ × Operand)
resting among [] = []
resting among ((x, v) ∷ fs) = if is_member among v then (x, v) ∷ resting among fs else resting among fs

abbrev pub firm : (ℕ → Bool) → List (ℕ × Operand) → List (ℕ × Operand)
firm among [] = []
firm among ((x, v) ∷ fs) = if is_member among v then firm among fs else (x, v) ∷ firm among fs
