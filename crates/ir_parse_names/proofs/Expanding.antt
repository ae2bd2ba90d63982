-- One level of an expansion.
use Rattle.std.proofs.Common.{◌≡◌, refl, ap, ◌∙◌, ℕ, suc, Bool, List, Ok}
use Rattle.ir_parse_parts.specs.Shapes.{Written, array, structure, parts_of, list_of}
use Rattle.ir_tree.specs.Forms as tree
use Rattle.ir_parse_names.specs.Resolving.{each, ◌>>=◌}
use Rattle.ir_parse_names.specs.Types.{Types, head_of, expand, opened, within, structure_of}

module _ (n k : ℕ) (types : Types) (line : ℕ) (s h : Written) (level : n ≡ suc k) (head : head_of types s ≡ Ok h) where
  pub opened_step : (g : Written) → h ≡ g → expand n types line s ≡ opened (expand k types line) line g
  opened_step g is = rw (level, head, is) refl

  pub structure_step : (packed : Bool) (items : List Written) → h ≡ structure packed (parts_of items)
      → expand n types line s ≡ structure_of line packed (each (expand k types line) (list_of (parts_of items)))
  structure_step packed items is = opened_step (structure packed (parts_of items)) is

  pub array_step : (count : ℕ) (of : Written) (f : tree.Form) → h ≡ array count of → expand k types line of ≡ Ok f → expand n types line s ≡ within line (tree.array count f)
  array_step count of f is inner = opened_step (array count of) is ∙ ap (λ r. r >>= λ g. within line (tree.array count g)) inner
