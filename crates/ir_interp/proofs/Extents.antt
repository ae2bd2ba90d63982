-- How far parts of shapes that are laid out reach.
use Rattle.std.specs.Prelude.{◌≡◌, ℕ, ◌+◌, ◌-◌, ◌≤◌, ◌^◌, max, Bool, true, false}
use Rattle.std.proofs.Common.{arith, nat_cmp}
use Rattle.std.specs.Ordering.{ord_max}
use Rattle.std.proofs.Math.Nat.{mod-add-div'}
use Rattle.ir_tree.specs.Forms.{Form, int, pointer, array, structure}
use Rattle.ir_tree.specs.Layout.{IsLaidOut, align, begins, rounded, size}
use Rattle.ir_tree.proofs.Layouts.{align_least, align_most}

pub size_most : (f : Form) → IsLaidOut f → size f ≤ 2 ^ 31
size_most (int w) h = omega (arith, h.1)
size_most pointer h = omega arith
size_most (array n of) h = h.0
size_most (structure packed parts) h = h.0

rounded_most : (n a : ℕ) → 1 ≤ a → a ≤ 8 → rounded n a ≤ n + 7
rounded_most n a h k = omega (arith, mod-add-div' (n + (a - 1)) a)

pub begins_most : (packed : Bool) (n : ℕ) (f : Form) → IsLaidOut f → begins packed n f ≤ n + 7
begins_most true n f h = omega arith
begins_most false n f h = rounded_most n (align f) (align_least f h) (align_most f h)

pub greater_is_max : (a b : ℕ) → ord_max nat_cmp a b ≡ max a b
greater_is_max a b = grind arith
