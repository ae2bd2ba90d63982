use Rattle.std.proofs.Common.{◌≡◌, ◌+◌, ◌-◌, ◌*◌, ◌<◌, ◌≤◌, ◌^◌, ℕ, List, length, take, drop, subst, sym, arith}
use Rattle.std.proofs.lemmas.List.{length-drop, length-take}
use Rattle.ir_machine.specs.declared.mark.ByteMark.{ByteMark}
use Rattle.ir_machine.proofs.Marking.{eight_bytes, raised_below}
use Rattle.ir_machine.proofs.mark.+number_in.Goals as goal

-- the bound at the whole list's length
below : (b h : ℕ) (xs : List ByteMark) → 1 ≤ length xs → b < 256 → h < 2 ^ (8 * length (take (length xs - 1) (drop 1 xs))) →
    b + 256 * h < 2 ^ (8 * length xs)
below b h xs some small under =
    let rest : length xs ≡ length (take (length xs - 1) (drop 1 xs)) + 1 = omega (arith, some, length-drop {A = ByteMark}, length-take {A = ByteMark}) in
    subst (λ (k : ℕ). b + 256 * h < 2 ^ (8 * k)) (sym rest) (raised_below b h (length (take (length xs - 1) (drop 1 xs))) small under)

fits : (b h : ℕ) (xs : List ByteMark) → length xs ≤ 8 → 1 ≤ length xs → b < 256 →
    h < 2 ^ (8 * length (take (length xs - 1) (drop 1 xs))) → b + 256 * h < 2 ^ 64
fits b h xs few some small under = eight_bytes (b + 256 * h) (length xs) few (below b h xs some small under)

pub overflow_mul-result : goal.overflow_mul-result
overflow_mul-result t c =
    let whole : c.from.result + 256 * c.in_ok-higher-in-Plain.higher < 2 ^ 64 = fits c.from.result c.in_ok-higher-in-Plain.higher c.args.marks.now (omega arith) (omega arith) (omega arith) c.in_ok-higher-in-Plain.ensures.below in
    omega (arith, whole)

pub overflow_add-result : goal.overflow_add-result
overflow_add-result t c =
    let whole : c.from.result + 256 * c.in_ok-higher-in-Plain.higher < 2 ^ 64 = fits c.from.result c.in_ok-higher-in-Plain.higher c.args.marks.now (omega arith) (omega arith) (omega arith) c.in_ok-higher-in-Plain.ensures.below in
    omega (arith, whole)

pub returns-in_ok-higher-in-Plain-clause-below : goal.returns-in_ok-higher-in-Plain-clause-below
returns-in_ok-higher-in-Plain-clause-below t c =
    below c.from.result c.in_ok-higher-in-Plain.higher c.args.marks.now (omega arith) (omega arith) c.in_ok-higher-in-Plain.ensures.below
