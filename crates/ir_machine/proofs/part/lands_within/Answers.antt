use Rattle.std.proofs.Common.{◌≡◌, ℕ, ℤ, pos, int_lt, ◌*◌, ◌^◌, ◌<◌, ◌≤◌, ap, sym, ◌∙◌, nat_abs, w64, arith, rules}
use Rattle.std.proofs.lemmas.Int.{to_z-of_z}
use Rattle.ir_machine.proofs.Walks.{landing_above, landing_below, landing_far}
use Rattle.ir_machine.proofs.part.lands_within.Goals as goal

pub returns-in_default : goal.returns-in_default
returns-in_default c =
    let size : c.args.size < 2 ^ 64 = search rules in
    let offset : c.args.offset < 2 ^ 64 = search rules in
    let abs : c.unsigned_abs.result ≡ nat_abs c.args.count = c.unsigned_abs.ensures.value ∙ ap nat_abs (to_z-of_z w64 c.args.count c.ranges.count) in
    let far : 2 ^ 64 ≤ c.unsigned_abs.result * c.args.bytes = omega (arith, c.in_default.ensures) in
    let far' : 2 ^ 64 ≤ nat_abs c.args.count * c.args.bytes = omega (arith, far, ap (λ (n : ℕ). n * c.args.bytes) abs) in
    sym (landing_far c.args.size c.args.offset c.args.bytes c.args.count size offset far')

pub returns-then-count-lt0 : goal.returns-then-count-lt0
returns-then-count-lt0 c =
    let abs : c.unsigned_abs.result ≡ nat_abs c.args.count = c.unsigned_abs.ensures.value ∙ ap nat_abs (to_z-of_z w64 c.args.count c.ranges.count) in
    c.lands_below.ensures
    ∙ sym (landing_below c.args.size c.args.offset c.args.bytes c.in-Some.by c.args.count (sym (ap (λ (z : ℤ). int_lt z (pos 0)) (to_z-of_z w64 c.args.count c.ranges.count)) ∙ c.if-count-lt0.true) (c.in-Some.ensures.1 ∙ ap (λ (n : ℕ). n * c.args.bytes) abs))

pub returns-else-count-lt0 : goal.returns-else-count-lt0
returns-else-count-lt0 c =
    let abs : c.unsigned_abs.result ≡ nat_abs c.args.count = c.unsigned_abs.ensures.value ∙ ap nat_abs (to_z-of_z w64 c.args.count c.ranges.count) in
    c.lands_above.ensures
    ∙ sym (landing_above c.args.size c.args.offset c.args.bytes c.in-Some.by c.args.count (sym (ap (λ (z : ℤ). int_lt z (pos 0)) (to_z-of_z w64 c.args.count c.ranges.count)) ∙ c.if-count-lt0.false) (c.in-Some.ensures.1 ∙ ap (λ (n : ℕ). n * c.args.bytes) abs))
