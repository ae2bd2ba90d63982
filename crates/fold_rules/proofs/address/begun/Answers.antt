use Rattle.std.proofs.Common.{ℕ, ℤ, pos, ◌*ℤ◌, ap, ◌∙◌, subst, arith, w64, FitsSigned, rules}
use Rattle.std.specs.Int.{int_wrapping_add}
use Rattle.std.proofs.lemmas.Int.{to_z-of_z}
use Rattle.ir_meaning.specs.Address.{displacements_into, sum_from}
use Rattle.lto_bits.specs.Word.{wrapped}
use Rattle.ir_meaning.proofs.Wraps.{first_step}
use Rattle.fold_rules.proofs.address.begun.Goals as goal
use Rattle.ir_meaning.proofs.ShapeParts.{size_most}

pub times-by-requires : goal.times-by-requires
times-by-requires c =
    let most = size_most c.args.shape.now c.requires.laid in
    record { most = omega (arith, most, c.size_of.ensures) }

pub returns-clause-sum : goal.returns-clause-sum
returns-clause-sum c =
    let by = c.times-by.result in
    let offset = c.args.offset in
    let fits : FitsSigned w64 c.cast_signed.result = record { sfits = c.cast_signed.type_inv } in
    let fits' : FitsSigned w64 by = record { sfits = c.times-by.type_inv } in
    let times = c.times-by.ensures ∙ ap (λ (z : ℤ). wrapped 64 (z *ℤ pos c.size_of.result)) (to_z-of_z w64 c.args.index c.ranges.index)
    ∙ ap (λ (n : ℕ). wrapped 64 (c.args.index *ℤ pos n)) c.size_of.ensures in
    λ is. ap (λ (z : ℤ). wrapped 64 (sum_from (int_wrapping_add w64 z by) (displacements_into c.args.shape.now is))) c.cast_signed.ensures
    ∙ first_step offset by _ (displacements_into c.args.shape.now is) (search rules) (subst (FitsSigned w64) c.cast_signed.ensures fits) fits' times
