use Rattle.std.proofs.Common.{ℕ, ℤ, pos, arith, rules, ◌∙◌, ap, sym, w64, of_z, to_z, mod-eq_of_lt}
use Rattle.std.specs.Prelude.{nat_abs}
use Rattle.std.proofs.lemmas.Int.{of_z-to_z, to_z-of_z}
use Rattle.ir_tree.specs.Layout.{IsLaidOut}
use Rattle.lto_bits.specs.Word.{wrapped}
use Rattle.fold_rules.proofs.Parts.{leads_to_part}
use Rattle.ir_meaning.proofs.Wraps.{signed_wraps}
use Rattle.fold_rules.proofs.address.step_into.Goals as goal
use Rattle.ir_meaning.proofs.ShapeParts.{has_part, laid_part, laid_parts, leads_nowhere, size_most}

pub times-bytes-requires : goal.times-bytes-requires
times-bytes-requires c =
    let laid : IsLaidOut c.deref.result.now = search rules in
    let most = size_most c.deref.result.now laid in
    record { most = omega (arith, most, c.size_of.ensures) }

pub offset_of-requires-clause-has : goal.offset_of-requires-clause-has
offset_of-requires-clause-has c =
    let is = rw c.in-Struct.is at c.node.ensures in
    has_part c.args.shape.now c.in-Struct.field-0 c.in-Struct.parts.items c.unsigned_abs-place.result is (search rules)

pub returns-then-place-len-clause-step : goal.returns-then-place-len-clause-step
returns-then-place-len-clause-step c =
    let is = rw c.in-Struct.is at c.node.ensures in
    let o = c.offset_of.result in
    let below = c.offset_of.type_inv in
    let index = c.unsigned_abs-place.ensures.value ∙ ap nat_abs (to_z-of_z w64 c.args.index c.ranges.index) in (
      pos o,
      ap (λ (z : ℤ). wrapped 64 (to_z w64 (of_z w64 z))) c.cast_signed-bytes.ensures ∙ ap (λ (n : ℕ). wrapped 64 (to_z w64 n)) (of_z-to_z w64 o below)
          ∙ signed_wraps o below ∙ sym (mod-eq_of_lt below),
      λ more. leads_to_part c.args.shape.now c.in-Struct.field-0 c.in-Struct.parts.items c.args.index c.unsigned_abs-place.result c.index.result.now o more
          is index (search rules) c.index.ensures c.offset_of.ensures,
    )

pub returns-then-place-len-clause-laid : goal.returns-then-place-len-clause-laid
returns-then-place-len-clause-laid c =
    let is = rw c.in-Struct.is at c.node.ensures in
    laid_part c.in-Struct.parts.items c.unsigned_abs-place.result c.index.result.now
    (laid_parts c.args.shape.now c.in-Struct.field-0 c.in-Struct.parts.items is c.requires.laid) (search rules) c.index.ensures

pub returns-else-place-len-clause-step : goal.returns-else-place-len-clause-step
returns-else-place-len-clause-step c =
    let is = rw c.in-Struct.is at c.node.ensures in
    let index = c.unsigned_abs-place.ensures.value ∙ ap nat_abs (to_z-of_z w64 c.args.index c.ranges.index) in
    λ more. leads_nowhere c.args.shape.now c.in-Struct.field-0 c.in-Struct.parts.items c.args.index c.unsigned_abs-place.result more is index (search rules)
