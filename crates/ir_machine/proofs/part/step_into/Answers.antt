use Rattle.std.proofs.Common.{arith, rules, ◌∙◌, ap, w64}
use Rattle.std.specs.Prelude.{nat_abs}
use Rattle.std.proofs.lemmas.Int.{to_z-of_z}
use Rattle.ir_tree.specs.Layout.{IsLaidOut}
use Rattle.ir_machine.proofs.Parts.{leads_to_part, offset_most}
use Rattle.ir_machine.proofs.part.step_into.Goals as goal
use Rattle.ir_meaning.proofs.ShapeParts.{has_part, laid_part, laid_parts, leads_nowhere, size_most}

pub offset_of-bytes-requires-clause-has : goal.offset_of-bytes-requires-clause-has
offset_of-bytes-requires-clause-has c =
    let is = rw c.in-Struct.is at c.node.ensures in
    has_part c.args.shape.now c.in-Struct.field-0 c.in-Struct.parts.items c.unsigned_abs-place.result is (search rules)

pub returns-in-Array-clause-few : goal.returns-in-Array-clause-few
returns-in-Array-clause-few c =
    let laid : IsLaidOut c.deref.result.now = search rules in
    let most = size_most c.deref.result.now laid in
    omega (arith, most, c.size_of-bytes.ensures)

pub returns-then-place-len-clause-step : goal.returns-then-place-len-clause-step
returns-then-place-len-clause-step c =
    let is = rw c.in-Struct.is at c.node.ensures in
    let index = c.unsigned_abs-place.ensures.value ∙ ap nat_abs (to_z-of_z w64 c.args.index c.ranges.index) in
    λ more. leads_to_part c.args.shape.now c.in-Struct.field-0 c.in-Struct.parts.items c.args.index c.unsigned_abs-place.result c.index.result.now c.offset_of-bytes.result more
    is index (search rules) c.index.ensures c.offset_of-bytes.ensures

pub returns-then-place-len-clause-laid : goal.returns-then-place-len-clause-laid
returns-then-place-len-clause-laid c =
    let is = rw c.in-Struct.is at c.node.ensures in
    laid_part c.in-Struct.parts.items c.unsigned_abs-place.result c.index.result.now
    (laid_parts c.args.shape.now c.in-Struct.field-0 c.in-Struct.parts.items is c.requires.laid) (search rules) c.index.ensures

pub returns-then-place-len-clause-few : goal.returns-then-place-len-clause-few
returns-then-place-len-clause-few c =
    let is = rw c.in-Struct.is at c.node.ensures in
    let most = offset_most c.args.shape.now c.in-Struct.field-0 c.in-Struct.parts.items c.unsigned_abs-place.result is c.requires.laid (search rules) in
    omega (arith, most, c.offset_of-bytes.ensures)

pub returns-else-place-len-clause-step : goal.returns-else-place-len-clause-step
returns-else-place-len-clause-step c =
    let is = rw c.in-Struct.is at c.node.ensures in
    let index = c.unsigned_abs-place.ensures.value ∙ ap nat_abs (to_z-of_z w64 c.args.index c.ranges.index) in
    λ more. leads_nowhere c.args.shape.now c.in-Struct.field-0 c.in-Struct.parts.items c.args.index c.unsigned_abs-place.result more is index (search rules)
