use Rattle.std.proofs.Common.{ℕ, ℤ, pos, ◌*ℤ◌, [], ◌∷◌, ap, sym, ◌∙◌, w64, arith}
use Rattle.std.proofs.lemmas.Int.{to_z-of_z}
use Rattle.ir_tree.specs.Layout.{IsLaidOut}
use Rattle.ir_meaning.specs.Address.{are_all_zero, displacements_into}
use Rattle.ir_machine.specs.Walking.{displacements_at}
use Rattle.ir_machine.specs.declared.walk.Next.{Next}
use Rattle.ir_machine.proofs.Walks.{behind}
use Rattle.ir_machine.proofs.walk.Walk.index.Goals as goal
use Rattle.ir_meaning.proofs.ShapeParts.{size_most}

pub on-requires : goal.on-requires
on-requires c =
    let laid : IsLaidOut c.in-Along.shape.now = rw c.in-Along.is at c.requires.sized in
    omega (arith, size_most c.in-Along.shape.now laid, c.size_of.ensures)

pub returns-in-Along-clause-ends : goal.returns-in-Along-clause-ends
returns-in-Along-clause-ends c = λ inbounds is.
    let shape = c.in-Along.shape.now in
    let index = to_z-of_z w64 c.args.index c.ranges.index in
    behind inbounds c.args.self c.on.result c.is_zero-zero.result c.args.index is (displacements_into shape is) _
    (ap (λ (n : Next). displacements_at n is) c.on.ensures.next)
    (c.on.ensures.ends inbounds (are_all_zero is) (displacements_into shape is))
    (c.is_zero-zero.ensures ∙ ap (λ (z : ℤ). are_all_zero (z ∷ [])) index)
    (ap (λ (z : ℤ). (z *ℤ pos c.size_of.result) ∷ displacements_into shape is) index
    ∙ ap (λ (n : ℕ). (c.args.index *ℤ pos n) ∷ displacements_into shape is) c.size_of.ensures
    ∙ ap (λ (n : Next). displacements_at n (c.args.index ∷ is)) (sym c.in-Along.is))
