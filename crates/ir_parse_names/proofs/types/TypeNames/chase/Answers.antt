use Rattle.std.proofs.Common.{◌≡◌, ℕ, suc, ◌-◌, refl, sym, ap, ◌∙◌, arith}
use Rattle.ir_parse_parts.specs.Shapes.{named}
use Rattle.ir_parse_names.specs.Types.{chased, shape_at}
use Rattle.ir_parse_names.proofs.KnownTypes.{goes_along}
use Rattle.ir_parse_names.proofs.types.TypeNames.chase.Goals as goal

pub each-preserved : goal.each-preserved
each-preserved c =
    let is : c.in-Some.shape.now ≡ named c.in-Named.name = rw (c.node.ensures, c.in-Named.is) refl in
    let one : c.each.left ≡ suc (c.each.left - 1) = omega (arith, c.if-left-eq0.false) in
    ap (λ (line : ℕ). chased (c.each.left - 1) c.args.self.now line (shape_at c.args.self.now c.in_ok-place-in-Named.place)) c.line-line.ensures
    ∙ sym (goes_along c.each.left (c.each.left - 1) c.args.self.now c.each.line c.in-Named.name (shape_at c.args.self.now c.each.place) (shape_at c.args.self.now c.in_ok-place-in-Named.place) c.in-Some.shape.now one c.in-Some.ensures is c.in_ok-place-in-Named.ensures)
    ∙ c.each.invariant
