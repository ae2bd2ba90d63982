use Rattle.ir_parse_sizes.specs.Measures.{IsMeasured, IsSmallIf}
use Rattle.ir_parse_sizes.proofs.Measured.{at_some, fits}
use Rattle.ir_parse_sizes.proofs.sizes.Sizes.shape_within.Goals as goal

pub returns-in-Some-Some : goal.returns-in-Some-Some
returns-in-Some-Some c =
    let s = c.in-Some-Some in
    fits c.args.self.now c.args.typed.now s.field-0-0 (at_some (IsMeasured c.args.self.now c.args.typed.now.shape) c.in_ok-measured.field-0 s.field-0 s.field-0-0 s.is s.field-0-is c.in_ok-measured.ensures.given)
    (at_some IsSmallIf c.in_ok-measured.field-0 s.field-0 s.field-0-0 s.is s.field-0-is c.in_ok-measured.ensures.small)
