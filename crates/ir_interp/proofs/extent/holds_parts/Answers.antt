use Rattle.std.proofs.Common.{arith, ◌≤◌, ◌^◌, sym, true≢false}
use Rattle.ir_tree.specs.Forms.{forms_of, structure}
use Rattle.ir_tree.specs.Layout as layout
use Rattle.ir_tree.proofs.Layouts.{size_ends, widest_least, widest_most}
use Rattle.ir_interp.proofs.extent.holds_parts.Goals as goal

pub rounded-requires-clause-least : goal.rounded-requires-clause-least
rounded-requires-clause-least c = omega (arith, c.widest.ensures, widest_least (forms_of c.args.parts.now))

pub rounded-requires-clause-most : goal.rounded-requires-clause-most
rounded-requires-clause-most c = omega (arith, c.widest.ensures, widest_most (forms_of c.args.parts.now) c.requires.laid)

pub returns-in-None : goal.returns-in-None
returns-in-None c =
    let past = c.end_of.ensures.none c.in-None.is in
    let more = size_ends c.args.packed (forms_of c.args.parts.now) c.requires.laid in (
      λ e. absurd (true≢false (sym e)),
      λ h. let all : layout.size (structure c.args.packed (forms_of c.args.parts.now)) ≤ 2 ^ 31 = h in absurd (omega (arith, past, more, all)),
    )
