use Rattle.std.proofs.Common.{sym, ap, ◌∙◌}
use Rattle.ir_parse_names.specs.Types.{entry_of, or_unknown}
use Rattle.ir_parse_names.proofs.types.TypeNames.place_in.Goals as goal

pub returns-in-Some : goal.returns-in-Some
returns-in-Some c = ap (or_unknown c.args.name.now.line) (ap (entry_of c.args.self.now) (sym c.in_ok-wanted.ensures.exact) ∙ sym c.in-Some.ensures.shape)
