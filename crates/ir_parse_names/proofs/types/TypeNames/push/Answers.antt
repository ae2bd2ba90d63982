use Rattle.std.proofs.Common.{ap, sym, ◌∙◌, is_some, Ok}
use Rattle.ir_parse_names.specs.KeyViews.{key}
use Rattle.ir_parse_names.specs.Types.{Types, entry_of}
use Rattle.ir_parse_names.proofs.SameTypes.{pushed}
use Rattle.ir_parse_names.proofs.types.TypeNames.push.Goals as goal

pub returns : goal.returns
returns c =
    let free = ap (λ (t : Types). is_some (entry_of t (key c.args.wanted))) c.self.view_is ∙ c.requires in
    rw (sym c.self.view_is, c.in_ok-insert.ensures.entries) (ap (λ (t : Types). Ok t) (sym (pushed c.self.inside.map c.args.wanted c.args.shape free)))
