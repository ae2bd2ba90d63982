use Rattle.std.proofs.Common.{◌+◌, length, sym, ap, ◌∙◌}
use Rattle.ir_parse_parts.specs.Shapes.{named}
use Rattle.ir_parse_names.specs.Types.{Types, head_from, head_of}
use Rattle.ir_parse_names.proofs.Chains.{found}
use Rattle.ir_parse_names.proofs.heads.Types.head_behind.Goals as goal

pub returns-in-Some : goal.returns-in-Some
unfolding head_of
returns-in-Some c =
    ap (λ (types : Types). head_from (length types + 1) types (named c.args.name.now)) (sym c.self.view_is)
    ∙ found c.self.inside.names c.args.name.now c.in_ok-place.place c.in-Some.chain c.in_ok-place.ensures c.in-Some.ensures
