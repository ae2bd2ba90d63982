use Rattle.std.proofs.Common.{ap, ◌∙◌, List, ℕ}
use Rattle.std.specs.Cow.{cow_slice_items}
use Rattle.ir_parse_names.specs.Globals.{has_name}
use Rattle.ir_parse_names.proofs.Names.{any_name}
use Rattle.ir_parse_names.proofs.name_set.NameSet.contains.Goals as goal

pub returns : goal.returns
returns c =
    c.contains.ensures ∙ any_name c.args.wanted.now c.self.inside.set.keys ∙ ap (λ (names : List (List ℕ)). has_name names (cow_slice_items c.args.wanted.now)) c.self.view_is
