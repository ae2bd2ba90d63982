use Rattle.std.proofs.Common.{ap, sym, ◌∙◌, refl, List, ℕ}
use Rattle.std.specs.Cow.{cow_slice_items}
use Rattle.ir_parse_names.specs.Globals.{has_name}
use Rattle.ir_parse_names.proofs.Names.{named}
use Rattle.ir_parse_names.proofs.name_set.NameSet.push.Goals as goal

pub returns : goal.returns
returns c =
    let free = ap (λ (names : List (List ℕ)). has_name names (cow_slice_items c.args.wanted)) c.self.view_is ∙ c.requires in
    rw (sym c.self.view_is, c.in_ok-insert.ensures.keys, named c.self.inside.set.keys c.args.wanted free) refl
