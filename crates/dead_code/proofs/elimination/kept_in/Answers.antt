use Rattle.std.proofs.Common.{◌∙◌, nat_eq}
use Rattle.std.specs.HashSet.{contains}
use Rattle.dead_code.specs.Readers.{read_for}
use Rattle.dead_code.proofs.Reading.{least_closed}
use Rattle.dead_code.proofs.elimination.kept_in.Goals as goal

pub returns : goal.returns
returns c =
    least_closed (contains nat_eq c.in_ok-kept.kept) c.args.f.now c.deref.result.now c.in_ok-readers.readers.by_effects.items (read_for c.in_ok-readers.readers) (c.deref.ensures.value ∙ c.in_ok-uses.ensures)
    c.in_ok-readers.ensures.effects c.in_ok-readers.ensures.definitions c.in_ok-kept.ensures
