use Rattle.merge_meaning.specs.Scopes.{names_by}
use Rattle.merge_meaning.proofs.Kept.{new_initial, new_is_flat}
use Rattle.merge_meaning.proofs.taken.initial.Goals as goal

pub of-requires : goal.of-requires
of-requires c =
    new_is_flat (names_by c.args.scope.now) c.args.init.now c.flat.result.0.now c.in_ok-root.root c.flat.result.1.now
    c.in_ok-parts.parts c.flat.ensures c.in_ok-root.ensures c.in_ok-parts.ensures

pub returns : goal.returns
returns c =
    new_initial (names_by c.args.scope.now) c.args.init.now c.flat.result.0.now c.in_ok-root.root c.flat.result.1.now
    c.in_ok-parts.parts c.flat.ensures c.in_ok-root.ensures c.in_ok-parts.ensures c.of.result c.of.ensures
