use Rattle.merge_meaning.specs.Scopes.{names_by}
use Rattle.merge_meaning.proofs.Kept.{function_kept}
use Rattle.merge_meaning.proofs.taken.function.Goals as goal

pub returns : goal.returns
returns c =
    function_kept (names_by c.args.scope.now) c.args.old.now c.in_ok-changed.changed c.in_ok-symbol.symbol c.in_ok-changed.ensures c.in_ok-symbol.ensures
