use Rattle.std.proofs.Common.{rules}
use Rattle.combined_index.proofs.Placings.{passed_over, placed_again, placed_here}
use Rattle.combined_index.proofs.places.put.Goals as goal

pub returns-then-is_none-clause-placed : goal.returns-then-is_none-clause-placed
returns-then-is_none-clause-placed c = λ modules before at placed. placed_here modules before c.args.definition.now c.args.places.now placed c.args.here at c.if-definition.true c.requires (search rules)

pub returns-else-is_none-clause-placed : goal.returns-else-is_none-clause-placed
returns-else-is_none-clause-placed c = λ modules before at placed. placed_again modules before c.args.definition.now c.args.places.now placed c.requires (search rules)

pub returns-else-definition-clause-placed : goal.returns-else-definition-clause-placed
returns-else-definition-clause-placed c = λ modules before at placed. passed_over modules before c.args.definition.now c.args.places.now placed c.if-definition.false
