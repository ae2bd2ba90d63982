use Rattle.std.proofs.Common.{◌≡◌, length, []}
use Rattle.ir_parse_parts.specs.Chained.{chain_at}
use Rattle.ir_parse_parts.specs.Readers.{folded}
use Rattle.ir_parse.specs.ItemForms.{anywhere, keep}
use Rattle.ir_parse.specs.ItemFormsAt.{begins_there, there_at, first_place}
use Rattle.ir_parse.proofs.items.items_into.Given as goal

abbrev pub invariant-each : goal.invariant-each
invariant-each l = folded keep l.items.items (chain_at anywhere begins_there (there_at l.fn.room) l.at l.tokens) ≡ folded keep [] (chain_at anywhere begins_there (there_at l.fn.room) (first_place l.fn.names) l.fn.tokens)

abbrev pub decreases-each : goal.decreases-each
decreases-each l = length l.tokens
