use Rattle.std.proofs.Common.{◌≡◌, length, false}
use Rattle.ir_tree.specs.declared.function.Linkage.TheVariants as linkages
use Rattle.ir_parse_parts.specs.Chained.{chain_at}
use Rattle.ir_parse_parts.specs.Readers.{folded}
use Rattle.ir_parse_heads.specs.FunctionHeads.{at_will, with_linkage}
use Rattle.ir_parse_heads.specs.FunctionHeadsAt.{begins_leading, leading_at}
use Rattle.ir_parse_heads.proofs.function_heads.prefix_at.Given as goal

abbrev pub invariant-each : goal.invariant-each
invariant-each l = folded with_linkage l.linkage (chain_at at_will (begins_leading l.fn.role) (leading_at l.fn.role) l.linked l.tokens) ≡ folded with_linkage linkages.External (chain_at at_will (begins_leading l.fn.role) (leading_at l.fn.role) false l.fn.tokens)

abbrev pub decreases-each : goal.decreases-each
decreases-each l = length l.tokens
