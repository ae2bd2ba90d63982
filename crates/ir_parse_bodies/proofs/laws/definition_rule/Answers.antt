use Rattle.ir_parse_bodies.proofs.BlockRules as block_rules
use Rattle.ir_parse_bodies.proofs.laws.definition_rule.Goals as goal

pub returns-clause-rule : goal.returns-clause-rule
returns-clause-rule c = block_rules.definition_rule

pub returns-clause-opens : goal.returns-clause-opens
returns-clause-opens c = block_rules.definition_opens
