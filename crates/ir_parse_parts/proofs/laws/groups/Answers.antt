use Rattle.std.proofs.Common.{refl}
use Rattle.ir_parse_parts.proofs.Grouped as grouped
use Rattle.ir_parse_parts.proofs.laws.groups.Goals as goal

pub returns-clause-lawful : goal.returns-clause-lawful
returns-clause-lawful c = grouped.lawful

pub returns-clause-nested : goal.returns-clause-nested
returns-clause-nested c = refl

pub returns-clause-other : goal.returns-clause-other
returns-clause-other c = refl

pub returns-clause-end : goal.returns-clause-end
returns-clause-end c = refl
