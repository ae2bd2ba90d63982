use Rattle.ir_parse.proofs.Readings.{apart, fault_once, reading_once}
use Rattle.ir_parse.proofs.laws.one_reading.Goals as goal

pub returns-clause-reading : goal.returns-clause-reading
returns-clause-reading c = reading_once

pub returns-clause-apart : goal.returns-clause-apart
returns-clause-apart c = apart

pub returns-clause-fault : goal.returns-clause-fault
returns-clause-fault c = fault_once
