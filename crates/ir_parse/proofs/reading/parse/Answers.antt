use Rattle.ir_parse.proofs.Readings.{only_so, refused_so}
use Rattle.ir_parse.proofs.reading.parse.Goals as goal

pub returns-clause-only : goal.returns-clause-only
returns-clause-only c = only_so c.args.bytes.now c.read_text.result c.read_text.ensures.found c.read_text.ensures.fault

pub returns-clause-refused : goal.returns-clause-refused
returns-clause-refused c = refused_so c.args.bytes.now c.read_text.result c.read_text.ensures.found c.read_text.ensures.fault
