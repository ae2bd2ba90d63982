use Rattle.ir_facts.proofs.Widths.{formed_wide}
use Rattle.ir_facts.proofs.laws.formed_functions_have_widths.Goals as goal

pub returns : goal.returns
returns c = formed_wide
