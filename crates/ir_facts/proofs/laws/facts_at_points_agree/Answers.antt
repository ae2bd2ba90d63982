use Rattle.ir_facts.proofs.Agreeing.{solutions_agree}
use Rattle.ir_facts.proofs.laws.facts_at_points_agree.Goals as goal

pub returns : goal.returns
returns c = solutions_agree
