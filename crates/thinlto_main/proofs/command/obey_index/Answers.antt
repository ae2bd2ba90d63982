use Rattle.std.proofs.Common.{ℕ, List, subst}
use Rattle.run_program.specs.Causes.{Comes}
use Rattle.thinlto_main.specs.Answers.{reporting}
use Rattle.thinlto_main.specs.Seen.{seen}
use Rattle.thinlto_main.proofs.command.obey_index.Goals as goal

pub returns-clause-answer : goal.returns-clause-answer
returns-clause-answer g c =
    subst (λ (z : List (List ℕ) × List (List ℕ)). Comes (reporting z.0 c.args.import_limit z.1 (seen g.F.Files.did g.F.Files.held g.F.Files.faults g.O.ByteOut.sent g.O.ByteOut.faults c.args.files.now c.index.new.files c.args.out.now c.index.new.out)) c.index.result)
    (λ i. (c.as_slice.ensures i, c.as_slice-2.ensures i)) c.index.ensures.answer

pub returns-clause-later : goal.returns-clause-later
returns-clause-later g c = c.index.ensures.later
