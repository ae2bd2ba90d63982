use Rattle.std.proofs.Common.{suc, refl, add-one}
use Rattle.ir_tree.specs.Rules.{result_type}
use Rattle.ir_verify.specs.Definitions.{line_pairs, named}
use Rattle.ir_verify.proofs.Extending.{along_step}
use Rattle.ir_verify.proofs.definitions.put_lines.Goals as goal

pub loop-place-preserved : goal.loop-place-preserved
loop-place-preserved c =
    along_step (line_pairs c.args.block) (λ k l. named l.local (result_type l.instr) c.args.block (suc k)) (λ k y ys. refl) c.args.lines.now c.loop-place.place c.index-lines-place.result _ _ _ c.loop-place-test.true c.index-lines-place.is c.loop-place.invariant
    (rw add-one at c.in_ok-put_line.ensures)
