use Rattle.std.proofs.Common.{arith, refl}
use Rattle.ir_tree.specs.Formed.{ArgumentFormed}
use Rattle.ir_tree.specs.Items.{reads}
use Rattle.ir_tree.specs.Rules.{IsThere}
use Rattle.ir_tree.specs.declared.operand.Argument.{Argument}
use Rattle.ir_verify.proofs.Alls.{got_all, all_got, all_whole, all_fails_got}
use Rattle.ir_verify.proofs.available.reads_there.Goals as goal

pub operand_there-requires-clause-operand : goal.operand_there-requires-clause-operand
operand_there-requires-clause-operand c = (got_all (ArgumentFormed c.args.function.now) (reads c.args.instr.now) c.loop-number.number _ c.in-Some.ensures c.requires.reads).1

pub returns-then-not-operand_there : goal.returns-then-not-operand_there
returns-then-not-operand_there c =
    (λ e. absurd (cc e), λ h. absurd (all_fails_got (λ (a : Argument). IsThere c.args.function.now c.args.block c.args.line a.operand) (reads c.args.instr.now) c.loop-number.number _ c.in-Some.ensures (λ t. let e = c.if-not-operand_there.ensures.1 t in cc e) h))

pub loop-number-preserved : goal.loop-number-preserved
loop-number-preserved c =
    all_got (λ (a : Argument). IsThere c.args.function.now c.args.block c.args.line a.operand) (reads c.args.instr.now) c.loop-number.number _ c.in-Some.ensures c.loop-number.invariant (c.if-not-operand_there.ensures.0 refl)

pub returns : goal.returns
returns c = (λ e. all_whole (λ (a : Argument). IsThere c.args.function.now c.args.block c.args.line a.operand) (reads c.args.instr.now) c.loop-number.number (omega (arith, c.read_count-number-end.ensures)) c.loop-number.invariant, λ h. refl)
