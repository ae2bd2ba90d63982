use Rattle.std.proofs.Common.{arith, rules}
use Rattle.ir_tree.specs.Items.{typed, reads}
use Rattle.ir_tree.specs.Rules.{HasType}
use Rattle.ir_verify.proofs.Alls.{all_got, all_whole, all_fails_got}
use Rattle.ir_verify.proofs.types.reads_typed.Goals as goal

pub returns-then-not-has_type : goal.returns-then-not-has_type
returns-then-not-has_type c =
    (λ e. absurd (cc e), λ h. absurd (all_fails_got (HasType c.args.function.now) (reads c.args.instr.now) c.loop-number.number (typed c.in-Some.reg c.in-Some.operand.now) c.in-Some.ensures (λ t. let e = c.if-not-has_type.ensures.1 t in cc e) h))

pub loop-number-preserved : goal.loop-number-preserved
loop-number-preserved c =
    all_got (HasType c.args.function.now) (reads c.args.instr.now) c.loop-number.number (typed c.in-Some.reg c.in-Some.operand.now) c.in-Some.ensures c.loop-number.invariant (search rules)

pub returns : goal.returns
returns c = (λ e. all_whole (HasType c.args.function.now) (reads c.args.instr.now) c.loop-number.number (omega (arith, c.read_count-number-end.ensures)) c.loop-number.invariant, λ h. search rules)
