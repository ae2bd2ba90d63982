use Rattle.std.proofs.Common.{arith, rules}
use Rattle.std.proofs.lemmas.List.Elements.{All-map}
use Rattle.ir_tree.specs.declared.instr.Incoming.{Incoming}
use Rattle.ir_tree.specs.Items.{typed}
use Rattle.ir_tree.specs.Rules.{HasType}
use Rattle.ir_verify.proofs.Alls.{all_read, all_whole, all_fails_read, all_unmap}
use Rattle.ir_verify.proofs.types.entries_typed.Goals as goal

pub returns-then-not-has_type : goal.returns-then-not-has_type
returns-then-not-has_type c = (
  λ e. absurd (cc e),
  λ h. absurd (all_fails_read (λ (e : Incoming). HasType c.args.function.now (typed c.args.reg e.value)) c.args.entries.now c.loop-entry.entry-index c.entry-item.result c.loop-entry-test.true c.entry-item.is (λ t. let e = c.if-not-has_type.ensures.1 t in cc e)
      (all_unmap (HasType c.args.function.now) (λ (e : Incoming). typed c.args.reg e.value) c.args.entries.now h)),
)

pub loop-entry-preserved : goal.loop-entry-preserved
loop-entry-preserved c =
    all_read (λ (e : Incoming). HasType c.args.function.now (typed c.args.reg e.value)) c.args.entries.now c.loop-entry.entry-index c.entry-item.result c.loop-entry-test.true c.entry-item.is c.loop-entry.invariant (search rules)

pub returns : goal.returns
returns c =
    (λ e. All-map (HasType c.args.function.now) (λ (e : Incoming). typed c.args.reg e.value) c.args.entries.now (all_whole (λ (e : Incoming). HasType c.args.function.now (typed c.args.reg e.value)) c.args.entries.now c.loop-entry.entry-index (omega arith) c.loop-entry.invariant), λ h. search rules)
