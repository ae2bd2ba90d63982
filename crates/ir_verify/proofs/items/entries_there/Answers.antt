use Rattle.std.proofs.Common.{arith, refl, sym, ap, subst, ◌∙◌, List, ℕ, ◌<◌, length}
use Rattle.ir_tree.specs.declared.block.Block.{Block}
use Rattle.ir_tree.specs.Formed.{IsBlock, OperandFormed}
use Rattle.ir_tree.specs.Rules.{IsThereAtEnd, place}
use Rattle.ir_tree.specs.declared.instr.Incoming.{Incoming}
use Rattle.ir_verify.proofs.Alls.{read_all, all_read, all_whole, all_fails_read}
use Rattle.ir_verify.proofs.Kept.{placed}
use Rattle.ir_verify.proofs.items.entries_there.Goals as goal

pub operand_at_end-requires-clause-within : goal.operand_at_end-requires-clause-within
operand_at_end-requires-clause-within c =
    subst (λ (n : ℕ). n < length c.args.function.now.blocks) (sym (c.place_of-from.ensures ∙ ap (λ (bs : List Block). place bs c.entry-item.result.from) c.as_slice.ensures))
    (placed c.args.function.now.blocks c.entry-item.result.from (read_all (λ (e : Incoming). IsBlock c.args.function.now e.from) c.args.entries.now c.loop-entry.entry-index c.entry-item.result c.loop-entry-test.true c.entry-item.is c.requires.sources))

pub operand_at_end-requires-clause-operand : goal.operand_at_end-requires-clause-operand
operand_at_end-requires-clause-operand c =
    read_all (λ (e : Incoming). OperandFormed c.args.function.now e.value) c.args.entries.now c.loop-entry.entry-index c.entry-item.result c.loop-entry-test.true c.entry-item.is c.requires.values

pub returns-then-not-operand_at_end : goal.returns-then-not-operand_at_end
returns-then-not-operand_at_end c = (
  λ e. absurd (cc e),
  λ h. absurd (all_fails_read (λ (e : Incoming). IsThereAtEnd c.args.function.now (place c.args.function.now.blocks e.from) e.value) c.args.entries.now c.loop-entry.entry-index c.entry-item.result c.loop-entry-test.true c.entry-item.is
      (λ t. let e = c.if-not-operand_at_end.ensures.1 (subst (λ (n : ℕ). IsThereAtEnd c.args.function.now n c.entry-item.result.value) (sym (c.place_of-from.ensures ∙ ap (λ (bs : List Block). place bs c.entry-item.result.from) c.as_slice.ensures)) t) in cc e) h),
)

pub loop-entry-preserved : goal.loop-entry-preserved
loop-entry-preserved c =
    all_read (λ (e : Incoming). IsThereAtEnd c.args.function.now (place c.args.function.now.blocks e.from) e.value) c.args.entries.now c.loop-entry.entry-index c.entry-item.result c.loop-entry-test.true c.entry-item.is c.loop-entry.invariant
    (subst (λ (n : ℕ). IsThereAtEnd c.args.function.now n c.entry-item.result.value) (c.place_of-from.ensures ∙ ap (λ (bs : List Block). place bs c.entry-item.result.from) c.as_slice.ensures) (c.if-not-operand_at_end.ensures.0 refl))

pub returns : goal.returns
returns c = (λ e. all_whole (λ (e : Incoming). IsThereAtEnd c.args.function.now (place c.args.function.now.blocks e.from) e.value) c.args.entries.now c.loop-entry.entry-index (omega arith) c.loop-entry.invariant, λ h. refl)
