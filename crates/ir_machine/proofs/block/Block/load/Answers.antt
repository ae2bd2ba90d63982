use Rattle.std.proofs.Common.{ℕ, [], sym, ap, ◌∙◌}
use Rattle.ir_meaning.specs.Bytes.{reg_size}
use Rattle.ir_machine.specs.Blocks.{block_meant, refused}
use Rattle.ir_machine.proofs.Accesses.{loaded, not_loaded, reached_within}
use Rattle.ir_machine.proofs.block.Block.load.Goals as goal

pub load-requires-clause-within : goal.load-requires-clause-within
load-requires-clause-within c =
    reached_within [] c.args.self.now c.args.offset (reg_size c.args.reg) c.args.align
    (ap (λ (s : ℕ). refused (block_meant [] c.args.self.now) c.args.offset s c.args.align) (sym c.reg_size.ensures) ∙ sym (c.refusal.ensures []) ∙ c.in-None.is)

pub returns-in-Some-clause-value : goal.returns-in-Some-clause-value
returns-in-Some-clause-value c = λ names.
    sym (not_loaded (block_meant names c.args.self.now) c.args.reg c.args.offset c.args.align c.in-Some.cause
    (ap (λ (s : ℕ). refused (block_meant names c.args.self.now) c.args.offset s c.args.align) (sym c.reg_size.ensures) ∙ sym (c.refusal.ensures names) ∙ c.in-Some.is))

pub returns-in-None-clause-value : goal.returns-in-None-clause-value
returns-in-None-clause-value c = λ names.
    c.load.ensures.value names
    ∙ sym (loaded (block_meant names c.args.self.now) c.args.reg c.args.offset c.args.align
    (ap (λ (s : ℕ). refused (block_meant names c.args.self.now) c.args.offset s c.args.align) (sym c.reg_size.ensures) ∙ sym (c.refusal.ensures names) ∙ c.in-None.is))
