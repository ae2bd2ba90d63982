use Rattle.std.proofs.Common.{ℕ, ◌++◌, ◌∷◌, [], length, Some, sym, ap, ◌∙◌}
use Rattle.ir_meaning.specs.Execute as meaning
use Rattle.ir_meaning.specs.Memory.{fresh}
use Rattle.ir_meaning.specs.declared.value.Base.TheVariants.{Cell}
use Rattle.ir_meaning.specs.declared.value.Value.TheVariants as value
use Rattle.ir_machine.specs.Memories.{numbers_of}
use Rattle.ir_machine.proofs.Holding.{on_err}
use Rattle.ir_interp.proofs.SourcesKept.{keep_locals, keep_memory}
use Rattle.ir_interp.proofs.Reading.{same_locals}
use Rattle.ir_interp.proofs.Standing.{numbers_behind, unmoved}
use Rattle.ir_interp.proofs.line.reserve_block.Goals as goal

pub returns-clause-ok : goal.returns-clause-ok
returns-clause-ok c = λ names memory locals choice s a.
    let handle = c.in_ok-handle.handle in
    let r = c.in_ok-handle.ensures.ok names memory s.stands in
    let after = memory ++ fresh c.args.size c.args.align ∷ [] in
    let m = c.args.memory.now in
    let m' = c.reserve.new.self in
    let a' = same_locals names m memory c.args.registers.now c.reserve_result.new.self locals c.reserve_result.ensures.same a in
    let a'' = keep_locals names m memory m' after c.reserve_result.new.self locals r.3 a' in
    record {
      value = Some (value.Pointer (Cell handle.number) 0);
      after = after;
      effect = λ sig input place. ap (λ (n : ℕ). meaning.Went (Some (value.Pointer (Cell n) 0)) (Some (length memory)) after place []) (sym r.0);
      stand = record {
        holds = keep_memory names m memory m' after s r.1 r.3 c.reserve.ensures.held;
        reads = c.bind.ensures names m' after locals a'' (r.2, tt);
        keeps = r.3;
      };
    }

pub returns-clause-numbers : goal.returns-clause-numbers
returns-clause-numbers c = λ names memory s.
    let grown = c.in_ok-handle.ensures.grown in
    let r = c.in_ok-handle.ensures.ok names memory s.stands in
    ap numbers_of grown.1.0 ∙ numbers_behind c.args.memory.now.blocks.items grown.0
    ∙ ap (λ (n : ℕ). numbers_of c.args.memory.now.blocks.items ++ n ∷ []) (grown.1.1 ∙ r.0 ∙ sym s.stands.made)

pub returns-in_err-handle-clause-err : goal.returns-in_err-handle-clause-err
returns-in_err-handle-clause-err c =
    on_err c.from_residual-in_err-handle.result
    (λ names memory locals s a.
    unmoved names c.args.memory.now c.reserve.new.self memory c.args.registers.now c.reserve_result.new.self locals c.in_err-handle.ensures.err.0 c.in_err-handle.ensures.err.1 c.reserve_result.ensures.same s a)
