use Rattle.std.proofs.Common.{◌≡◌, ◌≢◌, ℕ, true, false, Option, Some, None, length, nat_eq, refl, sym, ap, ◌∙◌, eq-eqb, eqb-true, arith}
use Rattle.std.proofs.lemmas.Option.{slice_get_past, slice_get_read}
use Rattle.ir_machine.specs.Memories.{block_at}
use Rattle.ir_machine.specs.declared.block.Block.{Block}
use Rattle.ir_machine.proofs.memory.Memory.lives.Goals as goal

pub returns-then-handle-len-clause-yes : goal.returns-then-handle-len-clause-yes
returns-then-handle-len-clause-yes c = λ e. (
  c.index.result.now,
  (
    slice_get_read c.args.self.now.blocks.items (length c.args.self.now.blocks.items) c.args.handle.position c.index.result.now refl (omega arith) c.index.ensures,
    eqb-true c.index.result.now.number c.args.handle.number e,
  ),
)

-- no other block stands there
other : (k : ℕ) (b d : Block) (r : Option Block) → r ≡ Some d → nat_eq d.number k ≡ false → r ≡ Some b → b.number ≢ k
other k b d r e f g = λ (n : b.number ≡ k).
    let both : Some b ≡ Some d = sym g ∙ e in
    let one : b ≡ d = cc both in
    let test : nat_eq d.number k ≡ true = eq-eqb d.number k (ap (λ (x : Block). x.number) (sym one) ∙ n) in
    absurd (cc (test, f))

pub returns-then-handle-len-clause-no : goal.returns-then-handle-len-clause-no
returns-then-handle-len-clause-no c = λ e b h.
    other c.args.handle.number b c.index.result.now (block_at c.args.self.now c.args.handle.position)
    (slice_get_read c.args.self.now.blocks.items (length c.args.self.now.blocks.items) c.args.handle.position c.index.result.now refl (omega arith) c.index.ensures) e h

pub returns-else-handle-len-clause-no : goal.returns-else-handle-len-clause-no
returns-else-handle-len-clause-no c = λ e b h n.
    let here : block_at c.args.self.now c.args.handle.position ≡ None = slice_get_past c.args.self.now.blocks.items c.args.handle.position (omega arith) in
    absurd (cc (here, h))
