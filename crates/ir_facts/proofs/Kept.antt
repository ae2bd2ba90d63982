-- A function without free choices is settled.
use Rattle.std.proofs.Common.{◌≡◌, ℕ, false, List, [], ◌∷◌, Option, Some, None, map, refl, sym}
use Rattle.std.specs.Prelude.{is_some}
use Rattle.std.proofs.lemmas.Bool.{false≢true}
use Rattle.ir_tree.specs.declared.block.Block.{Block}
use Rattle.ir_tree.specs.declared.function.Function.{Function}
use Rattle.ir_tree.specs.declared.instr.Instr.{Instr}
use Rattle.ir_tree.specs.declared.instr.Line.{Line}
use Rattle.ir_facts.specs.Settled.{any_choice, any_choice_in, choice_of, frozen_as, settled, settled_block, settled_line}
use Rattle.fact_sources.proofs.Neither.{neither}

instr_kept : (i : Instr) (o : Option (ℕ × ℕ)) → is_some o ≡ false → frozen_as o i ≡ i
instr_kept i None h = refl
instr_kept i (Some pair) h = absurd (false≢true (sym h))

lines_kept : (ls : List Line) → any_choice ls ≡ false → map settled_line ls ≡ ls
lines_kept [] h = refl
lines_kept (l ∷ ls) h =
    let two = neither (is_some (choice_of l.instr)) (any_choice ls) h in
    λ i. record { local = l.local; instr = instr_kept l.instr (choice_of l.instr) two.0 i } ∷ lines_kept ls two.1 i

blocks_kept : (bs : List Block) → any_choice_in bs ≡ false → map settled_block bs ≡ bs
blocks_kept [] h = refl
blocks_kept (b ∷ bs) h =
    let two = neither (any_choice b.lines) (any_choice_in bs) h in
    λ i. record { number = b.number; phis = b.phis; lines = lines_kept b.lines two.0 i; end = b.end } ∷ blocks_kept bs two.1 i

pub nothing_settled : (f : Function) → any_choice_in f.blocks ≡ false → f ≡ settled f
nothing_settled f h = λ i. record f { blocks = sym (blocks_kept f.blocks h) i }
