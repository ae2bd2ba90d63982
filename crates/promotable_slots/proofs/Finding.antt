-- What the walk over blocks finds is their uses.
use Rattle.std.proofs.Common.{◌≡◌, List, [], ◌∷◌, ◌++◌, Some, None, refl, ap, ◌∙◌}
use Rattle.std.specs.Prelude.{flat_map}
use Rattle.ir_tree.specs.declared.block.Block.{Block}
use Rattle.ir_tree.specs.declared.block.Terminator.{Terminator}
use Rattle.ir_tree.specs.declared.block.Terminator.TheVariants.{Branch, Jump, Return, Switch, Unreachable}
use Rattle.ir_tree.specs.declared.instr.Line.{Line}
use Rattle.ir_tree.specs.declared.instr.Phi.{Phi}
use Rattle.ir_edit.specs.Uses.{block_uses as block_found, blocks_uses, end_uses as end_found}
use Rattle.promotable_slots.specs.Uses.{block_uses, end_uses, entry_uses, instr_uses, line_uses, operand_uses, phi_uses, uses}
use Rattle.promotable_slots.specs.declared.uses.Use.{Use}

abbrev of_phi : Phi → List Use
of_phi p = entry_uses p.incoming

abbrev of_line : Line → List Use
of_line l = instr_uses l.instr

phis_found : (ps : List Phi) → flat_map of_phi ps ≡ phi_uses ps
phis_found [] = refl
phis_found (p ∷ ps) = ap (λ (us : List Use). entry_uses p.incoming ++ us) (phis_found ps)

lines_found : (ls : List Line) → flat_map of_line ls ≡ line_uses ls
lines_found [] = refl
lines_found (l ∷ ls) = ap (λ (us : List Use). instr_uses l.instr ++ us) (lines_found ls)

terminator_found : (e : Terminator) → end_found (operand_uses None) e ≡ end_uses e
terminator_found (Return None) = refl
terminator_found (Return (Some a)) = refl
terminator_found (Jump target) = refl
terminator_found (Branch condition if_true if_false) = refl
terminator_found (Switch width value default cases) = refl
terminator_found Unreachable = refl

in_block : (b : Block) → block_found of_phi of_line (operand_uses None) b ≡ block_uses b
unfolding block_found block_uses
in_block b = λ i. phis_found b.phis i ++ (lines_found b.lines i ++ terminator_found b.end i)

in_blocks : (bs : List Block) → blocks_uses of_phi of_line (operand_uses None) bs ≡ uses bs
in_blocks [] = refl
in_blocks (b ∷ bs) = λ i. in_block b i ++ in_blocks bs i

pub uses_found : (bs : List Block) (us more : List Use) → us ≡ [] → more ≡ us ++ blocks_uses of_phi of_line (operand_uses None) bs → more ≡ uses bs
uses_found bs us more none found = found ∙ ap (λ (vs : List Use). vs ++ blocks_uses of_phi of_line (operand_uses None) bs) none ∙ in_blocks bs
