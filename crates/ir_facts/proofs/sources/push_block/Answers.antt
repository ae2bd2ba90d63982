use Rattle.std.proofs.Common.{◌≡◌, List, ◌++◌, append_assoc, subst, sym, ap, ◌∙◌, ℕ}
use Rattle.std.specs.Result.{OnOk}
use Rattle.ir_tree.specs.declared.instr.Phi.{Phi}
use Rattle.ir_tree.specs.declared.operand.Operand.{Operand}
use Rattle.ir_facts.specs.Askable.{LinesHaveWidths}
use Rattle.ir_facts.specs.Candidates.{block_candidates, line_candidates, phi_candidates}
use Rattle.ir_facts.proofs.sources.push_block.Goals as goal

pub push_lines-requires : goal.push_lines-requires
push_lines-requires c = record { sized = subst LinesHaveWidths (sym c.as_slice-2.ensures) c.requires.sized }

pub returns : goal.returns
unfolding block_candidates
returns c =
    let old = c.args.found.now.items in
    let lines = c.args.block.now.lines in
    subst (λ (fs : List (ℕ × Operand)). OnOk c.push_lines.result (c.push_lines.new.found.items ≡ fs))
    ((λ i. c.in_ok-push_phis.ensures i ++ line_candidates (c.as_slice-2.ensures i))
    ∙ append_assoc old (phi_candidates c.as_slice.result.now c.as_slice.result.now) (line_candidates lines)
    ∙ ap (λ (ps : List Phi). old ++ (phi_candidates ps ps ++ line_candidates lines)) c.as_slice.ensures)
    c.push_lines.ensures
