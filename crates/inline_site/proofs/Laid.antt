-- What inlining gives, laid out: each block edited once.
use Rattle.std.proofs.Common.{◌≡◌, ℕ, List, [], ◌∷◌, ◌++◌, Option, Some, None, map, option_map, refl, ◌∙◌, ap, map-id}
use Rattle.std.proofs.lemmas.List.{map-append}
use Rattle.ir_tree.specs.declared.block.Block.{Block}
use Rattle.ir_tree.specs.declared.block.Case.{Case}
use Rattle.ir_tree.specs.declared.block.Terminator.{Terminator}
use Rattle.ir_tree.specs.declared.block.Terminator.TheVariants.{Branch, Jump, Return, Switch, Unreachable}
use Rattle.ir_tree.specs.declared.function.Function.{Function}
use Rattle.ir_tree.specs.declared.instr.Incoming.{Incoming}
use Rattle.ir_tree.specs.declared.instr.Instr.{Instr}
use Rattle.ir_tree.specs.declared.instr.Instr.TheVariants.{Address, Call, Phi as StrayPhi}
use Rattle.ir_tree.specs.declared.instr.Line.{Line}
use Rattle.ir_tree.specs.declared.instr.Phi.{Phi}
use Rattle.ir_tree.specs.declared.operand.Argument.{Argument}
use Rattle.ir_tree.specs.declared.operand.Operand.{Operand}
use Rattle.ir_tree.specs.declared.operand.Reg.{Reg}
use Rattle.ir_tree.specs.Edited.{block_edited, edited, end_edited, incoming_edited, instr_edited, line_edited, phi_edited}
use Rattle.inline_site.specs.Copies.{copied, copied_operand, first_free}
use Rattle.inline_site.specs.Inlined.{after_call, before_call, block_named, end_leading, entry_named, entry_of, leading_to, named, phi_named, result_phis, return_entries, return_entry, spliced}
use Rattle.inline_site.proofs.Places.{Inlining, behind, first, inner, inner_op, made, new, outer, outer_phi, second}
use Rattle.inline_site.proofs.Twice.{block_twice, map_twice}

-- ---- an edit that changes nothing

pub same_local : (o : Option ℕ) → option_map (λ x. x) o ≡ o
same_local None = refl
same_local (Some x) = refl

same_instr : (i : Instr) → instr_edited (λ x. x) (λ o. o) i ≡ i
same_instr (Address inbounds shape base indices) = ap (λ (l : List Argument). Address inbounds shape base l) (map-id indices)
same_instr (Call result callee arguments) = ap (λ (l : List Argument). Call result callee l) (map-id arguments)
same_instr (StrayPhi reg incoming) = ap (λ (l : List Incoming). StrayPhi reg l) (map-id incoming)
same_instr _ = refl

same_lines : (ls : List Line) → map (line_edited (λ x. x) (λ o. o)) ls ≡ ls
same_lines [] = refl
same_lines (l ∷ ls) = λ i. record { local = same_local l.local i; instr = same_instr l.instr i } ∷ same_lines ls i

same_phis : (ps : List Phi) → map (phi_edited (λ x. x) (λ o. o)) ps ≡ ps
same_phis [] = refl
same_phis (p ∷ ps) = λ i. record { local = p.local; reg = p.reg; incoming = map-id p.incoming i } ∷ same_phis ps i

same_end : (t : Terminator) → end_edited (λ x. x) (λ o. o) t ≡ t
same_end (Return None) = refl
same_end (Return (Some a)) = refl
same_end (Switch width value default cases) = ap (λ (l : List Case). Switch width value default l) (map-id cases)
same_end _ = refl

pub same_blocks : (bs : List Block) → map (block_edited (λ x. x) (λ o. o)) bs ≡ bs
same_blocks [] = refl
same_blocks (b ∷ bs) = λ i. record { number = b.number; phis = same_phis b.phis i; lines = same_lines b.lines i; end = same_end b.end i } ∷ same_blocks bs i

pub edited_same : (f : Function) → edited (λ x. x) (λ o. o) f ≡ f
edited_same f = λ i. record f { params = map-id f.params i; blocks = same_blocks f.blocks i }

-- ---- the parts

pub end_leading_edited : (last : ℕ) (op : Operand → Operand) (t : Terminator) → end_edited (λ x. x) op (end_leading last t) ≡ end_leading last (end_edited (λ x. x) op t)
end_leading_edited last op (Return a) = refl
end_leading_edited last op _ = refl

results_edited : (op : Operand → Operand) (l : Option ℕ) (r : Option Reg) (es : List Incoming) → map (phi_edited (λ x. x) op) (result_phis l r es) ≡ result_phis l r (map (incoming_edited (λ x. x) op) es)
results_edited op None r es = refl
results_edited op (Some x) None es = refl
results_edited op (Some x) (Some reg) [] = refl
results_edited op (Some x) (Some reg) (e ∷ es) = refl

entries_edited : (number : ℕ → ℕ) (op copy : Operand → Operand) (bs : List Block)
    → map (incoming_edited (λ x. x) op) (return_entries (map (block_edited number copy) bs)) ≡ return_entries (map (block_edited number (λ o. op (copy o))) bs)
entries_edited number op copy [] = refl
entries_edited number op copy (b ∷ bs) = by b.end (entries_edited number op copy bs)
  where
    by : (t : Terminator) → map (incoming_edited (λ x. x) op) (return_entries (map (block_edited number copy) bs)) ≡ return_entries (map (block_edited number (λ o. op (copy o))) bs)
        → map (incoming_edited (λ x. x) op) (return_entry (number b.number) (end_edited number copy t) (return_entries (map (block_edited number copy) bs)))
        ≡ return_entry (number b.number) (end_edited number (λ o. op (copy o)) t) (return_entries (map (block_edited number (λ o. op (copy o))) bs))
    by (Return (Some a)) rest = ap (λ (l : List Incoming). record { from = number b.number; value = op (copy a.operand) } ∷ l) rest
    by (Return None) rest = rest
    by (Jump target) rest = rest
    by (Branch condition if_true if_false) rest = rest
    by (Switch width value default cases) rest = rest
    by Unreachable rest = rest

entry_same : (number : ℕ → ℕ) (op copy : Operand → Operand) (bs : List Block) → entry_of (map (block_edited number copy) bs) ≡ entry_of (map (block_edited number op) bs)
entry_same number op copy [] = refl
entry_same number op copy (b ∷ bs) = refl

module _ (z : Inlining) where
  abbrev copy : List Block
  copy = copied (first_free z.f) z.callee z.arguments

  phis_laid : (ps : List Phi) → map (phi_edited (λ x. x) z.op) (map (phi_named z.s.block.number (behind z)) ps) ≡ map (outer_phi z) ps
  phis_laid [] = refl
  phis_laid (p ∷ ps) =
      λ i. record { local = p.local; reg = p.reg; incoming = map_twice (incoming_edited (λ x. x) z.op) (entry_named z.s.block.number (behind z)) (incoming_edited (block_named z.s.block.number (behind z)) z.op) (λ e. refl) p.incoming i } ∷ phis_laid ps i

  outer_laid : (b : Block) → block_edited (λ x. x) z.op (named z.s.block.number (behind z) b) ≡ outer z b
  outer_laid b = λ i. record { number = b.number; phis = phis_laid b.phis i; lines = map (line_edited (λ x. x) z.op) b.lines; end = end_edited (λ x. x) z.op b.end }

  outers_laid : (bs : List Block) → map (block_edited (λ x. x) z.op) (map (named z.s.block.number (behind z)) bs) ≡ map (outer z) bs
  outers_laid bs = map_twice (block_edited (λ x. x) z.op) (named z.s.block.number (behind z)) (outer z) outer_laid bs

  inner_laid : (c : Block) → block_edited (λ x. x) z.op (leading_to (behind z) (block_edited (new z) (copied_operand (first_free z.f) z.callee z.arguments) c)) ≡ inner z c
  inner_laid c =
      leads (block_edited (new z) (copied_operand (first_free z.f) z.callee z.arguments) c)
      ∙ ap (leading_to (behind z)) (block_twice (λ x. x) (new z) z.op (copied_operand (first_free z.f) z.callee z.arguments) c)
    where
      leads : (b : Block) → block_edited (λ x. x) z.op (leading_to (behind z) b) ≡ leading_to (behind z) (block_edited (λ x. x) z.op b)
      leads b = λ i. record { number = b.number; phis = map (phi_edited (λ x. x) z.op) b.phis; lines = map (line_edited (λ x. x) z.op) b.lines; end = end_leading_edited (behind z) z.op b.end i }

  inners_laid : map (block_edited (λ x. x) z.op) (map (leading_to (behind z)) (copied (first_free z.f) z.callee z.arguments)) ≡ map (inner z) z.callee.blocks
  inners_laid =
      ap (map (block_edited (λ x. x) z.op))
      (map_twice (leading_to (behind z)) (block_edited (new z) (copied_operand (first_free z.f) z.callee z.arguments)) (λ c. leading_to (behind z) (block_edited (new z) (copied_operand (first_free z.f) z.callee z.arguments) c)) (λ c. refl) z.callee.blocks)
      ∙ map_twice (block_edited (λ x. x) z.op) (λ c. leading_to (behind z) (block_edited (new z) (copied_operand (first_free z.f) z.callee z.arguments) c)) (inner z) inner_laid z.callee.blocks

  first_laid : block_edited (λ x. x) z.op (before_call z.s (behind z) (copied (first_free z.f) z.callee z.arguments)) ≡ first z
  first_laid = λ i. record {
    number = z.s.block.number;
    phis = phis_laid z.s.block.phis i;
    lines = map (line_edited (λ x. x) z.op) z.s.before;
    end = Jump (entry_same (new z) (inner_op z) (copied_operand (first_free z.f) z.callee z.arguments) z.callee.blocks i);
  }

  second_laid : block_edited (λ x. x) z.op (after_call z.s z.callee.result (behind z) (copied (first_free z.f) z.callee z.arguments)) ≡ second z
  second_laid = λ i. record {
    number = behind z;
    phis = (results_edited z.op z.s.call.local z.callee.result (return_entries (copied (first_free z.f) z.callee z.arguments))
        ∙ ap (result_phis z.s.call.local z.callee.result) (entries_edited (new z) z.op (copied_operand (first_free z.f) z.callee z.arguments) z.callee.blocks)) i;
    lines = map (line_edited (λ x. x) z.op) z.s.after;
    end = end_edited (λ x. x) z.op z.s.block.end;
  }

  blocks_laid : map (block_edited (λ x. x) z.op) (spliced z.s z.callee.result (behind z) (copied (first_free z.f) z.callee z.arguments) z.f).blocks ≡ (made z).blocks
  blocks_laid =
      map-append (block_edited (λ x. x) z.op) (map (named z.s.block.number (behind z)) z.s.front)
      (before_call z.s (behind z) copy ∷ (map (leading_to (behind z)) copy ++ after_call z.s z.callee.result (behind z) copy ∷ map (named z.s.block.number (behind z)) z.s.back))
      ∙ (λ i. outers_laid z.s.front i ++ first_laid i
      ∷ map-append (block_edited (λ x. x) z.op) (map (leading_to (behind z)) copy) (after_call z.s z.callee.result (behind z) copy ∷ map (named z.s.block.number (behind z)) z.s.back) i)
      ∙ (λ i. map (outer z) z.s.front ++ first z ∷ (inners_laid i ++ second_laid i ∷ outers_laid z.s.back i))

  pub made_is : edited (λ x. x) z.op (spliced z.s z.callee.result (behind z) (copied (first_free z.f) z.callee z.arguments) z.f) ≡ made z
  made_is = λ i. record z.f { params = map-id z.f.params i; blocks = blocks_laid i }
