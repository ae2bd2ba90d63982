-- A function of which all is needed is what is needed of it.
use Rattle.std.proofs.Common.{◌≡◌, ℕ, Bool, true, List, [], ◌∷◌, refl, sym, ◌∙◌, ap, if◌then◌else◌}
use Rattle.std.proofs.lemmas.Bool.{and_parts}
use Rattle.ir_tree.specs.declared.block.Block.{Block}
use Rattle.ir_tree.specs.declared.function.Function.{Function}
use Rattle.ir_tree.specs.declared.instr.Line.{Line}
use Rattle.ir_tree.specs.declared.instr.Phi.{Phi}
use Rattle.ir_meaning.specs.Needed.{is_needed, needed, needed_block, needed_blocks, needed_lines, needed_phis}
use Rattle.dead_code.specs.Staying.{block_stays, blocks_stay, lines_stay, phis_stay}

module _ (keeps : ℕ → Bool) where
  phis_same : (ps : List Phi) → phis_stay keeps ps ≡ true → needed_phis keeps ps ≡ ps
  phis_same [] h = refl
  phis_same (p ∷ ps) h = by (and_parts (keeps p.local) (phis_stay keeps ps) h) (phis_same ps)
    where
      by : (keeps p.local ≡ true) × (phis_stay keeps ps ≡ true) → (phis_stay keeps ps ≡ true → needed_phis keeps ps ≡ ps) → needed_phis keeps (p ∷ ps) ≡ p ∷ ps
      by (stays, rest) more = ap (λ (b : Bool). if b then p ∷ needed_phis keeps ps else needed_phis keeps ps) stays ∙ ap (λ (l : List Phi). p ∷ l) (more rest)

  lines_same : (ls : List Line) → lines_stay keeps ls ≡ true → needed_lines keeps ls ≡ ls
  lines_same [] h = refl
  lines_same (l ∷ ls) h = by (and_parts (is_needed keeps l) (lines_stay keeps ls) h) (lines_same ls)
    where
      by : (is_needed keeps l ≡ true) × (lines_stay keeps ls ≡ true) → (lines_stay keeps ls ≡ true → needed_lines keeps ls ≡ ls) → needed_lines keeps (l ∷ ls) ≡ l ∷ ls
      by (stays, rest) more = ap (λ (b : Bool). if b then l ∷ needed_lines keeps ls else needed_lines keeps ls) stays ∙ ap (λ (m : List Line). l ∷ m) (more rest)

  block_same : (b : Block) → block_stays keeps b ≡ true → needed_block keeps b ≡ b
  block_same b h = by (and_parts (phis_stay keeps b.phis) (lines_stay keeps b.lines) h)
    where
      by : (phis_stay keeps b.phis ≡ true) × (lines_stay keeps b.lines ≡ true) → needed_block keeps b ≡ b
      by (phis, lines) = λ i. record b { phis = phis_same b.phis phis i; lines = lines_same b.lines lines i }

  blocks_same : (bs : List Block) → blocks_stay keeps bs ≡ true → needed_blocks keeps bs ≡ bs
  blocks_same [] h = refl
  blocks_same (b ∷ bs) h = by (and_parts (block_stays keeps b) (blocks_stay keeps bs) h) (blocks_same bs)
    where
      by : (block_stays keeps b ≡ true) × (blocks_stay keeps bs ≡ true) → (blocks_stay keeps bs ≡ true → needed_blocks keeps bs ≡ bs) → needed_blocks keeps (b ∷ bs) ≡ b ∷ bs
      by (stays, rest) more = λ i. block_same b stays i ∷ more rest i

  -- a function of which all is needed stays
  pub all_needed : (f : Function) → blocks_stay keeps f.blocks ≡ true → f ≡ needed keeps f
  all_needed f h = sym (ap (λ (bs : List Block). record f { blocks = bs }) (blocks_same f.blocks h))
