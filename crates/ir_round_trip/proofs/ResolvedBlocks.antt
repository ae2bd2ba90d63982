-- Printed blocks resolve to themselves, under the numbers of their places.
use Rattle.std.proofs.Common.{◌≡◌, ℕ, ◌+◌, Bool, cond, is_some, Option, Some, None, Ok, List, [], ◌∷◌, ◌++◌, map, refl, sym, ap, ◌∙◌}
use Rattle.std.specs.List.{AllByRecursion as Each}
use Rattle.ir_parse_values.specs.Blocks.{phis_of, rest_of, phi_before, lines_behind, block_of, block_in, behind_block, blocks_in}
use Rattle.ir_parse_names.specs.Bodies.{local_at, behind_line, lines_in, behind_lines}
use Rattle.ir_parse_names.specs.Numbering.{is_defined}
use Rattle.ir_parse_names.specs.Types.{Types}
use Rattle.ir_parse_names.specs.declared.locals.Sort.{Sort}
use Rattle.ir_parse_parts.specs.declared.raw.Block as raw_block
use Rattle.ir_parse_parts.specs.declared.raw.WrittenLine as raw_line
use Rattle.ir_tree.specs.declared.block.Block as tree_block
use Rattle.ir_tree.specs.declared.instr.Line.{Line}
use Rattle.ir_tree.specs.declared.instr.Phi.{Phi}
use Rattle.ir_round_trip.specs.Bodies.{phi_as_line, stated}
use Rattle.ir_round_trip.specs.Printed.{IsLine, IsContent, IsLabelled, AreBlocks}
use Rattle.ir_round_trip.specs.Readable.{LineReadable, BlockReadable}
use Rattle.ir_round_trip.proofs.Binds.{bound}
use Rattle.ir_round_trip.proofs.Instructions.{instr_again, end_again}
use Rattle.ir_round_trip.proofs.PrintedNumbering.{defined_again}
use Rattle.ir_round_trip.proofs.Uses.{known_with}
use Rattle.ir_round_trip.specs.PrintedKnown.{LineKnown, FirstIsNoPhi, BlockKnown}
use Rattle.ir_round_trip.specs.Sorts.{ResultFollows, LinesFollow, BlocksFollow, past, past_lines}
use Rattle.ir_round_trip.specs.PartsPrinted.{Paired}

module _ (types : Types) (ss : List Sort) where
  -- ---- lines

  is_defined_as : (l : Line) (r : raw_line.WrittenLine) → LineKnown ss l → IsLine l r → is_defined r ≡ is_some l.local
  is_defined_as l r k p = defined_again l.local l.instr r k.result p.0 p.1

  local_again : (n : ℕ) (name : Option ℕ) → ResultFollows n name → cond (is_some name) (Some n) None ≡ name
  local_again n None f = refl
  local_again n (Some x) f = ap (λ (m : ℕ). Some m) (sym f)

  past_again : (n : ℕ) (name : Option ℕ) → cond (is_some name) (n + 1) n ≡ past n name
  past_again n None = refl
  past_again n (Some x) = refl

  behind_again : (n : ℕ) (l : Line) (r : raw_line.WrittenLine) → LineKnown ss l → IsLine l r → behind_line n r ≡ past n l.local
  behind_again n l r k p = ap (λ (b : Bool). cond b (n + 1) n) (is_defined_as l r k p) ∙ past_again n l.local

  lines_again : (n : ℕ) (ls : List Line) (rs : List raw_line.WrittenLine) → Each LineReadable ls → Each (LineKnown ss) ls → LinesFollow n ls → Paired IsLine ls rs → (lines_in types (known_with ss) n rs ≡ Ok ls) × (behind_lines n rs ≡ past_lines n ls)
  lines_again n [] [] h k f p = (refl, refl)
  lines_again n [] (r ∷ rs) h k f p = absurd p
  lines_again n (l ∷ ls) [] h k f p = absurd p
  lines_again n (l ∷ ls) (r ∷ rs) h k f p =
      let next : behind_line n r ≡ past n l.local = behind_again n l r k.0 p.0 in
      let rest = lines_again (past n l.local) ls rs h.1 k.1 f.1 p.1 in
      let name : local_at n r ≡ l.local = ap (λ (b : Bool). cond b (Some n) None) (is_defined_as l r k.0 p.0) ∙ local_again n l.local f.0 in (
        bound _ (instr_again types ss l.instr r.instr h.0.0 k.0.operands k.0.entries p.0.1)
            (bound _ (ap (λ (m : ℕ). lines_in types (known_with ss) m rs) next ∙ rest.0) (ap (λ (o : Option ℕ). Ok (record { local = o; instr = l.instr } ∷ ls)) name)),
        ap (λ (m : ℕ). behind_lines m rs) next ∙ rest.1,
      )

  -- ---- phis stand first

  phis_again : (ps : List Phi) (ls : List Line) → FirstIsNoPhi ls → (phis_of (map phi_as_line ps ++ ls) ≡ ps) × (rest_of (map phi_as_line ps ++ ls) ≡ ls)
  phis_again [] [] h = (refl, refl)
  phis_again [] (l ∷ ls) h = (ap (λ o. phi_before o (phis_of ls)) h, ap (λ o. lines_behind o (l ∷ ls) (rest_of ls)) h)
  phis_again (p ∷ ps) ls h = let r = phis_again ps ls h in (ap (λ (qs : List Phi). p ∷ qs) r.0, r.1)

  -- ---- blocks

  block_again : (n : ℕ) (b : tree_block.Block) (r : raw_block.Block) → BlockReadable b → BlockKnown ss b → (b.number ≡ n) × LinesFollow (n + 1) (stated b) → IsContent b r → (block_in types (known_with ss) n r ≡ Ok b) × (behind_block n r ≡ past_lines (n + 1) (stated b))
  unfolding block_of
  block_again n b r h k f c =
      let ls = lines_again (n + 1) (stated b) r.lines h.lines k.lines f.1 c.lines in
      let body = phis_again b.phis b.lines k.first in (
        bound _ (bound _ ls.0 (ap (λ (ps : List Phi). Ok (record { phis = ps; lines = rest_of (stated b) })) body.0 ∙ ap (λ (more : List Line). Ok (record { phis = b.phis; lines = more })) body.1))
            (bound _ (end_again types ss b.end r.end h.end k.end c.end) (ap (λ (m : ℕ). Ok (record { number = m; phis = b.phis; lines = b.lines; end = b.end })) (sym f.0))),
        ls.1,
      )

  further_again : (n : ℕ) (bs : List tree_block.Block) (rs : List raw_block.Block) → Each BlockReadable bs → Each (BlockKnown ss) bs → BlocksFollow n bs → Paired IsLabelled bs rs → blocks_in types (known_with ss) n rs ≡ Ok bs
  further_again n [] [] h k f p = refl
  further_again n [] (r ∷ rs) h k f p = absurd p
  further_again n (b ∷ bs) [] h k f p = absurd p
  further_again n (b ∷ bs) (r ∷ rs) h k f p =
      let one = block_again n b r h.0 k.0 f.0 p.0.1 in
      bound _ one.0 (bound _ (ap (λ (m : ℕ). blocks_in types (known_with ss) m rs) one.1 ∙ further_again (past_lines (n + 1) (stated b)) bs rs h.1 k.1 f.1 p.1) refl)

  pub blocks_again : (n : ℕ) (bs : List tree_block.Block) (rs : List raw_block.Block) → Each BlockReadable bs → Each (BlockKnown ss) bs → BlocksFollow n bs → AreBlocks bs rs → blocks_in types (known_with ss) n rs ≡ Ok bs
  blocks_again n [] [] h k f p = refl
  blocks_again n [] (r ∷ rs) h k f p = absurd p
  blocks_again n (b ∷ bs) [] h k f p = absurd p
  blocks_again n (b ∷ bs) (r ∷ rs) h k f p =
      let one = block_again n b r h.0 k.0 f.0 p.0.1 in
      bound _ one.0 (bound _ (ap (λ (m : ℕ). blocks_in types (known_with ss) m rs) one.1 ∙ further_again (past_lines (n + 1) (stated b)) bs rs h.1 k.1 f.1 p.1) refl)
