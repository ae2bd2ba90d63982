-- Printed blocks are read, within the limits on how many blocks and instructions there are (LangRef, "Functions").
use Rattle.std.proofs.Common.{◌≡◌, ℕ, zero, suc, ◌-◌, ◌≤◌, Option, Some, None, List, [], ◌∷◌, ◌++◌, map, length, refl, sym, ap, subst, ◌∙◌, append_assoc, arith}
use Rattle.std.specs.List.{AllByRecursion as Each}
use Rattle.ir_parse_bodies.specs.Blocks as read
use Rattle.ir_parse_bodies.specs.Blocks.{keep, block_behind, block}
use Rattle.ir_parse_bodies.specs.Lines.{line}
use Rattle.ir_parse_bodies.specs.Successive.{Successive}
use Rattle.ir_lex.specs.Pieces.{Piece}
use Rattle.ir_lex.specs.Tok.{Tok}
use Rattle.ir_print.specs.Blocks as printed
use Rattle.ir_print.specs.Blocks.{phis, phi_line, content, labelled, further_blocks}
use Rattle.ir_print.specs.Instructions.{lines}
use Rattle.ir_parse_operands.specs.Addressing.{slots_fit}
use Rattle.ir_parse_parts.specs.Operands.{local}
use Rattle.ir_parse_operands.specs.ShapeForms.{memory_shape}
use Rattle.ir_parse_parts.specs.declared.raw.Block as raw_block
use Rattle.ir_parse_parts.specs.declared.raw.WrittenLine as raw_line
use Rattle.ir_tree.specs.declared.block.Block.{Block}
use Rattle.ir_tree.specs.declared.instr.Line.{Line}
use Rattle.ir_tree.specs.declared.instr.Phi.{Phi}
use Rattle.ir_parse_parts.specs.Forms.{Many}
use Rattle.ir_round_trip.specs.Bodies.{phi_as_line, stated, instructions}
use Rattle.ir_round_trip.specs.Printed.{IsLine, IsContent, IsEntry, IsLabelOf, IsLabelled, AreBlocks}
use Rattle.ir_round_trip.specs.Readable.{LineReadable, BlockReadable, BodyReadable}
use Rattle.ir_round_trip.proofs.Lines.{line_read}
use Rattle.ir_round_trip.proofs.Successive.{no_more_pieces, one_more_piece}
use Rattle.ir_round_trip.specs.PartsPrinted.{Paired}
use Rattle.ir_round_trip.specs.Reads.{Parses}
use Rattle.ir_round_trip.proofs.Composed.{then, last, nothing, known_as, left, right, no_more_within, one_more_within}
use Rattle.ir_round_trip.proofs.Kept.{Kept, kept_none, kept_more, kept}
use Rattle.ir_round_trip.proofs.Labels.{label_read}
use Rattle.ir_round_trip.proofs.Terminators.{terminator_read}

-- ---- lines

-- lines that are kept, as many as are printed
abbrev AreLines : List Line → List (Option raw_line.WrittenLine) → Type 0
AreLines ls os = Kept IsLine ls os × (length os ≡ length ls)

all_lines_read : (room : ℕ) (ls : List Line) → length ls ≤ room → Each LineReadable ls → Parses (Many (line local slots_fit memory_shape) room) (AreLines ls) (lines ls)
all_lines_read room [] few h = no_more_within room (kept_none IsLine, refl)
all_lines_read zero (l ∷ ls) few h = absurd (omega (arith, few))
all_lines_read (suc room) (l ∷ ls) few h = one_more_within room (line_read l h.0) (all_lines_read room ls (omega (arith, few)) h.1) (λ o os p q. (kept_more IsLine p q.0, ap suc q.1))

lines_read : (room : ℕ) (ls : List Line) → length ls ≤ room → Each LineReadable ls → Parses (read.lines room) (λ x. Paired IsLine ls x.0 × (x.1 ≡ room - length ls)) (lines ls)
unfolding read.lines
lines_read room ls few h = last (all_lines_read room ls few h) (λ os k. nothing (kept IsLine keep (λ front a. refl) k.0, ap (λ (n : ℕ). room - n) k.1))

-- ---- blocks

-- phis are printed as lines
stated_pieces : (ps : List Phi) (ls : List Line) (rest : List Piece) → phis ps ++ (lines ls ++ rest) ≡ lines (map phi_as_line ps ++ ls) ++ rest
stated_pieces [] ls rest = refl
stated_pieces (p ∷ ps) ls rest =
    append_assoc (phi_line p) (phis ps) (lines ls ++ rest)
    ∙ ap (λ (qs : List Piece). phi_line p ++ qs) (stated_pieces ps ls rest)
    ∙ sym (append_assoc (phi_line p) (lines (map phi_as_line ps ++ ls)) rest)

-- behind this label, with so much room left for the instructions of the blocks behind it
abbrev IsBlock : Block → Option Tok → ℕ → raw_block.Block × ℕ → Type 0
IsBlock b label room x = ((x.0.label ≡ label) × IsContent b x.0) × (x.1 ≡ room - length (stated b))

block_behind_read : (room : ℕ) (label : Option Tok) (b : Block) → BlockReadable b → length (stated b) ≤ room → Parses (block_behind room label) (IsBlock b label room) (content b)
unfolding block_behind
block_behind_read room label b h few =
    subst (λ (qs : List Piece). Parses (block_behind room label) (IsBlock b label room) qs) (sym (stated_pieces b.phis b.lines (printed.terminator b.end)))
    (then (lines_read room (stated b) few h.lines) (λ ls p. last (terminator_read b.end h.end) (λ e q. nothing ((refl, record { lines = p.0; end = q }), p.1))))

entry_read : (room : ℕ) (b : Block) → BlockReadable b → length (stated b) ≤ room → Parses (block room) (λ x. IsEntry b x.0 × (x.1 ≡ room - length (stated b))) (content b)
unfolding block
entry_read room b h few = right _ (block_behind_read room None b h few)

labelled_read : (room : ℕ) (b : Block) → BlockReadable b → length (stated b) ≤ room → Parses (block room) (λ x. IsLabelled b x.0 × (x.1 ≡ room - length (stated b))) (labelled b)
unfolding block
labelled_read room b h few = left _ (then (label_read b.number h.number) (λ l i. known_as _ (λ x p. ((subst (IsLabelOf b.number) (sym p.0.0) i, p.0.1), p.1)) (block_behind_read room (Some l) b h few)))

further_read : (further room : ℕ) (bs : List Block) → length bs ≤ further → instructions bs ≤ room → Each BlockReadable bs → Parses (Successive block further room) (Paired IsLabelled bs) (further_blocks bs)
further_read further room [] few small h = no_more_pieces block further room tt
further_read zero room (b ∷ bs) few small h = absurd (omega (arith, few))
further_read (suc further) room (b ∷ bs) few small h =
    one_more_piece block further room (room - length (stated b)) (labelled_read room b h.0 (omega (arith, small)))
    (further_read further (room - length (stated b)) bs (omega (arith, few)) (omega (arith, small)) h.1) (λ r rs p q. (p, q))

-- an entry, and so many blocks at most behind it
pub blocks_read : (further room : ℕ) (bs : List Block) → BodyReadable bs → length bs ≤ suc further → instructions bs ≤ room → Parses (read.blocks further room) (AreBlocks bs) (printed.blocks bs)
unfolding read.blocks
blocks_read further room [] h few small = absurd h
blocks_read further room (b ∷ bs) h few small =
    then (entry_read room b h.0 (omega (arith, small))) (λ x p.
    last (subst (λ (left : ℕ). Parses (Successive block further left) (Paired IsLabelled bs) (further_blocks bs)) (sym p.1) (further_read further (room - length (stated b)) bs (omega (arith, few)) (omega (arith, small)) h.1))
    (λ rs q. nothing {P = AreBlocks (b ∷ bs)} (p.0, q)))
