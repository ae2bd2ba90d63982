-- Bodies that the grammar spells: so many blocks and instructions, and their lines are within the limits.
use Rattle.std.proofs.Common.{ℕ, zero, suc, ◌+◌, ◌≤◌, List, [], ◌∷◌, ◌++◌, length, Option, Some, None, refl, subst, arith}
use Rattle.std.specs.List.{AllByRecursion as Each, fold}
use Rattle.std.proofs.lemmas.List.{length-append}
use Rattle.ir_parse_bodies.specs.Blocks.{FURTHER_BLOCKS, INSTRUCTIONS, block, block_behind, blocks, keep, lines}
use Rattle.ir_parse_bodies.specs.Successive.{Successive}
use Rattle.ir_lex.specs.Tok.{Tok}
use Rattle.ir_parse_parts.specs.Operands.{local}
use Rattle.ir_parse_parts.specs.declared.raw.Block.{Block}
use Rattle.ir_parse_parts.specs.declared.raw.WrittenLine.{WrittenLine}
use Rattle.ir_parse_parts.specs.Forms as form
use Rattle.ir_parse_parts.specs.Forms.{Form}
use Rattle.ir_round_trip.proofs.CutInstructions.{each_left, each_right}
use Rattle.ir_round_trip.specs.Spelled.{BlockSpelled, BodySpelled, LineSpelled, lines_in}
use Rattle.ir_round_trip.specs.Tokens.{IsCut}
use Rattle.ir_round_trip.proofs.WithinLines.{line_spelled}
use Rattle.ir_round_trip.proofs.Means.{Means, either_means, follow, kept_means, many_means, nothing, skip}
use Rattle.ir_round_trip.proofs.WithinTerminators.{terminator_spelled}

-- ---- how many

pub many_few : {A : Type 0} {one : Form Tok A} (room : ℕ) → Means (form.Many one room) (λ as'. length as' ≤ room)
many_few {A} {one} room = record { of = λ ts as' s h. of room ts as' h }
  where
    of : (room : ℕ) (ts : List Tok) (as' : List A) → form.Many one room ts as' → length as' ≤ room
    of room ts [] h = omega arith
    of zero ts (a ∷ more) h = absurd h
    of (suc room) ts (a ∷ more) h = let rest : length more ≤ room = of room h.1 more h.4 in omega (arith, rest)

kept_few : (front : List WrittenLine) (all : List (Option WrittenLine)) → length (fold keep front all) ≤ length front + length all
kept_few front [] = omega arith
kept_few front (None ∷ all) = let rest : length (fold keep front all) ≤ length front + length all = kept_few front all in omega (arith, rest)
kept_few front (Some l ∷ all) =
    let rest : length (fold keep (front ++ l ∷ []) all) ≤ length (front ++ l ∷ []) + length all = kept_few (front ++ l ∷ []) all in omega (arith, rest, length-append front (l ∷ []))

both_mean : {A : Type 0} {g : Form Tok A} {P Q : A → Type 0} → Means g P → Means g Q → Means g (λ a. P a × Q a)
both_mean p q = record { of = λ ts a s h. (p.of ts a s h, q.of ts a s h) }

-- ---- bodies

-- the lines of one, and how many more there may be
abbrev LinesLeft : ℕ → List WrittenLine × ℕ → Type 0
LinesLeft room x = Each LineSpelled x.0 × (length x.0 + x.1 ≤ room)

lines_left : (room : ℕ) → Means (lines room) (LinesLeft room)
unfolding lines
lines_left room =
    follow (both_mean (many_means room (line_spelled local)) (many_few room)) (λ ls h.
    let kept : length (fold keep [] ls) ≤ 0 + length ls = kept_few [] ls in
    let few : length ls ≤ room = h.1 in
    nothing (kept_means LineSpelled keep (λ _. refl) (λ _ _. refl) [] ls tt h.0, omega (arith, kept, few)))

abbrev BlockLeft : ℕ → Block × ℕ → Type 0
BlockLeft room x = BlockSpelled x.0 × (length x.0.lines + x.1 ≤ room)

behind_left : (room : ℕ) (name : Option Tok) → Means (block_behind room name) (BlockLeft room)
unfolding block_behind
behind_left room name = follow (lines_left room) (λ ls h. follow terminator_spelled (λ e g. nothing ((h.0, g), h.1)))

block_left : (room : ℕ) → Means (block room) (BlockLeft room)
unfolding block
block_left room = either_means (skip _ (λ l. behind_left room (Some l))) (behind_left room None)

record MoreBlocks (further room : ℕ) (bs : List Block) : Type 0 where
  few_blocks : length bs ≤ further
  few_lines : lines_in bs ≤ room
  all : Each BlockSpelled bs

more_left : (further room : ℕ) → Means (Successive block further room) (MoreBlocks further room)
more_left further room = record { of = of further room }
  where
    of : (further room : ℕ) (ts : List Tok) (bs : List Block) → Each IsCut ts → Successive block further room ts bs → MoreBlocks further room bs
    of further room ts [] s h = record { few_blocks = omega arith; few_lines = omega arith; all = tt }
    of zero room ts (b ∷ bs) s h = absurd h
    of (suc further) room ts (b ∷ bs) s h =
        let all : Each IsCut (h.0 ++ h.1) = subst (Each IsCut) h.3 s in
        let one = (block_left room).of h.0 (b, h.2) (each_left IsCut h.0 h.1 all) h.4 in
        let rest = of further h.2 h.1 bs (each_right IsCut h.0 h.1 all) h.5 in
        let here : length b.lines + h.2 ≤ room = one.1 in
        let blocks : length bs ≤ further = rest.few_blocks in
        let lines : lines_in bs ≤ h.2 = rest.few_lines in
        record { few_blocks = omega (arith, blocks); few_lines = omega (arith, here, lines); all = (one.0, rest.all) }

pub body_spelled : Means (blocks FURTHER_BLOCKS INSTRUCTIONS) BodySpelled
unfolding blocks
body_spelled =
    follow (block_left INSTRUCTIONS) (λ first h.
    follow (more_left FURTHER_BLOCKS first.1) (λ more g.
    let here : length first.0.lines + first.1 ≤ INSTRUCTIONS = h.1 in
    let blocks : length more ≤ FURTHER_BLOCKS = g.few_blocks in
    let lines : lines_in more ≤ first.1 = g.few_lines in
    nothing (record { few_blocks = omega (arith, blocks); few_lines = omega (arith, here, lines); all = (h.0, g.all) })))
