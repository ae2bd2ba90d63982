-- The first free number of a function, part by part.
use Rattle.std.proofs.Common.{◌≡◌, ℕ, suc, ◌+◌, ◌<◌, max, List, [], ◌∷◌, ◌++◌, drop, length, get_or, sym, ◌∙◌, ap, arith}
use Rattle.std.proofs.lemmas.List.{drop_more}
use Rattle.ir_tree.specs.Flow.{room}
use Rattle.ir_tree.specs.declared.block.Block.{Block}
use Rattle.ir_tree.specs.declared.function.Param.{Param}
use Rattle.ir_tree.specs.declared.instr.Line.{Line}
use Rattle.ir_tree.specs.declared.instr.Phi.{Phi}
use Rattle.ir_edit.specs.Numbered.{block_numbers, blocks_numbers, line_numbers, param_numbers, phi_numbers}

pub room_both : (xs ys : List ℕ) → room (xs ++ ys) ≡ max (room xs) (room ys)
room_both [] ys = omega arith
room_both (x ∷ xs) ys = let more : room (xs ++ ys) ≡ max (room xs) (room ys) = room_both xs ys in omega (arith, more)

pub block_room : (b : Block) → room (block_numbers b) ≡ max (suc b.number) (max (room (phi_numbers b.phis)) (room (line_numbers b.lines)))
unfolding block_numbers
block_room b = ap (max (suc b.number)) (room_both (phi_numbers b.phis) (line_numbers b.lines))

pub past_block : (free a b d : ℕ) (block : Block) (phis : List Phi) (lines : List Line) → a ≡ max (suc block.number) free → phis ≡ block.phis → b ≡ max a (room (phi_numbers phis))
    → lines ≡ block.lines → d ≡ max b (room (line_numbers lines)) → d ≡ max free (room (block_numbers block))
past_block free a b d block phis lines a_is phis_are b_is lines_are d_is =
    let own : room (block_numbers block) ≡ max (suc block.number) (max (room (phi_numbers block.phis)) (room (line_numbers block.lines))) = block_room block in
    let first : room (phi_numbers phis) ≡ room (phi_numbers block.phis) = ap (λ (l : List Phi). room (phi_numbers l)) phis_are in
    let second : room (line_numbers lines) ≡ room (line_numbers block.lines) = ap (λ (l : List Line). room (line_numbers l)) lines_are in
    omega (arith, a_is, b_is, d_is, own, first, second)

pub past_more : (bs : List Block) (i : ℕ) (b : Block) (free next total : ℕ) → i < length bs → b ≡ get_or bs i b → next ≡ max free (room (block_numbers b))
    → max free (room (blocks_numbers (drop i bs))) ≡ total → max next (room (blocks_numbers (drop (i + 1) bs))) ≡ total
past_more bs i b free next total lt is next_is total_is =
    let parts : room (blocks_numbers (drop i bs)) ≡ max (room (block_numbers b)) (room (blocks_numbers (drop (i + 1) bs))) =
    ap (λ (l : List Block). room (blocks_numbers l)) (drop_more bs i b lt) ∙ room_both (block_numbers (get_or bs i b)) (blocks_numbers (drop (i + 1) bs))
    ∙ ap (λ (x : Block). max (room (block_numbers x)) (room (blocks_numbers (drop (i + 1) bs)))) (sym is) in
    omega (arith, next_is, total_is, parts)

pub past_all : (ps : List Param) (bs : List Block) (a b : ℕ) → a ≡ max 0 (room (param_numbers ps)) → b ≡ max a (room (blocks_numbers bs)) → b ≡ room (param_numbers ps ++ blocks_numbers bs)
past_all ps bs a b a_is b_is =
    let both : room (param_numbers ps ++ blocks_numbers bs) ≡ max (room (param_numbers ps)) (room (blocks_numbers bs)) = room_both (param_numbers ps) (blocks_numbers bs) in
    omega (arith, a_is, b_is, both)
