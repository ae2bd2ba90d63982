-- Blocks of a function, one behind another.
use Rattle.std.proofs.Common.{◌≡◌, ℕ, List, [], ◌∷◌, ◌++◌, Result, Ok, Err, append_assoc, sym, ap, ◌∙◌, refl}
use Rattle.ir_parse_parts.specs.declared.raw.Block as raw_block
use Rattle.ir_tree.specs.declared.block.Block.{Block}
use Rattle.ir_parse_names.specs.declared.fault.Fault.{Fault}
use Rattle.ir_parse_names.specs.Locals.{LocalTable}
use Rattle.ir_parse_names.specs.Resolving.{◌>>=◌}
use Rattle.ir_parse_names.specs.Types.{Types}
use Rattle.ir_parse_names.proofs.Each.{in_front}
use Rattle.ir_parse_values.specs.Blocks.{behind_block, block_in, blocks_in}

regroup : (front : List Block) (t : Block) (r : Result (List Block) Fault) → in_front front (r >>= λ ts. Ok (t ∷ ts)) ≡ in_front (front ++ t ∷ []) r
regroup front t (Ok ts) = ap (λ (all : List Block). Ok all) (sym (append_assoc front (t ∷ []) ts))
regroup front t (Err e) = refl

pub one_block : (types : Types) (locals : LocalTable) (front : List Block) (next behind : ℕ) (b : raw_block.Block) (bs : List raw_block.Block) (t : Block) → block_in types locals next b ≡ Ok t → behind_block next b ≡ behind
    → in_front front (blocks_in types locals next (b ∷ bs)) ≡ in_front (front ++ t ∷ []) (blocks_in types locals behind bs)
one_block types locals front next behind b bs t made is =
    ap (λ (r : Result Block Fault). in_front front (r >>= λ x. blocks_in types locals (behind_block next b) bs >>= λ ts. Ok (x ∷ ts))) made
    ∙ regroup front t (blocks_in types locals (behind_block next b) bs)
    ∙ ap (λ (n : ℕ). in_front (front ++ t ∷ []) (blocks_in types locals n bs)) is
