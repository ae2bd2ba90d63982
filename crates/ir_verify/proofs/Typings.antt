-- The types of locals, found in their definitions.
use Rattle.std.proofs.Common.{◌≡◌, ℕ, suc, Bool, true, false, List, [], ◌∷◌, ◌++◌, refl, sym, ap, ◌∙◌}
use Rattle.std.specs.Prelude.{nat_eq, if◌then◌else◌, Option, Some, None, map, option_map, filter_map, flat_map}
use Rattle.std.specs.List.{cons_option}
use Rattle.std.proofs.lemmas.List.{map-append}
use Rattle.ir_tree.specs.declared.block.Block.{Block}
use Rattle.ir_tree.specs.declared.function.Function.{Function}
use Rattle.ir_tree.specs.declared.function.Param.{Param}
use Rattle.ir_tree.specs.declared.instr.Line.{Line}
use Rattle.ir_tree.specs.declared.instr.Phi.{Phi}
use Rattle.ir_tree.specs.declared.operand.Reg.{Reg}
use Rattle.ir_tree.specs.Rules.{result_type, Typing, line_typing, block_typings, typings, typing}
use Rattle.ir_verify.specs.declared.definitions.Definition.{Definition}
use Rattle.ir_verify.specs.Definitions.{Pair, param_pairs, phi_pairs, named, line_pairs, block_pairs, blocks_pairs, definitions}
use Rattle.ir_verify.specs.Tables.{found}

abbrev pub strip : Pair → Typing
strip p = (p.0, p.1.reg)

abbrev pub reg_at : Option Definition → Option Reg
reg_at None = None
reg_at (Some d) = d.reg

pub typing_found : (ps : List Pair) (x : ℕ) → typing (map strip ps) x ≡ reg_at (found ps x)
typing_found [] x = refl
typing_found (p ∷ ps) x = step (nat_eq p.0 x) (typing_found ps x)
  where
    step : (b : Bool) → typing (map strip ps) x ≡ reg_at (found ps x) → (if b then p.1.reg else typing (map strip ps) x) ≡ reg_at (if b then Some p.1 else found ps x)
    step true e = refl
    step false e = e

strip_params : (ps : List Param) → map strip (param_pairs ps) ≡ map (λ p. (p.local, Some p.reg)) ps
strip_params [] = refl
strip_params (p ∷ ps) = ap (λ ts. (p.local, Some p.reg) ∷ ts) (strip_params ps)

strip_phis : (b : ℕ) (ps : List Phi) → map strip (phi_pairs b ps) ≡ map (λ p. (p.local, Some p.reg)) ps
strip_phis b [] = refl
strip_phis b (p ∷ ps) = ap (λ ts. (p.local, Some p.reg) ∷ ts) (strip_phis b ps)

strip_named : (local : Option ℕ) (reg : Option Reg) (b k : ℕ) (ps : List Pair) (ts : List Typing) → map strip ps ≡ ts → map strip (named local reg b k ++ ps) ≡ cons_option (option_map (λ x. (x, reg)) local) ts
strip_named None reg b k ps ts e = e
strip_named (Some x) reg b k ps ts e = ap (λ more. (x, reg) ∷ more) e

strip_lines : (b k : ℕ) (ls : List Line) → map strip (line_pairs b k ls) ≡ filter_map line_typing ls
strip_lines b k [] = refl
strip_lines b k (l ∷ ls) = strip_named l.local (result_type l.instr) b (suc k) (line_pairs b (suc k) ls) (filter_map line_typing ls) (strip_lines b (suc k) ls)

strip_block : (b : ℕ) (block : Block) → map strip (block_pairs b block) ≡ block_typings block
strip_block b block =
    map-append strip (phi_pairs b block.phis) (line_pairs b 0 block.lines)
    ∙ ap (λ ts. ts ++ map strip (line_pairs b 0 block.lines)) (strip_phis b block.phis)
    ∙ ap (λ ts. map (λ p. (p.local, Some p.reg)) block.phis ++ ts) (strip_lines b 0 block.lines)

strip_blocks : (b : ℕ) (bs : List Block) → map strip (blocks_pairs b bs) ≡ flat_map block_typings bs
strip_blocks b [] = refl
strip_blocks b (block ∷ bs) =
    map-append strip (block_pairs b block) (blocks_pairs (suc b) bs)
    ∙ ap (λ ts. ts ++ map strip (blocks_pairs (suc b) bs)) (strip_block b block)
    ∙ ap (λ ts. block_typings block ++ ts) (strip_blocks (suc b) bs)

pub strip_all : (f : Function) → map strip (definitions f) ≡ typings f
unfolding definitions
strip_all f =
    map-append strip (param_pairs f.params) (blocks_pairs 0 f.blocks)
    ∙ ap (λ ts. ts ++ map strip (blocks_pairs 0 f.blocks)) (strip_params f.params)
    ∙ ap (λ ts. map (λ p. (p.local, Some p.reg)) f.params ++ ts) (strip_blocks 0 f.blocks)

-- the type of a local is that of its definition
pub type_found : (f : Function) (x : ℕ) → typing (typings f) x ≡ reg_at (found (definitions f) x)
type_found f x = ap (λ ts. typing ts x) (sym (strip_all f)) ∙ typing_found (definitions f) x
