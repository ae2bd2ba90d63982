-- Initialisers and functions as the merging calls make them are those under other names.
use Rattle.std.proofs.Common.{◌≡◌, ◌∙◌, ℕ, List, [], ◌∷◌, map, option_map, Option, Some, None, refl, sym, ap, ap₂, subst}
use Rattle.ir_tree.specs.Initials.{Initial, plain, zeros, bytes, elements, members, Initials, no_initials, initial, head_of, parts_of, all_parts, flat_of, tree_of, tree_of-flat_of, IsFlat}
use Rattle.ir_tree.specs.declared.block.Block.{Block}
use Rattle.ir_tree.specs.declared.block.Case.{Case}
use Rattle.ir_tree.specs.declared.block.Terminator.{Terminator}
use Rattle.ir_tree.specs.declared.block.Terminator.TheVariants.{Branch, Jump, Return, Switch, Unreachable}
use Rattle.ir_tree.specs.declared.function.Function.{Function}
use Rattle.ir_tree.specs.declared.function.Param.{Param}
use Rattle.ir_tree.specs.declared.init_node.InitHead.{InitHead}
use Rattle.ir_tree.specs.declared.init_node.InitPart.{InitPart}
use Rattle.ir_tree.specs.declared.init_node.InitPart.TheVariants.{End, Typed}
use Rattle.ir_tree.specs.declared.instr.Line.{Line}
use Rattle.ir_tree.specs.declared.operand.Symbol.{Symbol}
use Rattle.ir_tree.specs.Edited.{block_edited, case_edited, edited, end_edited, line_edited, param_edited, with_operands}
use Rattle.ir_meaning.specs.Refine.{Naming}
use Rattle.ir_meaning.specs.Rename.{block_under, end_under, line_under, operand_under}
use Rattle.merge_meaning.specs.Globals.{function_under, initial_under, initials_under}
use Rattle.merge_meaning.specs.Kept.{head_under, part_under}

-- ---- initialisers

head_kept : (t : Naming) (v : Initial) → head_of (initial_under t v) ≡ head_under t (head_of v)
head_kept t (plain o) = refl
head_kept t zeros = refl
head_kept t (bytes text) = refl
head_kept t (elements parts) = refl
head_kept t (members packed parts) = refl

mutual
  parts_kept : (t : Naming) (v : Initial) (rest : List InitPart) → parts_of (initial_under t v) (map (part_under t) rest) ≡ map (part_under t) (parts_of v rest)
  parts_kept t (plain o) rest = refl
  parts_kept t zeros rest = refl
  parts_kept t (bytes text) rest = refl
  parts_kept t (elements parts) rest = all_kept t parts (End ∷ rest)
  parts_kept t (members packed parts) rest = all_kept t parts (End ∷ rest)

  all_kept : (t : Naming) (vs : Initials) (rest : List InitPart) → all_parts (initials_under t vs) (map (part_under t) rest) ≡ map (part_under t) (all_parts vs rest)
  all_kept t no_initials rest = refl
  all_kept t (initial f v vs) rest =
      ap₂ (λ (h : InitHead). λ (ps : List InitPart). Typed f h ∷ ps) (head_kept t v)
      (ap (parts_of (initial_under t v)) (all_kept t vs rest) ∙ parts_kept t v (all_parts vs rest))

flat_kept : (t : Naming) (v : Initial) → flat_of (initial_under t v) ≡ (head_under t (head_of v), map (part_under t) (parts_of v []))
flat_kept t v = ap₂ (λ (h : InitHead). λ (ps : List InitPart). (h, ps)) (head_kept t v) (parts_kept t v [])

module _ (t : Naming) (v : Initial) (root new_root : InitHead) (parts new_parts : List InitPart) (flat : (root, parts) ≡ flat_of v)
    (root_is : new_root ≡ head_under t root) (parts_are : new_parts ≡ map (part_under t) parts) where
  new_flat : flat_of (initial_under t v) ≡ (new_root, new_parts)
  new_flat =
      flat_kept t v
      ∙ sym (ap₂ (λ (h : InitHead). λ (ps : List InitPart). (h, ps)) (root_is ∙ ap (λ (z : InitHead × List InitPart). head_under t z.0) flat)
      (parts_are ∙ ap (λ (z : InitHead × List InitPart). map (part_under t) z.1) flat))

  pub new_is_flat : IsFlat new_root new_parts
  new_is_flat = subst (λ (z : InitHead × List InitPart). flat_of (tree_of z) ≡ z) new_flat (ap flat_of (tree_of-flat_of (initial_under t v)))

  pub new_initial : (w : Initial) → flat_of w ≡ (new_root, new_parts) → w ≡ initial_under t v
  new_initial w e = sym (tree_of-flat_of w) ∙ ap tree_of (e ∙ sym new_flat) ∙ tree_of-flat_of (initial_under t v)

-- ---- functions

local_kept : (l : Option ℕ) → option_map (λ (x : ℕ). x) l ≡ l
local_kept None = refl
local_kept (Some x) = refl

lines_kept : (t : Naming) (ls : List Line) → map (line_edited (λ x. x) (operand_under t)) ls ≡ map (line_under t) ls
lines_kept t [] = refl
lines_kept t (l ∷ ls) =
    ap₂ (λ (x : Line). λ (xs : List Line). x ∷ xs)
    (ap (λ (x : Option ℕ). record { local = x; instr = with_operands (operand_under t) l.instr }) (local_kept l.local))
    (lines_kept t ls)

cases_kept : (cs : List Case) → map (case_edited (λ x. x)) cs ≡ cs
cases_kept [] = refl
cases_kept (c ∷ cs) = ap (λ (l : List Case). c ∷ l) (cases_kept cs)

params_kept : (ps : List Param) → map (param_edited (λ x. x)) ps ≡ ps
params_kept [] = refl
params_kept (p ∷ ps) = ap (λ (l : List Param). p ∷ l) (params_kept ps)

end_kept : (t : Naming) (e : Terminator) → end_edited (λ x. x) (operand_under t) e ≡ end_under t e
end_kept t (Return None) = refl
end_kept t (Return (Some a)) = refl
end_kept t (Jump target) = refl
end_kept t (Branch c yes' no') = refl
end_kept t (Switch w o default cases) = ap (λ (l : List Case). Switch w (operand_under t o) default l) (cases_kept cases)
end_kept t Unreachable = refl

blocks_kept : (t : Naming) (bs : List Block) → map (block_edited (λ x. x) (operand_under t)) bs ≡ map (block_under t) bs
blocks_kept t [] = refl
blocks_kept t (b ∷ bs) = λ i. record {
  number = b.number;
  phis = (block_under t b).phis;
  lines = lines_kept t b.lines i;
  end = end_kept t b.end i;
} ∷ blocks_kept t bs i

pub function_kept : (t : Naming) (f changed : Function) (s : Symbol) → changed ≡ edited (λ x. x) (operand_under t) f → s ≡ t.symbol f.symbol
    → record {
      symbol = s;
      linkage = changed.linkage;
      result = changed.result;
      params = changed.params;
      noinline = changed.noinline;
      optnone = changed.optnone;
      blocks = changed.blocks;
    } ≡ function_under t f
function_kept t f changed s e symbol_is = first ∙ second
  where
    first : record {
      symbol = s;
      linkage = changed.linkage;
      result = changed.result;
      params = changed.params;
      noinline = changed.noinline;
      optnone = changed.optnone;
      blocks = changed.blocks;
    } ≡ record f { symbol = t.symbol f.symbol; params = map (param_edited (λ x. x)) f.params; blocks = map (block_edited (λ x. x) (operand_under t)) f.blocks }
    first = ap₂ (λ (x : Symbol). λ (g : Function). record g { symbol = x }) symbol_is e

    second : record f { symbol = t.symbol f.symbol; params = map (param_edited (λ x. x)) f.params; blocks = map (block_edited (λ x. x) (operand_under t)) f.blocks } ≡ function_under t f
    second =
        ap₂ (λ (ps : List Param). λ (bs : List Block). record f { symbol = t.symbol f.symbol; params = ps; blocks = bs }) (params_kept f.params)
        (blocks_kept t f.blocks)
