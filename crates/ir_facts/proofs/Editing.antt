-- Operands replaced everywhere: definitions, numbers and control flow stay.
use Rattle.std.proofs.Common.{◌≡◌, ℕ, zero, suc, List, [], ◌∷◌, ◌++◌, Option, Some, None, map, option_map, refl, ◌∙◌, ap}
use Rattle.std.specs.Prelude.{slice_get, flat_map}
use Rattle.std.specs.List.{cons_option}
use Rattle.ir_tree.specs.Flow.{definitions, edges, leading, leading_to, locals, repeated, results, successors}
use Rattle.ir_tree.specs.Formed.{numbers}
use Rattle.ir_tree.specs.declared.block.Block.{Block}
use Rattle.ir_tree.specs.declared.block.Case.{Case}
use Rattle.ir_tree.specs.declared.block.Terminator.{Terminator}
use Rattle.ir_tree.specs.declared.block.Terminator.TheVariants.{Branch, Jump, Return, Switch, Unreachable}
use Rattle.ir_tree.specs.declared.function.Function.{Function}
use Rattle.ir_tree.specs.declared.function.Param.{Param}
use Rattle.ir_tree.specs.declared.instr.Line.{Line}
use Rattle.ir_tree.specs.declared.instr.Phi.{Phi}
use Rattle.ir_tree.specs.declared.operand.Operand.{Operand}
use Rattle.ir_tree.specs.Edited.{block_edited, case_edited, edited, end_edited, line_edited, param_edited, phi_edited}

module _ (h : Operand → Operand) where
  abbrev pub block_by : Block → Block
  block_by b = block_edited (λ x. x) h b

  named_same : (o : Option ℕ) (xs : List ℕ) → cons_option (option_map (λ x. x) o) xs ≡ cons_option o xs
  named_same None xs = refl
  named_same (Some x) xs = refl

  pub results_same : (ls : List Line) → results (map (line_edited (λ x. x) h) ls) ≡ results ls
  results_same [] = refl
  results_same (l ∷ ls) = named_same l.local (results (map (line_edited (λ x. x) h) ls)) ∙ ap (λ (xs : List ℕ). cons_option l.local xs) (results_same ls)

  pub phis_same : (ps : List Phi) → map (λ p. p.local) (map (phi_edited (λ x. x) h) ps) ≡ map (λ p. p.local) ps
  phis_same [] = refl
  phis_same (p ∷ ps) = ap (λ (xs : List ℕ). p.local ∷ xs) (phis_same ps)

  pub definitions_same : (b : Block) → definitions (block_by b) ≡ definitions b
  definitions_same b = λ i. phis_same b.phis i ++ results_same b.lines i

  cases_same : (cs : List Case) → map (λ c. c.target) (map (case_edited (λ x. x)) cs) ≡ map (λ c. c.target) cs
  cases_same [] = refl
  cases_same (c ∷ cs) = ap (λ (xs : List ℕ). c.target ∷ xs) (cases_same cs)

  pub targets_same : (t : Terminator) → successors (end_edited (λ x. x) h t) ≡ successors t
  targets_same (Return value) = refl
  targets_same (Jump target) = refl
  targets_same (Branch condition if_true if_false) = refl
  targets_same (Switch width value default cases) = ap (λ (xs : List ℕ). default ∷ xs) (cases_same cases)
  targets_same Unreachable = refl

  leading_same : (n p : ℕ) (bs : List Block) → leading n p (map block_by bs) ≡ leading n p bs
  leading_same n p [] = refl
  leading_same n p (b ∷ bs) = λ i. repeated p n (targets_same b.end i) ++ leading_same n (suc p) bs i

  leading_to_same : (bs : List Block) (o : Option Block) → leading_to (map block_by bs) (option_map block_by o) ≡ leading_to bs o
  leading_to_same bs None = refl
  leading_to_same bs (Some b) = leading_same b.number 0 bs

  pub block_at : (bs : List Block) (i : ℕ) → slice_get (map block_by bs) i ≡ option_map block_by (slice_get bs i)
  block_at [] i = refl
  block_at (b ∷ bs) zero = refl
  block_at (b ∷ bs) (suc i) = block_at bs i

  blocks_same : (bs : List Block) → flat_map definitions (map block_by bs) ≡ flat_map definitions bs
  blocks_same [] = refl
  blocks_same (b ∷ bs) = λ i. definitions_same b i ++ blocks_same bs i

  numbers_from : (bs : List Block) → map (λ b. b.number) (map block_by bs) ≡ map (λ b. b.number) bs
  numbers_from [] = refl
  numbers_from (b ∷ bs) = ap (λ (xs : List ℕ). b.number ∷ xs) (numbers_from bs)

  params_same : (ps : List Param) → map (λ p. p.local) (map (param_edited (λ x. x)) ps) ≡ map (λ p. p.local) ps
  params_same [] = refl
  params_same (p ∷ ps) = ap (λ (xs : List ℕ). p.local ∷ xs) (params_same ps)

  module _ (f : Function) where
    pub edges_same : (b : ℕ) → edges (edited (λ x. x) h f) b ≡ edges f b
    edges_same b = ap (leading_to (map block_by f.blocks)) (block_at f.blocks b) ∙ leading_to_same f.blocks (slice_get f.blocks b)

    pub locals_same : locals (edited (λ x. x) h f) ≡ locals f
    locals_same = λ i. params_same f.params i ++ blocks_same f.blocks i

    pub numbers_same : numbers (edited (λ x. x) h f) ≡ numbers f
    numbers_same = numbers_from f.blocks
