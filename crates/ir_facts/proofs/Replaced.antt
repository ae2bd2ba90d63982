-- Uses replaced by facts at their points: definitions, types, numbers and control flow stay.
use Rattle.std.proofs.Common.{◌≡◌, ℕ, zero, suc, nat_eq, ◌||◌, List, [], ◌∷◌, ◌++◌, Option, Some, None, length, map, option_map, refl, ◌∙◌, ap, if◌then◌else◌}
use Rattle.std.specs.Prelude.{slice_get, flat_map, filter_map}
use Rattle.std.specs.List.{cons_option}
use Rattle.ir_tree.specs.Flow.{availability, defined_in, definitions, edges, entry_row, holds, leading, leading_to, locals, parameters, repeated, results, room, successors}
use Rattle.ir_tree.specs.Formed.{numbers}
use Rattle.ir_tree.specs.Rules.{Typing, block_typings, line_typing, place, result_type, typings}
use Rattle.ir_tree.specs.declared.block.Block.{Block}
use Rattle.ir_tree.specs.declared.block.Case.{Case}
use Rattle.ir_tree.specs.declared.block.Terminator.{Terminator}
use Rattle.ir_tree.specs.declared.block.Terminator.TheVariants.{Branch, Jump, Return, Switch, Unreachable}
use Rattle.ir_tree.specs.declared.function.Function.{Function}
use Rattle.ir_tree.specs.declared.instr.Instr.{Instr}
use Rattle.ir_tree.specs.declared.instr.Instr.TheVariants.{Address, Alloca, Binary, Call, Cast, Freeze, Icmp, Load, Phi as StrayPhi, Select, Store}
use Rattle.ir_tree.specs.declared.instr.Line.{Line}
use Rattle.ir_tree.specs.declared.instr.Phi.{Phi}
use Rattle.ir_tree.specs.declared.operand.Operand.{Operand}
use Rattle.ir_tree.specs.declared.operand.Reg.{Reg}
use Rattle.ir_meaning.specs.Facts.{Facts, behind_local, block_replaced, blocks_replaced, end_replaced, function_replaced, lines_replaced, phis_replaced, replaced}
use Rattle.ir_tree.specs.Edited.{case_edited, end_edited, line_edited, with_operands}

-- ---- a line or a terminator with its operands changed, in either form

own : (o : Option ℕ) → o ≡ option_map (λ x. x) o
own None = refl
own (Some x) = refl

abbrev line_then : (Operand → Operand) → Line → Line
line_then h l = record { local = l.local; instr = with_operands h l.instr }

pub line_is : (h : Operand → Operand) (l : Line) → line_then h l ≡ line_edited (λ x. x) h l
line_is h l = λ i. record { local = own l.local i; instr = with_operands h l.instr }

cases_are : (cs : List Case) → cs ≡ map (case_edited (λ x. x)) cs
cases_are [] = refl
cases_are (d ∷ cs) = ap (λ (more : List Case). d ∷ more) (cases_are cs)

pub end_is : (fs : Facts) (t : Terminator) → end_replaced fs t ≡ end_edited (λ x. x) (replaced fs) t
end_is fs (Return None) = refl
end_is fs (Return (Some a)) = refl
end_is fs (Jump target) = refl
end_is fs (Branch o yes' no') = refl
end_is fs (Switch w o default cases) = ap (λ (cs : List Case). Switch w (replaced fs o) default cs) (cases_are cases)
end_is fs Unreachable = refl

result_still : (h : Operand → Operand) (i : Instr) → result_type (with_operands h i) ≡ result_type i
result_still h (Binary op flags w l r) = refl
result_still h (Icmp p reg l r) = refl
result_still h (Cast op from o to) = refl
result_still h (Select t a b) = refl
result_still h (Freeze reg o) = refl
result_still h (Alloca shape align) = refl
result_still h (Load reg o align) = refl
result_still h (Store reg o d align) = refl
result_still h (Address inbounds shape o is) = refl
result_still h (Call result o args) = refl
result_still h (StrayPhi reg es) = refl

targets_still : (fs : Facts) (t : Terminator) → successors (end_replaced fs t) ≡ successors t
targets_still fs (Return argument) = refl
targets_still fs (Jump target) = refl
targets_still fs (Branch o yes' no') = refl
targets_still fs (Switch w o default cases) = refl
targets_still fs Unreachable = refl

module _ (c : ℕ → Option Operand) (starts ends : ℕ → Facts) where
  abbrev pub block_then : Block → Block
  block_then b = block_replaced c starts ends b

  results_still : (ls : List Line) (fs : Facts) → results (lines_replaced c fs ls) ≡ results ls
  results_still [] fs = refl
  results_still (l ∷ ls) fs = ap (λ (xs : List ℕ). cons_option l.local xs) (results_still ls (behind_local c l.local fs))

  pub phis_still : (ps : List Phi) → map (λ p. p.local) (phis_replaced ends ps) ≡ map (λ p. p.local) ps
  phis_still [] = refl
  phis_still (p ∷ ps) = ap (λ (xs : List ℕ). p.local ∷ xs) (phis_still ps)

  pub definitions_still : (b : Block) → definitions (block_then b) ≡ definitions b
  definitions_still b = λ i. phis_still b.phis i ++ results_still b.lines (starts b.number) i

  leading_still : (n p : ℕ) (bs : List Block) → leading n p (blocks_replaced c starts ends bs) ≡ leading n p bs
  leading_still n p [] = refl
  leading_still n p (b ∷ bs) = λ i. repeated p n (targets_still (ends b.number) b.end i) ++ leading_still n (suc p) bs i

  leading_to_still : (bs : List Block) (o : Option Block) → leading_to (blocks_replaced c starts ends bs) (option_map block_then o) ≡ leading_to bs o
  leading_to_still bs None = refl
  leading_to_still bs (Some b) = leading_still b.number 0 bs

  pub block_there : (bs : List Block) (i : ℕ) → slice_get (blocks_replaced c starts ends bs) i ≡ option_map block_then (slice_get bs i)
  block_there [] i = refl
  block_there (b ∷ bs) zero = refl
  block_there (b ∷ bs) (suc i) = block_there bs i

  -- a block after the replacement is one before it
  pub block_was : (bs : List Block) (i : ℕ) (b' : Block) → slice_get (blocks_replaced c starts ends bs) i ≡ Some b' → (b : Block) × (slice_get bs i ≡ Some b) × (block_then b ≡ b')
  block_was [] i b' e = absurd (cc e)
  block_was (b ∷ bs) zero b' e = (b, refl, cc e)
  block_was (b ∷ bs) (suc i) b' e = block_was bs i b' e

  blocks_still : (bs : List Block) → flat_map definitions (blocks_replaced c starts ends bs) ≡ flat_map definitions bs
  blocks_still [] = refl
  blocks_still (b ∷ bs) = λ i. definitions_still b i ++ blocks_still bs i

  numbers_from : (bs : List Block) → map (λ b. b.number) (blocks_replaced c starts ends bs) ≡ map (λ b. b.number) bs
  numbers_from [] = refl
  numbers_from (b ∷ bs) = ap (λ (xs : List ℕ). b.number ∷ xs) (numbers_from bs)

  pub length_still : (bs : List Block) → length (blocks_replaced c starts ends bs) ≡ length bs
  length_still [] = refl
  length_still (b ∷ bs) = ap suc (length_still bs)

  pub place_still : (bs : List Block) (n : ℕ) → place (blocks_replaced c starts ends bs) n ≡ place bs n
  place_still [] n = refl
  place_still (b ∷ bs) n = λ i. if nat_eq b.number n then zero else suc (place_still bs n i)

  -- ---- types

  phi_types_still : (ps : List Phi) → map {B = Typing} (λ p. (p.local, Some p.reg)) (phis_replaced ends ps) ≡ map {B = Typing} (λ p. (p.local, Some p.reg)) ps
  phi_types_still [] = refl
  phi_types_still (p ∷ ps) = ap (λ (ts : List Typing). (p.local, Some p.reg) ∷ ts) (phi_types_still ps)

  line_types_still : (ls : List Line) (fs : Facts) → filter_map line_typing (lines_replaced c fs ls) ≡ filter_map line_typing ls
  line_types_still [] fs = refl
  line_types_still (l ∷ ls) fs =
      by l.local ∙ ap (λ (ts : List Typing). cons_option (option_map (λ x. (x, result_type l.instr)) l.local) ts) (line_types_still ls (behind_local c l.local fs))
    where
      by : (o : Option ℕ) → cons_option (option_map (λ x. (x, result_type (with_operands (replaced fs) l.instr))) o) (filter_map line_typing (lines_replaced c (behind_local c l.local fs) ls))
          ≡ cons_option (option_map (λ x. (x, result_type l.instr)) o) (filter_map line_typing (lines_replaced c (behind_local c l.local fs) ls))
      by None = refl
      by (Some x) = ap (λ (r : Option Reg). (x, r) ∷ filter_map line_typing (lines_replaced c (behind_local c l.local fs) ls)) (result_still (replaced fs) l.instr)

  block_types_still : (bs : List Block) → flat_map block_typings (blocks_replaced c starts ends bs) ≡ flat_map block_typings bs
  block_types_still [] = refl
  block_types_still (b ∷ bs) = λ i. (phi_types_still b.phis i ++ line_types_still b.lines (starts b.number) i) ++ block_types_still bs i

  -- ---- functions

  module _ (f : Function) where
    abbrev pub then_is : Function
    then_is = function_replaced c starts ends f

    pub edges_still : (b : ℕ) → edges then_is b ≡ edges f b
    edges_still b = ap (leading_to (blocks_replaced c starts ends f.blocks)) (block_there f.blocks b) ∙ leading_to_still f.blocks (slice_get f.blocks b)

    pub locals_still : locals then_is ≡ locals f
    locals_still = λ i. parameters f ++ blocks_still f.blocks i

    pub numbers_still : numbers then_is ≡ numbers f
    numbers_still = numbers_from f.blocks

    pub all_still : locals then_is ++ numbers then_is ≡ locals f ++ numbers f
    all_still = λ i. locals_still i ++ numbers_still i

    pub typings_still : typings then_is ≡ typings f
    typings_still = λ i. map {B = Typing} (λ p. (p.local, Some p.reg)) f.params ++ block_types_still f.blocks i

    defined_by : (o : Option Block) (x : ℕ) → defined_in (option_map block_then o) x ≡ defined_in o x
    defined_by None x = refl
    defined_by (Some b) x = ap (λ (xs : List ℕ). holds xs x) (definitions_still b)

    defined_still : (b x : ℕ) → defined_in (slice_get then_is.blocks b) x ≡ defined_in (slice_get f.blocks b) x
    defined_still b x = ap (λ (o : Option Block). defined_in o x) (block_there f.blocks b) ∙ defined_by (slice_get f.blocks b) x

    pub availability_still : availability then_is ≡ availability f
    availability_still = λ i. record {
      blocks = length_still f.blocks i;
      size = room (locals_still i);
      edges = λ b. edges_still b i;
      out = λ b row x. row x || defined_still b x i;
      fixed = λ b. entry_row b (parameters f);
    }
