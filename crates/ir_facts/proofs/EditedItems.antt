-- Operands replaced everywhere: what items read then, and the types of locals, which stay.
use Rattle.std.proofs.Common.{◌≡◌, ℕ, List, [], ◌∷◌, ◌++◌, Option, Some, None, map, option_map, refl, sym, ◌∙◌, ap}
use Rattle.std.specs.Prelude.{flat_map, filter_map}
use Rattle.std.specs.List.{cons_option}
use Rattle.std.proofs.lemmas.List.{map-append}
use Rattle.ir_tree.specs.Flow.{holds}
use Rattle.ir_tree.specs.Formed.{OperandFormed}
use Rattle.ir_tree.specs.Items.{Item, phi_item, line_item, end_item, end_reads, operands, phi_reads, reads, taken_as, typed}
use Rattle.ir_tree.specs.Rules.{Typing, block_typings, line_typing, result_type, type_of, typing, typings}
use Rattle.ir_tree.specs.declared.block.Block.{Block}
use Rattle.ir_tree.specs.declared.block.Terminator.{Terminator}
use Rattle.ir_tree.specs.declared.block.Terminator.TheVariants.{Branch, Jump, Return, Switch, Unreachable}
use Rattle.ir_tree.specs.declared.function.Function.{Function}
use Rattle.ir_tree.specs.declared.function.Param.{Param}
use Rattle.ir_tree.specs.declared.instr.Incoming.{Incoming}
use Rattle.ir_tree.specs.declared.instr.Instr.{Instr}
use Rattle.ir_tree.specs.declared.instr.Instr.TheVariants.{Address, Alloca, Binary, Call, Cast, Freeze, Icmp, Load, Phi as StrayPhi, Select, Store}
use Rattle.ir_tree.specs.declared.instr.Line.{Line}
use Rattle.ir_tree.specs.declared.instr.Phi.{Phi}
use Rattle.ir_tree.specs.declared.operand.Argument.{Argument}
use Rattle.ir_tree.specs.declared.operand.Operand.{Operand}
use Rattle.ir_tree.specs.declared.operand.Operand.TheVariants.{Local, Null, Number as Constant, Poison as PoisonOf, Symbol as Named}
use Rattle.ir_tree.specs.declared.operand.Reg.{Reg}
use Rattle.ir_tree.specs.Edited.{argument_edited, edited, end_edited, incoming_edited, instr_edited, line_edited, param_edited, phi_edited}
use Rattle.ir_facts.proofs.Editing.{block_by, locals_same}

-- ---- items

module _ (h : Operand → Operand) where
  abbrev pub argument_by : Argument → Argument
  argument_by a = argument_edited h a

  abbrev pub item_by : Item → Item
  item_by (phi_item b p) = phi_item b (phi_edited (λ x. x) h p)
  item_by (line_item b k l) = line_item b k (line_edited (λ x. x) h l)
  item_by (end_item b t) = end_item b (end_edited (λ x. x) h t)

  -- ---- what items read

  taken_by : (reg : Reg) (es : List Incoming) → taken_as reg (map (incoming_edited (λ x. x) h) es) ≡ map argument_by (taken_as reg es)
  taken_by reg [] = refl
  taken_by reg (e ∷ es) = ap (λ (as' : List Argument). typed reg (h e.value) ∷ as') (taken_by reg es)

  reads_by : (i : Instr) → reads (instr_edited (λ x. x) h i) ≡ map argument_by (reads i)
  reads_by (Binary op flags width left right) = refl
  reads_by (Icmp predicate reg left right) = refl
  reads_by (Cast op from value to) = refl
  reads_by (Select condition if_true if_false) = refl
  reads_by (Freeze reg value) = refl
  reads_by (Alloca shape align) = refl
  reads_by (Load reg address align) = refl
  reads_by (Store reg value address align) = refl
  reads_by (Address inbounds shape base indices) = refl
  reads_by (Call result callee arguments) = refl
  reads_by (StrayPhi reg incoming) = refl

  phi_reads_by : (i : Instr) → phi_reads (instr_edited (λ x. x) h i) ≡ map argument_by (phi_reads i)
  phi_reads_by (Binary op flags width left right) = refl
  phi_reads_by (Icmp predicate reg left right) = refl
  phi_reads_by (Cast op from value to) = refl
  phi_reads_by (Select condition if_true if_false) = refl
  phi_reads_by (Freeze reg value) = refl
  phi_reads_by (Alloca shape align) = refl
  phi_reads_by (Load reg address align) = refl
  phi_reads_by (Store reg value address align) = refl
  phi_reads_by (Address inbounds shape base indices) = refl
  phi_reads_by (Call result callee arguments) = refl
  phi_reads_by (StrayPhi reg incoming) = taken_by reg incoming

  end_reads_by : (t : Terminator) → end_reads (end_edited (λ x. x) h t) ≡ map argument_by (end_reads t)
  end_reads_by (Return None) = refl
  end_reads_by (Return (Some a)) = refl
  end_reads_by (Jump target) = refl
  end_reads_by (Branch condition if_true if_false) = refl
  end_reads_by (Switch width value default cases) = refl
  end_reads_by Unreachable = refl

  pub operands_same : (item : Item) → operands (item_by item) ≡ map argument_by (operands item)
  operands_same (phi_item b phi) = taken_by phi.reg phi.incoming
  operands_same (line_item b k l) = (λ i. reads_by l.instr i ++ phi_reads_by l.instr i) ∙ sym (map-append argument_by (reads l.instr) (phi_reads l.instr))
  operands_same (end_item b t) = end_reads_by t

  -- ---- types of locals

  result_same : (i : Instr) → result_type (instr_edited (λ x. x) h i) ≡ result_type i
  result_same (Binary op flags width left right) = refl
  result_same (Icmp predicate reg left right) = refl
  result_same (Cast op from value to) = refl
  result_same (Select condition if_true if_false) = refl
  result_same (Freeze reg value) = refl
  result_same (Alloca shape align) = refl
  result_same (Load reg address align) = refl
  result_same (Store reg value address align) = refl
  result_same (Address inbounds shape base indices) = refl
  result_same (Call result callee arguments) = refl
  result_same (StrayPhi reg incoming) = refl

  phi_types_same : (ps : List Phi) → map {B = Typing} (λ p. (p.local, Some p.reg)) (map (phi_edited (λ x. x) h) ps) ≡ map {B = Typing} (λ p. (p.local, Some p.reg)) ps
  phi_types_same [] = refl
  phi_types_same (p ∷ ps) = ap (λ (ts : List Typing). (p.local, Some p.reg) ∷ ts) (phi_types_same ps)

  line_types_same : (ls : List Line) → filter_map line_typing (map (line_edited (λ x. x) h) ls) ≡ filter_map line_typing ls
  line_types_same [] = refl
  line_types_same (l ∷ ls) = by l.local ∙ ap (λ (ts : List Typing). cons_option (option_map (λ x. (x, result_type l.instr)) l.local) ts) (line_types_same ls)
    where
      by : (o : Option ℕ) → cons_option (option_map (λ x. (x, result_type (instr_edited (λ y. y) h l.instr))) (option_map (λ y. y) o)) (filter_map line_typing (map (line_edited (λ y. y) h) ls))
          ≡ cons_option (option_map (λ x. (x, result_type l.instr)) o) (filter_map line_typing (map (line_edited (λ y. y) h) ls))
      by None = refl
      by (Some x) = ap (λ (r : Option Reg). (x, r) ∷ filter_map line_typing (map (line_edited (λ y. y) h) ls)) (result_same l.instr)

  block_types_same : (bs : List Block) → flat_map block_typings (map (block_by h) bs) ≡ flat_map block_typings bs
  block_types_same [] = refl
  block_types_same (b ∷ bs) = λ i. (phi_types_same b.phis i ++ line_types_same b.lines i) ++ block_types_same bs i

  param_types_same : (ps : List Param) → map {B = Typing} (λ p. (p.local, Some p.reg)) (map (param_edited (λ x. x)) ps) ≡ map {B = Typing} (λ p. (p.local, Some p.reg)) ps
  param_types_same [] = refl
  param_types_same (p ∷ ps) = ap (λ (ts : List Typing). (p.local, Some p.reg) ∷ ts) (param_types_same ps)

  pub typings_same : (f : Function) → typings (edited (λ x. x) h f) ≡ typings f
  typings_same f = λ i. param_types_same f.params i ++ block_types_same f.blocks i

  pub type_same : (f : Function) (o : Operand) → type_of (edited (λ x. x) h f) o ≡ type_of f o
  type_same f (Local x) = ap (λ (ts : List Typing). typing ts x) (typings_same f)
  type_same f (Constant w n) = refl
  type_same f Null = refl
  type_same f (PoisonOf reg) = refl
  type_same f (Named s i) = refl

  pub formed_same : (f : Function) (o : Operand) → OperandFormed f o → OperandFormed (edited (λ x. x) h f) o
  formed_same f (Local x) k = ap (λ (xs : List ℕ). holds xs x) (locals_same h f) ∙ k
  formed_same f (Constant w n) k = k
  formed_same f Null k = k
  formed_same f (PoisonOf reg) k = k
  formed_same f (Named s i) k = k
