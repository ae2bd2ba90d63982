-- Names and then other names are their composition.
use Rattle.std.proofs.Common.{◌≡◌, ◌∙◌, List, [], ◌∷◌, map, option_map, Option, Some, None, refl, ap}
use Rattle.ir_tree.specs.Initials.{Initial, plain, zeros, bytes, elements, members, Initials, no_initials, initial}
use Rattle.ir_tree.specs.declared.block.Block.{Block}
use Rattle.ir_tree.specs.declared.block.Terminator.{Terminator}
use Rattle.ir_tree.specs.declared.block.Terminator.TheVariants.{Branch, Jump, Return, Switch, Unreachable}
use Rattle.ir_tree.specs.declared.instr.Incoming.{Incoming}
use Rattle.ir_tree.specs.declared.instr.Instr.{Instr}
use Rattle.ir_tree.specs.declared.instr.Instr.TheVariants.{Address, Alloca, Binary, Call, Cast, Freeze, Icmp, Load, Phi as StrayPhi, Select, Store}
use Rattle.ir_tree.specs.declared.instr.Line.{Line}
use Rattle.ir_tree.specs.declared.instr.Phi.{Phi}
use Rattle.ir_tree.specs.declared.module.GlobalValue.{GlobalValue}
use Rattle.ir_tree.specs.declared.module.GlobalValue.TheVariants as global
use Rattle.ir_tree.specs.declared.operand.Argument.{Argument}
use Rattle.ir_tree.specs.declared.operand.Operand.{Operand}
use Rattle.ir_tree.specs.declared.operand.Operand.TheVariants.{Local, Null, Number as Constant, Poison as PoisonOf, Symbol as Named}
use Rattle.ir_tree.specs.declared.operand.Symbol.{Symbol}
use Rattle.ir_tree.specs.Edited.{argument_edited, incoming_edited, with_operands}
use Rattle.ir_meaning.specs.Rename.{block_under, edge_under, end_under, line_under, operand_under, phi_under}
use Rattle.merge_meaning.specs.Globals.{global_under, initial_under, initials_under, named_by}

-- ---- operands changed twice

module _ (change before : Operand → Operand) where
  arguments_twice : (args : List Argument) → map (argument_edited change) (map (argument_edited before) args) ≡ map (argument_edited (λ o. change (before o))) args
  arguments_twice [] = refl
  arguments_twice (a ∷ more) = ap (λ (l : List Argument). argument_edited (λ o. change (before o)) a ∷ l) (arguments_twice more)

  entries_twice : (es : List Incoming) → map (incoming_edited (λ n. n) change) (map (incoming_edited (λ n. n) before) es) ≡ map (incoming_edited (λ n. n) (λ o. change (before o))) es
  entries_twice [] = refl
  entries_twice (e ∷ es) = ap (λ (l : List Incoming). incoming_edited (λ n. n) (λ o. change (before o)) e ∷ l) (entries_twice es)

  instr_twice : (i : Instr) → with_operands change (with_operands before i) ≡ with_operands (λ o. change (before o)) i
  instr_twice (Binary op flags w l r) = refl
  instr_twice (Icmp p reg l r) = refl
  instr_twice (Cast op from o to) = refl
  instr_twice (Select c l r) = refl
  instr_twice (Freeze reg o) = refl
  instr_twice (Alloca shape align) = refl
  instr_twice (Load reg o align) = refl
  instr_twice (Store reg o d align) = refl
  instr_twice (Address inbounds shape o is) = ap (λ (l : List Argument). Address inbounds shape (change (before o)) l) (arguments_twice is)
  instr_twice (Call result o args) = ap (λ (l : List Argument). Call result (change (before o)) l) (arguments_twice args)
  instr_twice (StrayPhi reg es) = ap (λ (l : List Incoming). StrayPhi reg l) (entries_twice es)

-- ---- names upon names

module _ (name before : Symbol → Symbol) where
  operand_both : (o : Operand) → operand_under (named_by name) (operand_under (named_by before) o) ≡ operand_under (named_by (λ s. name (before s))) o
  operand_both (Local x) = refl
  operand_both (Constant w bits) = refl
  operand_both Null = refl
  operand_both (PoisonOf reg) = refl
  operand_both (Named s offset) = refl

  operands_both : (λ (o : Operand). operand_under (named_by name) (operand_under (named_by before) o)) ≡ operand_under (named_by (λ s. name (before s)))
  operands_both = λ i. λ (o : Operand). operand_both o i

  instr_both : (j : Instr) → with_operands (operand_under (named_by name)) (with_operands (operand_under (named_by before)) j)
      ≡ with_operands (operand_under (named_by (λ s. name (before s)))) j
  instr_both j =
      instr_twice (operand_under (named_by name)) (operand_under (named_by before)) j ∙ ap (λ (change : Operand → Operand). with_operands change j) operands_both

  lines_both : (ls : List Line) → map (line_under (named_by name)) (map (line_under (named_by before)) ls) ≡ map (line_under (named_by (λ s. name (before s)))) ls
  lines_both [] = refl
  lines_both (l ∷ ls) = λ i. record { local = l.local; instr = instr_both l.instr i } ∷ lines_both ls i

  edges_both : (es : List Incoming) → map (edge_under (named_by name)) (map (edge_under (named_by before)) es) ≡ map (edge_under (named_by (λ s. name (before s)))) es
  edges_both [] = refl
  edges_both (e ∷ es) = λ i. record { from = e.from; value = operand_both e.value i } ∷ edges_both es i

  phis_both : (ps : List Phi) → map (phi_under (named_by name)) (map (phi_under (named_by before)) ps) ≡ map (phi_under (named_by (λ s. name (before s)))) ps
  phis_both [] = refl
  phis_both (p ∷ ps) = λ i. record { local = p.local; reg = p.reg; incoming = edges_both p.incoming i } ∷ phis_both ps i

  end_both : (e : Terminator) → end_under (named_by name) (end_under (named_by before) e) ≡ end_under (named_by (λ s. name (before s))) e
  end_both (Return None) = refl
  end_both (Return (Some a)) = λ i. Return (Some (record { reg = a.reg; operand = operand_both a.operand i }))
  end_both (Jump target) = refl
  end_both (Branch c yes' no') = λ i. Branch (operand_both c i) yes' no'
  end_both (Switch w o default cases) = λ i. Switch w (operand_both o i) default cases
  end_both Unreachable = refl

  blocks_both : (bs : List Block) → map (block_under (named_by name)) (map (block_under (named_by before)) bs) ≡ map (block_under (named_by (λ s. name (before s)))) bs
  blocks_both [] = refl
  blocks_both (b ∷ bs) = λ i. record { number = b.number; phis = phis_both b.phis i; lines = lines_both b.lines i; end = end_both b.end i } ∷ blocks_both bs i

mutual
  initial_both : (name before : Symbol → Symbol) (v : Initial) → initial_under (named_by name) (initial_under (named_by before) v) ≡ initial_under (named_by (λ s. name (before s))) v
  initial_both name before (plain o) = ap (λ (x : Operand). plain x) (operand_both name before o)
  initial_both name before zeros = refl
  initial_both name before (bytes text) = refl
  initial_both name before (elements parts) = ap elements (initials_both name before parts)
  initial_both name before (members packed parts) = ap (members packed) (initials_both name before parts)

  initials_both : (name before : Symbol → Symbol) (vs : Initials)
      → initials_under (named_by name) (initials_under (named_by before) vs) ≡ initials_under (named_by (λ s. name (before s))) vs
  initials_both name before no_initials = refl
  initials_both name before (initial f v vs) = λ i. initial f (initial_both name before v i) (initials_both name before vs i)

maybe_both : (name before : Symbol → Symbol) (v : Option Initial)
    → option_map (initial_under (named_by name)) (option_map (initial_under (named_by before)) v) ≡ option_map (initial_under (named_by (λ s. name (before s)))) v
maybe_both name before None = refl
maybe_both name before (Some v) = ap (λ (x : Initial). Some x) (initial_both name before v)

pub names_compose : (name before : Symbol → Symbol) (g : GlobalValue) → global_under (named_by name) (global_under (named_by before) g) ≡ global_under (named_by (λ s. name (before s))) g
names_compose name before (global.Variable v) =
    λ i. global.Variable (record v { symbol = name (before v.symbol); init = maybe_both name before v.init i })
names_compose name before (global.Function f) =
    λ i. global.Function (record f { symbol = name (before f.symbol); blocks = blocks_both name before f.blocks i })
