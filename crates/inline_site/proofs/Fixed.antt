-- Under new numbers that leave those below a bound as they are, what names no other number stays as it is.
use Rattle.std.proofs.Common.{◌≡◌, ℕ, ◌<◌, true, List, [], ◌∷◌, Option, Some, None, map, option_map, refl, ap, arith}
use Rattle.std.proofs.lemmas.Bool.Decides.{nat_tests}
use Rattle.ir_tree.specs.Flow.{successors}
use Rattle.ir_tree.specs.Rules.{IsNoPhi}
use Rattle.ir_tree.specs.declared.block.Case.{Case}
use Rattle.ir_tree.specs.declared.block.Terminator.{Terminator}
use Rattle.ir_tree.specs.declared.block.Terminator.TheVariants.{Branch, Jump, Return, Switch, Unreachable}
use Rattle.ir_tree.specs.declared.instr.Instr.{Instr}
use Rattle.ir_tree.specs.declared.instr.Instr.TheVariants.{Address, Alloca, Binary, Call, Cast, Freeze, Icmp, Load, Phi as StrayPhi, Select, Store}
use Rattle.ir_tree.specs.declared.instr.Line.{Line}
use Rattle.ir_tree.specs.declared.operand.Argument.{Argument}
use Rattle.ir_tree.specs.declared.operand.Operand.{Operand}
use Rattle.ir_tree.specs.declared.operand.Operand.TheVariants.{Local, Null, Number, Poison, Symbol as Named}
use Rattle.ir_tree.specs.Edited.{argument_edited}
use Rattle.ir_meaning.specs.Inline.{below}
use Rattle.ir_meaning.specs.Needed.{AllKept, EndReads, IsKept, UsesKept}
use Rattle.ir_meaning.specs.Renumber.{case_renumbered, end_renumbered, instr_renumbered, line_renumbered, operand_renumbered}
use Rattle.inline_site.proofs.Fitting.{AreBelow, LinesFit, LocalBelow}

is_less : (x n : ℕ) → below n x ≡ true → x < n
is_less x n h = grind (arith, nat_tests)

module _ (n : ℕ) (new : ℕ → ℕ) (fixed : (x : ℕ) → x < n → new x ≡ x) where
  pub operand_fixed : (o : Operand) → IsKept (below n) o → operand_renumbered new o ≡ o
  operand_fixed (Local x) h = ap (λ (y : ℕ). Local y) (fixed x (is_less x n h))
  operand_fixed (Number width bits) h = refl
  operand_fixed Null h = refl
  operand_fixed (Poison reg) h = refl
  operand_fixed (Named symbol offset) h = refl

  argument_fixed : (a : Argument) → IsKept (below n) a.operand → argument_edited (operand_renumbered new) a ≡ a
  argument_fixed a h = λ i. record { reg = a.reg; operand = operand_fixed a.operand h i }

  arguments_fixed : (as' : List Argument) → AllKept (below n) as' → map (argument_edited (operand_renumbered new)) as' ≡ as'
  arguments_fixed [] h = refl
  arguments_fixed (a ∷ more) h = λ i. argument_fixed a h.0 i ∷ arguments_fixed more h.1 i

  instr_fixed : (i : Instr) → UsesKept (below n) i → IsNoPhi i → instr_renumbered new i ≡ i
  instr_fixed (Binary op flags width left right) h s = λ i. Binary op flags width (operand_fixed left h.0 i) (operand_fixed right h.1 i)
  instr_fixed (Icmp predicate reg left right) h s = λ i. Icmp predicate reg (operand_fixed left h.0 i) (operand_fixed right h.1 i)
  instr_fixed (Cast op from value to) h s = λ i. Cast op from (operand_fixed value h i) to
  instr_fixed (Select condition if_true if_false) h s = λ i. Select (operand_fixed condition h.0 i) (argument_fixed if_true h.1 i) (argument_fixed if_false h.2 i)
  instr_fixed (Freeze reg value) h s = λ i. Freeze reg (operand_fixed value h i)
  instr_fixed (Alloca shape align) h s = refl
  instr_fixed (Load reg address align) h s = λ i. Load reg (operand_fixed address h i) align
  instr_fixed (Store reg value address align) h s = λ i. Store reg (operand_fixed value h.0 i) (operand_fixed address h.1 i) align
  instr_fixed (Address inbounds shape base indices) h s = λ i. Address inbounds shape (operand_fixed base h.0 i) (arguments_fixed indices h.1 i)
  instr_fixed (Call result callee arguments) h s = λ i. Call result (operand_fixed callee h.0 i) (arguments_fixed arguments h.1 i)
  instr_fixed (StrayPhi reg incoming) h s = absurd s

  local_fixed : (o : Option ℕ) → LocalBelow n o → option_map new o ≡ o
  local_fixed None h = refl
  local_fixed (Some x) h = ap (λ (y : ℕ). Some y) (fixed x h)

  pub lines_fixed : (ls : List Line) → LinesFit n ls → map (line_renumbered new) ls ≡ ls
  lines_fixed [] h = refl
  lines_fixed (l ∷ ls) h = λ i. record { local = local_fixed l.local h.0 i; instr = instr_fixed l.instr h.1 h.2 i } ∷ lines_fixed ls h.3 i

  cases_fixed : (cs : List Case) → AreBelow n (map (λ c. c.target) cs) → map (case_renumbered new) cs ≡ cs
  cases_fixed [] h = refl
  cases_fixed (c ∷ cs) h = λ i. record { reg = c.reg; width = c.width; bits = c.bits; target = fixed c.target h.0 i } ∷ cases_fixed cs h.1 i

  pub end_fixed : (t : Terminator) → EndReads (below n) t → AreBelow n (successors t) → end_renumbered new t ≡ t
  end_fixed (Return None) h g = refl
  end_fixed (Return (Some a)) h g = ap (λ (x : Argument). Return (Some x)) (argument_fixed a h)
  end_fixed (Jump target) h g = ap (λ (x : ℕ). Jump x) (fixed target g.0)
  end_fixed (Branch condition if_true if_false) h g = λ i. Branch (operand_fixed condition h i) (fixed if_true g.0 i) (fixed if_false g.1.0 i)
  end_fixed (Switch width value default cases) h g = λ i. Switch width (operand_fixed value h i) (fixed default g.0 i) (cases_fixed cases g.1 i)
  end_fixed Unreachable h g = refl
