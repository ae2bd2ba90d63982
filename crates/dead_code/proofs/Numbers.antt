-- A function under other numbers is what the law of other numbers speaks of.
use Rattle.std.proofs.Common.{◌≡◌, ℕ, ◌+◌, map, option_map, refl, sym, ◌∙◌, ap, subst, arith}
use Rattle.ir_tree.specs.declared.block.Block.{Block}
use Rattle.ir_tree.specs.declared.block.Terminator.{Terminator}
use Rattle.ir_tree.specs.declared.block.Terminator.TheVariants.{Branch, Jump, Return, Switch, Unreachable}
use Rattle.ir_tree.specs.declared.function.Function.{Function}
use Rattle.ir_tree.specs.declared.instr.Instr.{Instr}
use Rattle.ir_tree.specs.declared.instr.Instr.TheVariants.{Address, Alloca, Binary, Call, Cast, Freeze, Icmp, Load, Phi as StrayPhi, Select, Store}
use Rattle.ir_tree.specs.declared.instr.Line.{Line}
use Rattle.ir_tree.specs.declared.operand.Operand.{Operand}
use Rattle.ir_tree.specs.declared.operand.Operand.TheVariants.{Local, Number, Null, Poison, Symbol as Named}
use Rattle.ir_meaning.specs.Near.{BetterThan}
use Rattle.ir_meaning.specs.Program.{Program}
use Rattle.ir_meaning.specs.Formed.{IsFormed}
use Rattle.ir_meaning.specs.Renumber.{IsOneToOne, block_renumbered, end_renumbered, instr_renumbered, line_renumbered, operand_renumbered, phi_renumbered, param_renumbered, renumbered}
use Rattle.ir_meaning.proofs.Numbers.Renumbered.{renumbered_better}
use Rattle.ir_tree.specs.Edited.{block_edited, edited, end_edited, instr_edited, line_edited, operand_renamed, renamed}
use Rattle.ir_edit.specs.Numbered.{new_number, numbers_of}
use Rattle.ir_edit.proofs.Apart.{is_one_to_one}
use Rattle.dead_code.specs.Laws.{ShiftedIsBetter, TextOrderIsBetter}

operand_same : (new : ℕ → ℕ) (o : Operand) → operand_renamed new o ≡ operand_renumbered new o
operand_same new (Local x) = refl
operand_same new (Number width bits) = refl
operand_same new Null = refl
operand_same new (Poison reg) = refl
operand_same new (Named symbol offset) = refl

instr_same : (new : ℕ → ℕ) (i : Instr) → instr_edited new (operand_renumbered new) i ≡ instr_renumbered new i
instr_same new (Binary op flags width left right) = refl
instr_same new (Icmp predicate reg left right) = refl
instr_same new (Cast op from value to) = refl
instr_same new (Select condition if_true if_false) = refl
instr_same new (Freeze reg value) = refl
instr_same new (Alloca shape align) = refl
instr_same new (Load reg address align) = refl
instr_same new (Store reg value address align) = refl
instr_same new (Address inbounds shape base indices) = refl
instr_same new (Call result callee arguments) = refl
instr_same new (StrayPhi reg incoming) = refl

end_same : (new : ℕ → ℕ) (e : Terminator) → end_edited new (operand_renumbered new) e ≡ end_renumbered new e
end_same new (Return value) = refl
end_same new (Jump target) = refl
end_same new (Branch condition if_true if_false) = refl
end_same new (Switch width value default cases) = refl
end_same new Unreachable = refl

line_same : (new : ℕ → ℕ) (l : Line) → line_edited new (operand_renumbered new) l ≡ line_renumbered new l
line_same new l = ap (λ (i : Instr). record { local = option_map new l.local; instr = i }) (instr_same new l.instr)

block_same : (new : ℕ → ℕ) (b : Block) → block_edited new (operand_renumbered new) b ≡ block_renumbered new b
block_same new b = λ i. record {
  number = new b.number;
  phis = map (phi_renumbered new) b.phis;
  lines = map (λ l. line_same new l i) b.lines;
  end = end_same new b.end i;
}

renamed_same : (new : ℕ → ℕ) (f : Function) → renamed new f ≡ renumbered new f
renamed_same new f =
    (λ i. edited new (λ o. operand_same new o i) f)
    ∙ (λ i. record f { params = map (param_renumbered new) f.params; blocks = map (λ b. block_same new b i) f.blocks })

renamed_better : (p : Program) → IsFormed p → (new : ℕ → ℕ) → IsOneToOne new → (f : Function) → BetterThan p 1 (renamed new f) f
renamed_better p formed new apart f = subst (λ (g : Function). BetterThan p 1 g f) (sym (renamed_same new f)) (renumbered_better p formed new apart f)

pub text_order_better : TextOrderIsBetter
text_order_better p formed f = renamed_better p formed (new_number (numbers_of f)) (is_one_to_one (numbers_of f)) f

pub shifted_better : ShiftedIsBetter
shifted_better p formed by f = renamed_better p formed (λ x. x + by) (λ x y e. omega (arith, e)) f
