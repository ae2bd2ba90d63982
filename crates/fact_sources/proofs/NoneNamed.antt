-- Nothing names one of no locals.
use Rattle.std.proofs.Common.{◌≡◌, ℕ, Bool, true, false, ◌||◌, List, [], ◌∷◌, Some, None, length, refl, arith}
use Rattle.ir_tree.specs.declared.block.Block.{Block}
use Rattle.ir_tree.specs.declared.block.Terminator.{Terminator}
use Rattle.ir_tree.specs.declared.block.Terminator.TheVariants.{Branch, Jump, Return, Switch, Unreachable}
use Rattle.ir_tree.specs.declared.instr.Incoming.{Incoming}
use Rattle.ir_tree.specs.declared.instr.Instr.{Instr}
use Rattle.ir_tree.specs.declared.instr.Instr.TheVariants.{Address, Alloca, Binary, Call, Cast, Freeze, Icmp, Load, Phi as StrayPhi, Select, Store}
use Rattle.ir_tree.specs.declared.instr.Line.{Line}
use Rattle.ir_tree.specs.declared.instr.Phi.{Phi}
use Rattle.ir_tree.specs.declared.operand.Argument.{Argument}
use Rattle.ir_tree.specs.declared.operand.Operand.{Operand}
use Rattle.ir_tree.specs.declared.operand.Operand.TheVariants.{Local, Null, Number as Constant, Poison as PoisonOf, Symbol as Named}
use Rattle.fact_sources.specs.Membership.{is_member}
use Rattle.fact_sources.specs.Naming.{arguments_name, block_names, blocks_name, end_names, entries_name, instr_names, lines_name, phis_name}

pub empty_list : {X : Type 0} (xs : List X) → length xs ≡ 0 → xs ≡ []
empty_list [] e = refl
empty_list (x ∷ xs) e = absurd (omega (arith, e))

abbrev none : ℕ → Bool
none x = false

neither_is : (a b : Bool) → a ≡ false → b ≡ false → (a || b) ≡ false
neither_is true b g h = g
neither_is false b g h = h

operand_none : (o : Operand) → is_member none o ≡ false
operand_none (Local x) = refl
operand_none (Constant w n) = refl
operand_none Null = refl
operand_none (PoisonOf reg) = refl
operand_none (Named t i) = refl

arguments_none : (as' : List Argument) → arguments_name none as' ≡ false
arguments_none [] = refl
arguments_none (a ∷ more) = neither_is (is_member none a.operand) (arguments_name none more) (operand_none a.operand) (arguments_none more)

entries_none : (es : List Incoming) → entries_name none es ≡ false
entries_none [] = refl
entries_none (e ∷ es) = neither_is (is_member none e.value) (entries_name none es) (operand_none e.value) (entries_none es)

instr_none : (i : Instr) → instr_names none i ≡ false
instr_none (Binary op flags w l r) = neither_is (is_member none l) (is_member none r) (operand_none l) (operand_none r)
instr_none (Icmp p reg l r) = neither_is (is_member none l) (is_member none r) (operand_none l) (operand_none r)
instr_none (Cast op from o to) = operand_none o
instr_none (Select t a b) =
    neither_is (is_member none t) (is_member none a.operand || is_member none b.operand) (operand_none t)
    (neither_is (is_member none a.operand) (is_member none b.operand) (operand_none a.operand) (operand_none b.operand))
instr_none (Freeze reg o) = operand_none o
instr_none (Alloca shape align) = refl
instr_none (Load reg o align) = operand_none o
instr_none (Store reg o d align) = neither_is (is_member none o) (is_member none d) (operand_none o) (operand_none d)
instr_none (Address inbounds shape o is) = neither_is (is_member none o) (arguments_name none is) (operand_none o) (arguments_none is)
instr_none (Call result o args) = neither_is (is_member none o) (arguments_name none args) (operand_none o) (arguments_none args)
instr_none (StrayPhi reg es) = entries_none es

lines_none : (ls : List Line) → lines_name none ls ≡ false
lines_none [] = refl
lines_none (l ∷ ls) = neither_is (instr_names none l.instr) (lines_name none ls) (instr_none l.instr) (lines_none ls)

phis_none : (ps : List Phi) → phis_name none ps ≡ false
phis_none [] = refl
phis_none (p ∷ ps) = neither_is (entries_name none p.incoming) (phis_name none ps) (entries_none p.incoming) (phis_none ps)

end_none : (t : Terminator) → end_names none t ≡ false
end_none (Return None) = refl
end_none (Return (Some a)) = operand_none a.operand
end_none (Jump target) = refl
end_none (Branch o yes' no') = operand_none o
end_none (Switch w o default cases) = operand_none o
end_none Unreachable = refl

pub blocks_none : (bs : List Block) → blocks_name none bs ≡ false
blocks_none [] = refl
blocks_none (b ∷ bs) =
    neither_is (block_names none b) (blocks_name none bs)
    (neither_is (phis_name none b.phis) (lines_name none b.lines || end_names none b.end) (phis_none b.phis)
    (neither_is (lines_name none b.lines) (end_names none b.end) (lines_none b.lines) (end_none b.end)))
    (blocks_none bs)
