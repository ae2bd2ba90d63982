-- Formed items whose constants are of the types before them are read, where their names and numbers can be written; items that
-- keep the rule of types are such.
use Rattle.std.proofs.Common.{◌≡◌, inr, ℕ, Some, None, List, [], ◌∷◌, ◌++◌, map, sym, ap, ◌∙◌}
use Rattle.std.specs.List.{AllByRecursion as Each}
use Rattle.std.proofs.lemmas.List.Elements.{recursion_from_All}
use Rattle.ir_tree.specs.Flow.{successors}
use Rattle.ir_tree.specs.Formed.{ArgumentFormed, CaseFormed, InstrFormed, ItemFormed}
use Rattle.ir_tree.specs.Items.{Item, phi_item, line_item, end_item, operands, typed, reads, phi_reads, taken_as, end_reads}
use Rattle.ir_tree.specs.Rules.{HasType, CaseHas, EndTypes, Keeps, KindTypes}
use Rattle.ir_tree.specs.declared.block.Case.{Case}
use Rattle.ir_tree.specs.declared.block.Terminator.{Terminator}
use Rattle.ir_tree.specs.declared.block.Terminator.TheVariants.{Return, Jump, Branch, Switch, Unreachable}
use Rattle.ir_tree.specs.declared.function.Function.{Function}
use Rattle.ir_tree.specs.declared.instr.Incoming.{Incoming}
use Rattle.ir_tree.specs.declared.instr.Instr.{Instr}
use Rattle.ir_tree.specs.declared.instr.Instr.TheVariants.{Binary, Icmp, Cast, Select, Freeze, Alloca, Load, Store, Address, Call, Phi}
use Rattle.ir_tree.specs.declared.operand.Argument.{Argument}
use Rattle.ir_tree.specs.declared.operand.Operand.{Operand}
use Rattle.ir_tree.specs.declared.operand.Operand.TheVariants.{Local, Number, Null, Poison, Symbol}
use Rattle.ir_tree.specs.declared.operand.Reg.{Reg}
use Rattle.ir_tree.specs.declared.operand.Reg.TheVariants.{Int}
use Rattle.ir_tree.specs.declared.rule.Rule.TheVariants.{TypeMismatch}
use Rattle.ir_round_trip.specs.PartsReadable.{IsSmall, OperandReadable, ArgumentReadable, IncomingReadable, CaseReadable, EntriesReadable, InstrReadable, TerminatorReadable}
use Rattle.ir_round_trip.specs.PrintedTyped.{OperandTyped, ArgumentTyped, CaseTyped, EndTyped, KindTyped, ItemTyped}
use Rattle.ir_round_trip.specs.Writable.{OperandWritable, EntriesWritable, InstrWritable, ItemWritable, ItemReadable}

-- ---- operands

operand_readable : (f : Function) (reg : Reg) (x : Operand) → ArgumentFormed f (typed reg x) → OperandTyped reg x → OperandWritable x → OperandReadable reg x
operand_readable f reg (Local n) h t w = w
operand_readable f reg (Number width bits) h t w = record { width = h.1.0; bits = h.1.1; typed = t }
operand_readable f reg Null h t w = tt
operand_readable f reg (Poison r) h t w = t
operand_readable f reg (Symbol symbol offset) h t w = w

argument_readable : (f : Function) (a : Argument) → ArgumentFormed f a → ArgumentTyped a → OperandWritable a.operand → ArgumentReadable a
argument_readable f a h t w = (h.0, operand_readable f a.reg a.operand h t w)

pub arguments_readable : (f : Function) (as' : List Argument) → Each (ArgumentFormed f) as' → Each ArgumentTyped as' → Each (λ a. OperandWritable a.operand) as' → Each ArgumentReadable as'
arguments_readable f [] h t w = tt
arguments_readable f (a ∷ as') h t w = (argument_readable f a h.0 t.0 w.0, arguments_readable f as' h.1 t.1 w.1)

-- the operands of an item with their types
all_readable : (f : Function) (item : Item) → ItemFormed f item → ItemTyped item → ItemWritable item → Each ArgumentReadable (operands item)
all_readable f item h t w =
    arguments_readable f (operands item) (recursion_from_All (ArgumentFormed f) (operands item) h.operands) t.operands (recursion_from_All (λ a. OperandWritable a.operand) (operands item) w.operands)

-- ---- phis

entries_readable : (reg : Reg) (is : List Incoming) → Each ArgumentReadable (taken_as reg is) → Each (λ e. IsSmall e.from) is → Each (IncomingReadable reg) is
entries_readable reg [] h s = tt
entries_readable reg (i ∷ is) h s = ((h.0.1, s.0), entries_readable reg is h.1 s.1)

some_readable : (reg : Reg) (is : List Incoming) → Each ArgumentReadable (taken_as reg is) → EntriesWritable is → EntriesReadable reg is
some_readable reg [] h w = absurd w
some_readable reg (i ∷ is) h w = entries_readable reg (i ∷ is) h (recursion_from_All (λ e. IsSmall e.from) (i ∷ is) w)

-- ---- instructions

without_end : {X : Type 0} (P : X → Type 0) (xs : List X) → Each P (xs ++ []) → Each P xs
without_end P [] h = tt
without_end P (x ∷ xs) h = (h.0, without_end P xs h.1)

instr_readable : (i : Instr) → InstrFormed i → InstrWritable i → Each ArgumentReadable (reads i ++ phi_reads i) → InstrReadable i
instr_readable (Binary op fs w x y) f k h = (f, h.0.0, h.0.1, h.1.0.1)
instr_readable (Icmp predicate reg x y) f k h = (h.0.0, h.0.1, h.1.0.1)
instr_readable (Cast op from x to) f k h = (h.0.0, h.0.1, f)
instr_readable (Select c x y) f k h = (h.0.1, h.1.0, h.1.1.0)
instr_readable (Freeze reg x) f k h = (h.0.0, h.0.1)
instr_readable (Alloca shape align) f k h = (record { shape = f.0; counts = k }, f.1)
instr_readable (Load reg address align) f k h = (f.0, h.0.1, f.1)
instr_readable (Store reg x address align) f k h = (f.0, h.0.1, h.1.0.1, f.1)
instr_readable (Address inbounds shape base indices) f k h = (record { shape = f; counts = k }, h.0.1, without_end ArgumentReadable indices h.1)
instr_readable (Call result callee arguments) f k h = absurd k
instr_readable (Phi reg edges) f k h = (f, some_readable reg edges h k)

-- ---- terminators

cases_readable : (cs : List Case) → Each CaseFormed cs → Each CaseTyped cs → Each IsSmall (map (λ c. c.target) cs) → Each CaseReadable cs
cases_readable [] h t s = tt
cases_readable (c ∷ cs) h t s = (
  record {
    reg = h.0.0;
    number = record { width = h.0.1; bits = h.0.2; typed = t.0 };
    target = s.0;
  },
  cases_readable cs h.1 t.1 s.1,
)

terminator_readable : (f : Function) (b : ℕ) (t : Terminator) → ItemFormed f (end_item b t) → ItemTyped (end_item b t) → Each IsSmall (successors t) → Each ArgumentReadable (end_reads t) → TerminatorReadable t
terminator_readable f b (Return None) h k s r = tt
terminator_readable f b (Return (Some a)) h k s r = r.0
terminator_readable f b (Jump n) h k s r = s.0
terminator_readable f b (Branch c if_true if_false) h k s r = (r.0.1, s.0, s.1.0)
terminator_readable f b (Switch w x default cs) h k s r =
    (r.0.0, r.0.1, s.0, cases_readable cs (recursion_from_All CaseFormed cs h.kind.0) k.kind s.1)
terminator_readable f b Unreachable h k s r = tt

pub typed_readable : (f : Function) (item : Item) → ItemFormed f item → ItemTyped item → ItemWritable item → ItemReadable item
typed_readable f (phi_item b p) h k w = (h.kind, some_readable p.reg p.incoming (all_readable f (phi_item b p) h k w) w.kind)
typed_readable f (line_item b n l) h k w = instr_readable l.instr h.kind.0 w.kind (all_readable f (line_item b n l) h k w)
typed_readable f (end_item b t) h k w = terminator_readable f b t h k (recursion_from_All IsSmall (successors t) w.kind) (all_readable f (end_item b t) h k w)

-- ---- the rule of types

one_type : (a b : Reg) → Some a ≡ Some b → a ≡ b
one_type a b e = cc

operand_typed : (f : Function) (reg : Reg) (x : Operand) → HasType f (typed reg x) → OperandTyped reg x
operand_typed f reg (Number width bits) t = inr (sym (one_type (Int width) reg t))
operand_typed f reg (Poison r) t = one_type r reg t
operand_typed f reg x t = tt

arguments_typed : (f : Function) (as' : List Argument) → Each (HasType f) as' → Each ArgumentTyped as'
arguments_typed f [] t = tt
arguments_typed f (a ∷ as') t = (operand_typed f a.reg a.operand t.0, arguments_typed f as' t.1)

cases_typed : (width : ℕ) (cs : List Case) → Each (CaseHas width) cs → Each CaseTyped cs
cases_typed width [] t = tt
cases_typed width (c ∷ cs) t = (inr (t.0.0 ∙ ap Int (sym t.0.1)), cases_typed width cs t.1)

end_typed : (f : Function) (t : Terminator) → EndTypes f t → EndTyped t
end_typed f (Switch w x default cs) k = cases_typed w cs (recursion_from_All (CaseHas w) cs k)
end_typed f t k = tt

kind_typed : (f : Function) (item : Item) → KindTypes f item → KindTyped item
kind_typed f (phi_item b p) k = tt
kind_typed f (line_item b n l) k = tt
kind_typed f (end_item b t) k = end_typed f t k

pub item_typed : (f : Function) (item : Item) → Keeps f TypeMismatch item → ItemTyped item
item_typed f item k = record { operands = arguments_typed f (operands item) (recursion_from_All (HasType f) (operands item) k.0); kind = kind_typed f item k.1 }

pub item_readable : (f : Function) (item : Item) → ItemFormed f item → Keeps f TypeMismatch item → ItemWritable item → ItemReadable item
item_readable f item h k w = typed_readable f item h (item_typed f item k) w
