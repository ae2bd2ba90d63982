-- Two edits, one after another, are one.
use Rattle.std.proofs.Common.{◌≡◌, ℕ, List, [], ◌∷◌, Option, Some, None, map, option_map, refl, ap}
use Rattle.ir_tree.specs.declared.block.Block.{Block}
use Rattle.ir_tree.specs.declared.block.Case.{Case}
use Rattle.ir_tree.specs.declared.block.Terminator.{Terminator}
use Rattle.ir_tree.specs.declared.block.Terminator.TheVariants.{Branch, Jump, Return, Switch, Unreachable}
use Rattle.ir_tree.specs.declared.instr.Incoming.{Incoming}
use Rattle.ir_tree.specs.declared.instr.Instr.{Instr}
use Rattle.ir_tree.specs.declared.instr.Instr.TheVariants.{Address, Alloca, Binary, Call, Cast, Freeze, Icmp, Load, Phi as StrayPhi, Select, Store}
use Rattle.ir_tree.specs.declared.instr.Line.{Line}
use Rattle.ir_tree.specs.declared.instr.Phi.{Phi}
use Rattle.ir_tree.specs.declared.operand.Argument.{Argument}
use Rattle.ir_tree.specs.declared.operand.Operand.{Operand}
use Rattle.ir_tree.specs.Edited.{argument_edited, block_edited, case_edited, end_edited, incoming_edited, instr_edited, line_edited, phi_edited}

-- a map of a map
pub map_twice : {A B C : Type 0} (f : B → C) (g : A → B) (h : A → C) → ((x : A) → f (g x) ≡ h x) → (xs : List A) → map f (map g xs) ≡ map h xs
map_twice f g h e [] = refl
map_twice f g h e (x ∷ xs) = λ i. e x i ∷ map_twice f g h e xs i

option_twice : {A B C : Type 0} (f : B → C) (g : A → B) (h : A → C) → ((x : A) → f (g x) ≡ h x) → (o : Option A) → option_map f (option_map g o) ≡ option_map h o
option_twice f g h e None = refl
option_twice f g h e (Some x) = ap (λ y. Some y) (e x)

module _ (m n : ℕ → ℕ) (p o : Operand → Operand) where
  abbrev number : ℕ → ℕ
  number x = m (n x)

  abbrev operand : Operand → Operand
  operand x = p (o x)

  arguments_twice : (as' : List Argument) → map (argument_edited p) (map (argument_edited o) as') ≡ map (argument_edited operand) as'
  arguments_twice as' = map_twice (argument_edited p) (argument_edited o) (argument_edited operand) (λ a. refl) as'

  edges_twice : (es : List Incoming) → map (incoming_edited m p) (map (incoming_edited n o) es) ≡ map (incoming_edited number operand) es
  edges_twice es = map_twice (incoming_edited m p) (incoming_edited n o) (incoming_edited number operand) (λ e. refl) es

  instr_twice : (i : Instr) → instr_edited m p (instr_edited n o i) ≡ instr_edited number operand i
  instr_twice (Binary op flags width left right) = refl
  instr_twice (Icmp predicate reg left right) = refl
  instr_twice (Cast op from value to) = refl
  instr_twice (Select condition if_true if_false) = refl
  instr_twice (Freeze reg value) = refl
  instr_twice (Alloca shape align) = refl
  instr_twice (Load reg address align) = refl
  instr_twice (Store reg value address align) = refl
  instr_twice (Address inbounds shape base indices) = ap (λ (l : List Argument). Address inbounds shape (operand base) l) (arguments_twice indices)
  instr_twice (Call result callee arguments) = ap (λ (l : List Argument). Call result (operand callee) l) (arguments_twice arguments)
  instr_twice (StrayPhi reg incoming) = ap (λ (l : List Incoming). StrayPhi reg l) (edges_twice incoming)

  line_twice : (l : Line) → line_edited m p (line_edited n o l) ≡ line_edited number operand l
  line_twice l = λ i. record { local = option_twice m n number (λ x. refl) l.local i; instr = instr_twice l.instr i }

  phi_twice : (x : Phi) → phi_edited m p (phi_edited n o x) ≡ phi_edited number operand x
  phi_twice x = λ i. record { local = number x.local; reg = x.reg; incoming = edges_twice x.incoming i }

  end_twice : (e : Terminator) → end_edited m p (end_edited n o e) ≡ end_edited number operand e
  end_twice (Return value) = ap (λ (a : Option Argument). Return a) (option_twice (argument_edited p) (argument_edited o) (argument_edited operand) (λ a. refl) value)
  end_twice (Jump target) = refl
  end_twice (Branch condition if_true if_false) = refl
  end_twice (Switch width value default cases) =
      ap (λ (l : List Case). Switch width (operand value) (number default) l) (map_twice (case_edited m) (case_edited n) (case_edited number) (λ c. refl) cases)
  end_twice Unreachable = refl

  pub block_twice : (b : Block) → block_edited m p (block_edited n o b) ≡ block_edited number operand b
  block_twice b = λ i. record {
    number = number b.number;
    phis = map_twice (phi_edited m p) (phi_edited n o) (phi_edited number operand) phi_twice b.phis i;
    lines = map_twice (line_edited m p) (line_edited n o) (line_edited number operand) line_twice b.lines i;
    end = end_twice b.end i;
  }

  pub blocks_twice : (bs : List Block) → map (block_edited m p) (map (block_edited n o) bs) ≡ map (block_edited number operand) bs
  blocks_twice bs = map_twice (block_edited m p) (block_edited n o) (block_edited number operand) block_twice bs
