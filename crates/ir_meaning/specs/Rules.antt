-- Some rows of the rule table, and what a load of a stored value gives.
use Rattle.std.specs.Prelude.{◌≡◌, ℕ, ◌*◌, ◌/◌, ◌<◌}
use Rattle.ir_tree.specs.declared.instr.BinaryOp.{BinaryOp}
use Rattle.ir_tree.specs.declared.instr.BinaryOp.TheVariants.{Add}
use Rattle.ir_tree.specs.declared.instr.Flags.{Flags}
use Rattle.ir_tree.specs.declared.instr.Instr.TheVariants.{Binary, Freeze, Icmp, Select}
use Rattle.ir_tree.specs.declared.instr.Predicate.TheVariants.{Eq}
use Rattle.ir_tree.specs.declared.operand.Argument.{Argument}
use Rattle.ir_tree.specs.declared.operand.Operand.{Operand}
use Rattle.ir_tree.specs.declared.operand.Operand.TheVariants.{Number as Constant, Poison as PoisonOf}
use Rattle.ir_tree.specs.declared.operand.Reg.{Reg}
use Rattle.ir_tree.specs.declared.operand.Reg.TheVariants.{Int, Ptr}
use Rattle.ir_meaning.specs.Bytes.{read, stored_bytes}
use Rattle.ir_meaning.specs.Operate.{Answer, Is, Never, Unwritten, binary}
use Rattle.ir_meaning.specs.declared.value.Value.{Value}
use Rattle.ir_meaning.specs.declared.value.Value.TheVariants.{Number}
use Rattle.ir_meaning.specs.Facts.{RuleAlways, RuleSometimes, Stands}

-- the value may stand for what is read
abbrev pub StandsForRead : Value → Answer → Type 0
StandsForRead v (Is u) = Stands v u
StandsForRead v (Never cause) = ⊥
StandsForRead v Unwritten = ⊥

-- a type of whole bytes
abbrev pub IsStorable : Reg → Type 0
IsStorable (Int w) = (0 < w / 8) × (w / 8 * 8 ≡ w)
IsStorable Ptr = Unit {0}

pub record RuleRows : Type 0 where
  pub add_zero : (flags : Flags) (w : ℕ) (x : Operand) → RuleAlways (Binary Add flags w x (Constant w 0)) x
  pub equal_same : (reg : Reg) (x : Operand) → RuleAlways (Icmp Eq reg x x) (Constant 1 1)
  pub select_same : (c : Operand) (x : Argument) → RuleAlways (Select c x x) x.operand
  pub freeze_poison : (w : ℕ) (reg : Reg) → RuleSometimes (Freeze (Int w) (PoisonOf reg)) (Constant w 0)
  pub folded : (op : BinaryOp) (flags : Flags) (w a b c : ℕ) → binary op flags w (Number a) (Number b) ≡ Is (Number c) →
      RuleAlways (Binary op flags w (Constant w a) (Constant w b)) (Constant w c)
  pub read_back : (reg : Reg) → IsStorable reg → (v : Value) → StandsForRead v (read reg (stored_bytes reg v))
