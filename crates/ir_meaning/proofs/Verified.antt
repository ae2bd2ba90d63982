-- The global values of a module that was verified can be run.
use Rattle.std.proofs.Common.{ℕ}
use Rattle.std.specs.Prelude.{All}
use Rattle.std.proofs.lemmas.List.Elements.{All-weaker}
use Rattle.ir_tree.specs.Formed.{ArgumentFormed, IsReg, ItemFormed}
use Rattle.ir_tree.specs.Items.{Item, items, line_item, phi_reads, reads}
use Rattle.ir_tree.specs.Rules.{Keeps, Sound}
use Rattle.ir_tree.specs.Wholes.{GlobalFormed, GlobalSound, IsVerified}
use Rattle.ir_tree.specs.declared.block.Terminator.{Terminator}
use Rattle.ir_tree.specs.declared.function.Function.{Function}
use Rattle.ir_tree.specs.declared.instr.Line.{Line}
use Rattle.ir_tree.specs.declared.instr.Phi.{Phi}
use Rattle.ir_tree.specs.declared.module.GlobalValue.{GlobalValue}
use Rattle.ir_tree.specs.declared.module.GlobalValue.TheVariants as global
use Rattle.ir_tree.specs.declared.module.Module.{Module}
use Rattle.ir_tree.specs.declared.operand.Argument.{Argument}
use Rattle.ir_tree.specs.declared.rule.Rule.TheVariants.{Cast}
use Rattle.ir_meaning.specs.ProgramLaws.{VerifiedIsRunnable}
use Rattle.ir_meaning.specs.Runnable.{IsRunnableGlobal, IsRunnableBlock, IsRunnableFunction, IsRunnableInstr}
use Rattle.ir_meaning.proofs.Parts.{Parts, all_left, blocks_hold}

module _ (f : Function) where
  abbrev Kept : Item → Type 0
  Kept item = ItemFormed f item × Keeps f Cast item

  runnable_line : (b k : ℕ) (l : Line) → Kept (line_item b k l) → IsRunnableInstr l.instr
  runnable_line b k l h = record {
    operands = All-weaker (ArgumentFormed f) (λ (a : Argument). IsReg a.reg) (λ a x. x.0) (reads l.instr) (all_left (ArgumentFormed f) (reads l.instr) (phi_reads l.instr) h.0.operands);
    formed = h.0.kind.0;
    casts = h.1;
  }

  runnable_function : Sound f → IsRunnableFunction f
  runnable_function s =
      let kept : All Kept (items f) = λ i d l. (s.formed.items i d l, s.rules Cast i d l) in
      record {
        result = s.formed.result;
        params = s.formed.params;
        blocks = All-weaker (Parts Kept (λ (p : Phi). Unit {0}) (λ (l : Line). IsRunnableInstr l.instr) (λ (t : Terminator). Unit {0}) (λ b p h. tt) runnable_line (λ b t h. tt)) IsRunnableBlock (λ b h. h.1) f.blocks
            (blocks_hold Kept (λ (p : Phi). Unit {0}) (λ (l : Line). IsRunnableInstr l.instr) (λ (t : Terminator). Unit {0}) (λ b p h. tt) runnable_line (λ b t h. tt) 0 f.blocks kept);
      }

runnable_global : (g : GlobalValue) → GlobalFormed g → GlobalSound g → IsRunnableGlobal g
runnable_global (global.Variable v) f s = (f.shape.sized, s)
runnable_global (global.Function g) f s = runnable_function g s

pub runnable_globals : (m : Module) → IsVerified m → All IsRunnableGlobal m.globals
runnable_globals m v = λ i d l. runnable_global _ (v.whole.formed i d l) (v.sound i d l)

pub verified_runnable : VerifiedIsRunnable
verified_runnable m v = record { once = v.whole.once; each = runnable_globals m v }
