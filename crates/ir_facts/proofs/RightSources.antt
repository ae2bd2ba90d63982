-- What may stand for locals, line by line and phi by phi.
use Rattle.std.proofs.Common.{◌≡◌, ℕ, ◌<◌, false, List, [], ◌∷◌, Option, Some, None, ◌⊎◌}
use Rattle.std.specs.Prelude.{slice_get}
use Rattle.ir_tree.specs.Flow.{holds, locals, parameters, room}
use Rattle.ir_tree.specs.declared.block.Block.{Block}
use Rattle.ir_tree.specs.declared.function.Function.{Function}
use Rattle.ir_tree.specs.declared.instr.Incoming.{Incoming}
use Rattle.ir_tree.specs.declared.instr.Instr.{Instr}
use Rattle.ir_tree.specs.declared.instr.Line.{Line}
use Rattle.ir_tree.specs.declared.instr.Phi.{Phi}
use Rattle.ir_tree.specs.declared.operand.Operand.{Operand}
use Rattle.ir_tree.specs.declared.operand.Operand.TheVariants.{Local}
use Rattle.ir_meaning.specs.Table.{rule}
use Rattle.ir_meaning.specs.Facts.{is_local}
use Rattle.ir_facts.specs.SourceLaws.{IsPhiSource}

abbrev pub IsTaken : Operand → List Incoming → Type 0
IsTaken v [] = ⊥
IsTaken v (e ∷ es) = (e.value ≡ v) ⊎ IsTaken v es

-- what stands for an instruction's local is its row's operand
abbrev pub LineSource : (ℕ → Option Operand) → Option ℕ → Instr → Type 0
LineSource c None i = Unit {0}
LineSource c (Some y) i = (v : Operand) → c y ≡ Some v → (rule i ≡ Some v) × (is_local y v ≡ false)

abbrev pub LineSources : (ℕ → Option Operand) → List Line → Type 0
LineSources c [] = Unit {0}
LineSources c (l ∷ ls) = LineSource c l.local l.instr × LineSources c ls

abbrev pub PhiSources : (ℕ → Option Operand) → List Phi → List Phi → Type 0
PhiSources c all [] = Unit {0}
PhiSources c all (p ∷ ps) = ((v : Operand) → c p.local ≡ Some v → IsPhiSource all p v × IsTaken v p.incoming) × PhiSources c all ps

pub record AreSources (c : ℕ → Option Operand) (f : Function) : Type 0 where
  pub lines : (p : ℕ) (b : Block) → slice_get f.blocks p ≡ Some b → LineSources c b.lines
  pub phis : (p : ℕ) (b : Block) → slice_get f.blocks p ≡ Some b → PhiSources c b.phis b.phis
  pub params : (x : ℕ) (v : Operand) → c x ≡ Some v → holds (parameters f) x ≡ false
  pub within : (x z : ℕ) → c x ≡ Some (Local z) → z < room (locals f)
