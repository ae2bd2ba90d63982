-- What the candidates of phis and of instructions are.
use Rattle.std.specs.Prelude.{◌≡◌, ◌↔◌, ◌⊎◌, ℕ, false, List, map, Some, All, Contains}
use Rattle.ir_tree.specs.Formed.{Formed}
use Rattle.ir_tree.specs.declared.function.Function.{Function}
use Rattle.ir_tree.specs.declared.instr.Instr.{Instr}
use Rattle.ir_tree.specs.declared.instr.Phi.{Phi}
use Rattle.ir_tree.specs.declared.operand.Operand.{Operand}
use Rattle.ir_tree.specs.declared.operand.Operand.TheVariants.{Local}
use Rattle.ir_meaning.specs.Table.{may_choose}
use Rattle.ir_meaning.specs.Facts.{RuleAlways, RuleSometimes, edge_operand, is_local, is_phi_operand}
use Rattle.ir_facts.specs.Askable.{BlocksHaveWidths}
use Rattle.ir_facts.specs.Candidates.{line_source, phi_source}

-- what a phi takes, entry by entry
abbrev pub operands_of : Phi → List Operand
operands_of p = map (λ e. e.value) p.incoming

-- the one operand that a phi takes beside its own value, which is no phi of the same block
pub record IsSoleOperand (ps : List Phi) (p : Phi) (v : Operand) : Type 0 where
  pub taken : Contains (operands_of p) v
  pub alone : All (λ o. (o ≡ v) ⊎ (o ≡ Local p.local)) (operands_of p)
  pub other : v ≡ Local p.local → ⊥
  pub outside : is_phi_operand v ps ≡ false

abbrev pub PhiSourcesAreSole : Type 0
PhiSourcesAreSole = (ps : List Phi) (p : Phi) (v : Operand) → (phi_source ps p ≡ Some v) ↔ IsSoleOperand ps p v

-- another operand than the phi's own local and no phi of the same block, which the phi takes on each edge where it doesn't take its own local
pub record IsPhiSource (ps : List Phi) (p : Phi) (v : Operand) : Type 0 where
  pub other : is_local p.local v ≡ false
  pub outside : is_phi_operand v ps ≡ false
  pub entries : (from : ℕ) (o : Operand) → edge_operand from p.incoming ≡ Some o → (o ≡ v) ⊎ (o ≡ Local p.local)

abbrev pub PhiSourcesRight : Type 0
PhiSourcesRight = (ps : List Phi) (p : Phi) (v : Operand) → phi_source ps p ≡ Some v → IsPhiSource ps p v

-- another operand than the instruction's own local, which may stand for what it gives under some free choice, and always where it makes none
pub record IsLineSource (x : ℕ) (i : Instr) (v : Operand) : Type 0 where
  pub other : is_local x v ≡ false
  pub sometimes : RuleSometimes i v
  pub always : may_choose i ≡ false → RuleAlways i v

abbrev pub LineSourcesRight : Type 0
LineSourcesRight = (x : ℕ) (i : Instr) (v : Operand) → line_source x i ≡ Some v → IsLineSource x i v

abbrev pub FormedHaveWidths : Type 0
FormedHaveWidths = (f : Function) → Formed f → BlocksHaveWidths f.blocks
