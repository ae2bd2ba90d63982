-- Functions that can be run have sound instructions.
use Rattle.std.proofs.Common.{inl, inr, ℕ, ◌≤◌, ◌^◌, List, [], ◌∷◌, sym, subst, arith}
use Rattle.std.specs.Prelude.{All}
use Rattle.std.proofs.lemmas.List.Elements.{All-head, All-tail, All-weaker}
use Rattle.std.proofs.Math.Pow.{pow_mono}
use Rattle.ir_tree.specs.Formed.{InstrFormed, IsAlignment, IsReg, IsScalar, IsStored}
use Rattle.ir_tree.specs.Items.{reads, typed}
use Rattle.ir_tree.specs.Rules.{CastFits, LineCasts}
use Rattle.ir_tree.specs.declared.block.Block.{Block}
use Rattle.ir_tree.specs.declared.function.Function.{Function}
use Rattle.ir_tree.specs.declared.instr.CastOp.{CastOp}
use Rattle.ir_tree.specs.declared.instr.CastOp.TheVariants.{Sext, Trunc, Zext}
use Rattle.ir_tree.specs.declared.instr.Instr.{Instr}
use Rattle.ir_tree.specs.declared.instr.Instr.TheVariants as kind
use Rattle.ir_tree.specs.declared.instr.Line.{Line}
use Rattle.ir_tree.specs.declared.operand.Argument.{Argument}
use Rattle.ir_tree.specs.declared.operand.Reg.{Reg}
use Rattle.ir_tree.specs.declared.operand.Reg.TheVariants.{Int, Ptr}
use Rattle.ir_machine.specs.Marks.{HasWidth}
use Rattle.ir_interp.specs.Tasks.{IsSoundCast}
use Rattle.ir_meaning.specs.Runnable.{IsRunnableBlock, IsRunnableFunction, IsRunnableInstr}
use Rattle.machine_code.specs.Blocks.{HasSoundInstrs, IsSoundBlock}
use Rattle.machine_code.specs.Tasks.{IsSoundInstr}

-- ---- instructions

reg_width : (r : Reg) → IsReg r → HasWidth r
reg_width (Int w) h = h
reg_width Ptr h = tt

stored_width : (r : Reg) → IsScalar r → HasWidth r
stored_width (Int w) h = by h where
  by : IsStored w → HasWidth (Int w)
  by (inl e) = (omega (arith, e), omega (arith, e))
  by (inr (inl e)) = (omega (arith, e), omega (arith, e))
  by (inr (inr (inl e))) = (omega (arith, e), omega (arith, e))
  by (inr (inr (inr e))) = (omega (arith, e), omega (arith, e))
stored_width Ptr h = tt

alignment_one : (a : ℕ) → IsAlignment a → 1 ≤ a
alignment_one a h = let least : 2 ^ 0 ≤ 2 ^ h.0 = pow_mono {i = 0} {j = h.0} (omega arith) in subst (λ (n : ℕ). 1 ≤ n) (sym h.2) least

sound_cast : (op : CastOp) (from to : Reg) → IsReg from → IsReg to → CastFits op from to → IsSoundCast op from to
sound_cast Zext (Int v) (Int w) f g h = (f.0, f.1, g.0, g.1, omega (arith, h))
sound_cast Sext (Int v) (Int w) f g h = (f.0, f.1, g.0, g.1, omega (arith, h))
sound_cast Trunc (Int v) (Int w) f g h = (f.0, f.1, g.0, g.1, tt)
sound_cast op Ptr to f g h = tt
sound_cast op (Int v) Ptr f g h = tt

first : (a : Argument) (rest : List Argument) → All (λ (x : Argument). IsReg x.reg) (a ∷ rest) → IsReg a.reg
first a rest h = All-head (λ (x : Argument). IsReg x.reg) a rest h

sound_instr : (i : Instr) → All (λ (a : Argument). IsReg a.reg) (reads i) → InstrFormed i → LineCasts i → IsSoundInstr i
sound_instr (kind.Binary op flags w left right) h g c = first (typed (Int w) left) (typed (Int w) right ∷ []) h
sound_instr (kind.Icmp p reg left right) h g c = reg_width reg (first (typed reg left) (typed reg right ∷ []) h)
sound_instr (kind.Cast op from value to) h g c = sound_cast op from to (first (typed from value) [] h) g c
sound_instr (kind.Select condition a b) h g c = tt
sound_instr (kind.Freeze reg value) h g c = reg_width reg (first (typed reg value) [] h)
sound_instr (kind.Alloca shape align) h g c = g.0.sized
sound_instr (kind.Load reg address align) h g c = (stored_width reg g.0, alignment_one align g.1)
sound_instr (kind.Store reg value address align) h g c = (stored_width reg g.0, alignment_one align g.1)
sound_instr (kind.Address inbounds shape base indices) h g c =
    (g.sized, All-weaker (λ (a : Argument). IsReg a.reg) (λ (a : Argument). HasWidth a.reg) (λ a k. reg_width a.reg k) indices (All-tail (λ (a : Argument). IsReg a.reg) (typed Ptr base) indices h))
sound_instr (kind.Call result callee arguments) h g c = tt
sound_instr (kind.Phi reg incoming) h g c = tt

sound_block : (b : Block) → IsRunnableBlock b → IsSoundBlock b
sound_block b h = All-weaker (λ (l : Line). IsRunnableInstr l.instr) (λ (l : Line). IsSoundInstr l.instr) (λ l r. sound_instr l.instr r.operands r.formed r.casts) b.lines h

pub sound_instrs : (f : Function) → IsRunnableFunction f → HasSoundInstrs f
sound_instrs f h = All-weaker IsRunnableBlock IsSoundBlock sound_block f.blocks h.blocks
