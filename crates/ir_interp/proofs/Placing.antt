-- The number of the instruction at which a frame is.
use Rattle.std.proofs.Common.{◌≡◌, ℕ, ◌+◌, ◌-◌, ◌<◌, ◌^◌, length, Some, sym, ap, subst, ◌∙◌, arith, List}
use Rattle.ir_tree.specs.declared.operand.Symbol.{Symbol}
use Rattle.ir_meaning.specs.Frame.{Frame as MeantFrame}
use Rattle.ir_meaning.specs.Program.{Program, numbered, place_of}
use Rattle.ir_machine.specs.Meant.{symbol_at}
use Rattle.ir_interp.specs.Code.{IsBlock, IsCode, block_of, counted_before}
use Rattle.ir_interp.specs.Frames.{IsStanding}
use Rattle.ir_interp.specs.Steps.{place_meant}
use Rattle.ir_interp.specs.declared.code.Block.{Block}
use Rattle.ir_interp.specs.declared.code.Code.{Code}
use Rattle.ir_interp.proofs.Blocks.{code_block, code_function}
use Rattle.ir_interp.proofs.Positions.{dropped_length, numbered_at}

standing_block : (names : List Symbol) (p : Program) (code : Code) (d : MeantFrame) (i q line : ℕ) (c : Block) → IsCode names p code → i < length names → p.code (symbol_at names i) ≡ Some d.function → (s : IsStanding d.function.blocks d q line) →
    block_of code i q ≡ Some c → IsBlock names p.signature d.function.blocks q s.block c
standing_block names p code d i q line c is l e s here =
    let got = code_block names p code i q d.function s.block is l e s.here in
    let same : got.0 ≡ c = cc (sym got.1.0 ∙ here) in
    subst (λ (x : Block). IsBlock names p.signature d.function.blocks q s.block x) same got.1.1

pub short_place : (names : List Symbol) (p : Program) (code : Code) (d : MeantFrame) (i q line : ℕ) (c : Block) → IsCode names p code → i < length names → p.code (symbol_at names i) ≡ Some d.function → IsStanding d.function.blocks d q line →
    block_of code i q ≡ Some c → c.before + line + 1 < 2 ^ 64
short_place names p code d i q line c is l e s here =
    let b = standing_block names p code d i q line c is l e s here in
    omega (arith, b.short, s.within)

pub placed : (names : List Symbol) (p : Program) (code : Code) (d : MeantFrame) (i q line : ℕ) (c : Block) (instruction : ℕ) → IsCode names p code → i < length names → p.code (symbol_at names i) ≡ Some d.function →
    IsStanding d.function.blocks d q line → block_of code i q ≡ Some c → instruction ≡ c.before + line + 1 → place_meant names (record { function = i; instruction = instruction }) ≡ place_of d
placed names p code d i q line c instruction is l e s here n =
    let b = standing_block names p code d i q line c is l e s here in
    let left : length d.rest ≡ length s.block.lines - line = ap length s.rest ∙ dropped_length s.block.lines line in
    let symbol = (code_function names p code i d.function is l e).1.1.symbol in
    let number : numbered d.function.blocks d.block (length d.rest) ≡ counted_before d.function.blocks q + length s.block.phis + (length s.block.lines - length d.rest) + 1 =
    ap (λ (k : ℕ). numbered d.function.blocks k (length d.rest)) s.number ∙ numbered_at d.function.blocks q s.block (length d.rest) s.here s.first in
    let same : instruction ≡ numbered d.function.blocks d.block (length d.rest) = omega (arith, number, left, n, b.before, s.within) in
    λ j. record { symbol = sym symbol j; instruction = same j }
