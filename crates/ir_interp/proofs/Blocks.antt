-- The block of the code for a block of the definition.
use Rattle.std.proofs.Common.{◌≡◌, ℕ, ◌<◌, List, length, slice_get, Option, Some, None, refl, ap, subst, ◌∙◌, arith}
use Rattle.ir_tree.specs.declared.block.Block.{Block as MeantBlock}
use Rattle.ir_tree.specs.declared.function.Function.{Function as MeantFunction}
use Rattle.ir_tree.specs.declared.operand.Symbol.{Symbol}
use Rattle.ir_meaning.specs.Program.{Program}
use Rattle.ir_machine.specs.Meant.{symbol_at}
use Rattle.ir_interp.specs.Code.{IsBlock, IsBody, IsCode, IsFunction, block_in, block_of, function_in, function_of}
use Rattle.ir_interp.specs.declared.code.Block.{Block}
use Rattle.ir_interp.specs.declared.code.Code.{Code}
use Rattle.ir_interp.specs.declared.code.Function.{Function}
use Rattle.ir_interp.proofs.Positions.{below_length, none_past, past_length, there}

-- the code of a function that the program has
pub code_function : (names : List Symbol) (p : Program) (code : Code) (i : ℕ) (f : MeantFunction) → IsCode names p code → i < length names → p.code (symbol_at names i) ≡ Some f →
    (g : Function) × ((function_of code i ≡ Some g) × IsFunction names p.signature code i f g)
code_function names p code i f c l e = by (function_of code i) refl (subst (λ (o : Option MeantFunction). IsBody names p.signature code i o (function_of code i)) e (c.bodies i l)) where
  by : (o : Option Function) → function_of code i ≡ o → IsBody names p.signature code i (Some f) o → (g : Function) × ((function_of code i ≡ Some g) × IsFunction names p.signature code i f g)
  by None h b = absurd b
  by (Some g) h b = (g, (h, b))

-- code that is there is of a function of the program
pub program_function : (names : List Symbol) (p : Program) (code : Code) (i : ℕ) (g : Function) → IsCode names p code → function_of code i ≡ Some g →
    (f : MeantFunction) × ((i < length names) × (p.code (symbol_at names i) ≡ Some f) × IsFunction names p.signature code i f g)
program_function names p code i g c e = by (p.code (symbol_at names i)) refl (subst (λ (o : Option Function). IsBody names p.signature code i (p.code (symbol_at names i)) o) e (c.bodies i within)) where
  inside : (o : Option (Option Function)) → slice_get code.functions.items i ≡ o → function_in o ≡ Some g → i < length code.functions.items
  inside None h x = absurd (cc x)
  inside (Some o) h x = below_length code.functions.items i o h

  within : i < length names
  within = let l = inside (slice_get code.functions.items i) refl e in omega (arith, l, c.long)

  by : (o : Option MeantFunction) → p.code (symbol_at names i) ≡ o → IsBody names p.signature code i o (Some g) →
      (f : MeantFunction) × ((i < length names) × (p.code (symbol_at names i) ≡ Some f) × IsFunction names p.signature code i f g)
  by None h b = absurd b
  by (Some f) h b = (f, (within, h, b))

-- where there is no code the program has no function
pub no_function : (names : List Symbol) (p : Program) (code : Code) (i : ℕ) → IsCode names p code → i < length names → function_of code i ≡ None → p.code (symbol_at names i) ≡ None
no_function names p code i c l e = by (p.code (symbol_at names i)) refl (subst (λ (o : Option Function). IsBody names p.signature code i (p.code (symbol_at names i)) o) e (c.bodies i l)) where
  by : (o : Option MeantFunction) → p.code (symbol_at names i) ≡ o → IsBody names p.signature code i o None → p.code (symbol_at names i) ≡ None
  by None h b = h
  by (Some f) h b = absurd b

-- the block of the code at the position of a block
pub code_block : (names : List Symbol) (p : Program) (code : Code) (i q : ℕ) (f : MeantFunction) (b : MeantBlock) → IsCode names p code → i < length names → p.code (symbol_at names i) ≡ Some f →
    slice_get f.blocks q ≡ Some b → (c : Block) × ((block_of code i q ≡ Some c) × IsBlock names p.signature f.blocks q b c)
code_block names p code i q f b is l e h =
    let g = code_function names p code i f is l e in
    let within = below_length f.blocks q b h in
    let c = there g.0.blocks.items q (omega (arith, within, g.1.1.long)) in
    (c.0, (ap (λ (o : Option Function). block_in o q) g.1.0 ∙ c.1, g.1.1.blocks q b c.0 h c.1))

pub no_block : (names : List Symbol) (p : Program) (code : Code) (i q : ℕ) (f : MeantFunction) → IsCode names p code → i < length names → p.code (symbol_at names i) ≡ Some f →
    slice_get f.blocks q ≡ None → block_of code i q ≡ None
no_block names p code i q f is l e h =
    let g = code_function names p code i f is l e in
    let past = past_length f.blocks q h in
    ap (λ (o : Option Function). block_in o q) g.1.0 ∙ none_past g.0.blocks.items q (omega (arith, past, g.1.1.long))
