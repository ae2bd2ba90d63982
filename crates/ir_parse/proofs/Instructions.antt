-- Instructions that the grammar spells: on integers, on any values, loads and stores.
use Rattle.std.proofs.Common.{◌≡◌, ℕ, Bool, true, false, inl, inr, List, [], ◌∷◌, Option, None, refl, arith}
use Rattle.std.specs.List.{fold}
use Rattle.ir_lex.specs.Tok.{Tok}
use Rattle.ir_parse_bodies.specs.Instructions.{casting, comparing, dividing, extending, flags, freezing, joining, loading, narrowing, no_flags, on_two, selecting, storing, with_wrap, wrapping, wraps}
use Rattle.ir_parse_operands.specs.ShapeForms.{memory_shape}
use Rattle.ir_parse_parts.specs.declared.raw.Instr.{Instr}
use Rattle.ir_tree.specs.Formed.{FlagsFormed, IsReg, IsScalar, IsStored, IsWidth}
use Rattle.ir_tree.specs.declared.instr.BinaryOp.{BinaryOp}
use Rattle.ir_tree.specs.declared.instr.BinaryOp.TheVariants as ops
use Rattle.ir_tree.specs.declared.instr.CastOp.{CastOp}
use Rattle.ir_tree.specs.declared.instr.Flags.{Flags}
use Rattle.ir_tree.specs.declared.operand.Reg.{Reg}
use Rattle.ir_tree.specs.declared.operand.Reg.TheVariants.{Int, Ptr}
use Rattle.ir_parse.specs.Written.{InstrWritten, NameWritten}
use Rattle.ir_parse.proofs.Alignments.{align_written}
use Rattle.ir_parse.proofs.Means.{Means, follow, nothing, skip}
use Rattle.ir_parse.proofs.Operands.{argument_written, bit_written, integer_written, operand_written, reg_written, scalar_written}

-- an instruction that may stand behind this name, or without one
abbrev pub Named : Option Tok → Instr → Type 0
Named name i = InstrWritten i × NameWritten i name

-- ---- integers in memory

pub stored_width : (w : ℕ) → IsStored w → IsWidth w
stored_width w (inl e) = (omega arith, omega arith)
stored_width w (inr (inl e)) = (omega arith, omega arith)
stored_width w (inr (inr (inl e))) = (omega arith, omega arith)
stored_width w (inr (inr (inr e))) = (omega arith, omega arith)

scalar_reg : (r : Reg) → IsScalar r → IsReg r
scalar_reg (Int w) h = stored_width w h
scalar_reg Ptr h = tt

-- ---- flags

-- no `nuw` or `nsw` makes an operation exact
stays_inexact : (f : Flags) (fs : List Bool) → f.exact ≡ false → (fold with_wrap f fs).exact ≡ false
stays_inexact f [] h = h
stays_inexact f (true ∷ fs) h = stays_inexact (with_wrap f true) fs h
stays_inexact f (false ∷ fs) h = stays_inexact (with_wrap f false) fs h

wraps_written : Means wraps (λ f. f.exact ≡ false)
unfolding wraps
wraps_written = skip _ (λ fs. nothing (stays_inexact no_flags fs refl))

module _ (name : Option Tok) where
  -- ---- on integers

  pub on_two_written : (op : BinaryOp) (f : Flags) → FlagsFormed op f → Means (on_two memory_shape op f) (Named name)
  unfolding on_two
  on_two_written op f formed =
      follow integer_written (λ w h. follow (operand_written memory_shape (Int w) h) (λ left g. skip _ (λ _. follow (operand_written memory_shape (Int w) h) (λ right k. nothing ((formed, h, g, k), tt)))))

  pub wrapping_written : (op : BinaryOp) → ((f : Flags) → f.exact ≡ false → FlagsFormed op f) → Means (wrapping memory_shape op) (Named name)
  unfolding wrapping
  wrapping_written op suits = follow wraps_written (λ f h. on_two_written op f (suits f h))

  pub dividing_written : (op : BinaryOp) → ((exact : Bool) → FlagsFormed op (flags false false exact)) → Means (dividing memory_shape op) (Named name)
  unfolding dividing
  dividing_written op suits = skip _ (λ exact. on_two_written op (flags false false exact) (suits exact))

  pub joining_written : Means (joining memory_shape) (Named name)
  unfolding joining
  joining_written = skip _ (λ _. on_two_written ops.Or no_flags (refl, refl, refl))

  pub comparing_written : Means (comparing memory_shape) (Named name)
  unfolding comparing
  comparing_written =
      skip _ (λ _. skip _ (λ p. follow reg_written (λ r h. follow (operand_written memory_shape r h) (λ left g. skip _ (λ _. follow (operand_written memory_shape r h) (λ right k. nothing ((h, g, k), tt)))))))

  pub casting_written : (op : CastOp) → Means (casting memory_shape op) (Named name)
  unfolding casting
  casting_written op = follow reg_written (λ from h. follow (operand_written memory_shape from h) (λ value g. skip _ (λ _. follow reg_written (λ to k. nothing ((h, g, k), tt)))))

  pub extending_written : (op : CastOp) → Means (extending memory_shape op) (Named name)
  unfolding extending
  extending_written op = skip _ (λ _. casting_written op)

  pub narrowing_written : (op : CastOp) → Means (narrowing memory_shape op) (Named name)
  unfolding narrowing
  narrowing_written op = skip _ (λ _. casting_written op)

  -- ---- on any values

  pub selecting_written : Means (selecting memory_shape) (Named name)
  unfolding selecting
  selecting_written =
      follow bit_written (λ w h.
      follow (operand_written memory_shape (Int w) h) (λ condition g.
      skip _ (λ _. follow (argument_written memory_shape) (λ one k. skip _ (λ _. follow (argument_written memory_shape) (λ other l. nothing ((g, k, l), tt)))))))

  pub freezing_written : Means (freezing memory_shape) (Named name)
  unfolding freezing
  freezing_written = follow reg_written (λ r h. follow (operand_written memory_shape r h) (λ value g. nothing ((h, g), tt)))

  -- ---- memory

  pub loading_written : Means (loading memory_shape) (Named name)
  unfolding loading
  loading_written =
      follow scalar_written (λ r h. skip _ (λ _. skip _ (λ _. follow (operand_written memory_shape Ptr tt) (λ address g. follow align_written (λ n k. nothing ((h, g, k), tt))))))

-- a store gives nothing to name
pub storing_written : Means (storing memory_shape) (Named None)
unfolding storing
storing_written =
    follow scalar_written (λ r h.
    follow (operand_written memory_shape r (scalar_reg r h)) (λ value g.
    skip _ (λ _. skip _ (λ _. follow (operand_written memory_shape Ptr tt) (λ address k. follow align_written (λ n l. nothing ((h, g, k, l), refl)))))))
