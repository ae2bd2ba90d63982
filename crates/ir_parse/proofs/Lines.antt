-- Instructions by their first words, and lines with names, that the grammar spells.
use Rattle.std.proofs.Common.{◌≡◌, ℕ, Bool, true, false, Option, Some, None, refl, sym, subst}
use Rattle.std.specs.Prelude.{IfSome}
use Rattle.ir_parse_bodies.specs.Lines.{GIVING, attended, behind, kept, line, line_behind, lined, named_line, opcode_by, operation, plain_line}
use Rattle.ir_parse_bodies.specs.declared.opcodes.Opcode.{Opcode}
use Rattle.ir_parse_bodies.specs.declared.opcodes.Opcode.TheVariants as opcodes
use Rattle.ir_parse_bodies.specs.declared.opcodes.Operation.{Operation}
use Rattle.ir_parse_bodies.specs.declared.opcodes.Operation.TheVariants as operations
use Rattle.ir_lex.specs.TokenKinds.{number}
use Rattle.ir_lex.specs.Tok.{Tok}
use Rattle.ir_lex.specs.declared.token_kind.TokenKind.{TokenKind}
use Rattle.ir_lex.specs.declared.token_kind.TokenKind.TheVariants as kinds
use Rattle.ir_parse_parts.specs.Alphabet.{contains}
use Rattle.ir_parse_parts.specs.Forms.{Form}
use Rattle.ir_parse_operands.specs.Addressing.{slots_fit}
use Rattle.ir_parse_bodies.specs.Instructions.{flags, no_flags, storing}
use Rattle.ir_parse_operands.specs.ShapeForms.{memory_shape}
use Rattle.ir_parse_parts.specs.declared.raw.Instr.{Instr}
use Rattle.ir_tree.specs.Formed.{FlagsFormed}
use Rattle.ir_tree.specs.declared.instr.CastOp.TheVariants as casts
use Rattle.ir_tree.specs.declared.instr.Flags.{Flags}
use Rattle.ir_parse.specs.Written.{LineWritten}
use Rattle.ir_parse.proofs.Addresses.{addressing_written, reserving_written}
use Rattle.ir_parse.proofs.Calls.{calling_written, tail_calling_written}
use Rattle.ir_parse.proofs.Exchanged.{differ}
use Rattle.ir_parse.proofs.Instructions.{Named, casting_written, comparing_written, dividing_written, extending_written, freezing_written, joining_written, loading_written, narrowing_written, on_two_written, selecting_written, storing_written, wrapping_written}
use Rattle.ir_parse.proofs.Means.{Means, among_means, either_means, follow, nothing, skip}
use Rattle.ir_parse.proofs.Phis.{phi_written}

-- ---- first words

-- the flags that may stand behind it suit the operation
abbrev Suits : Operation → Type 0
Suits (operations.Wrapping op) = (f : Flags) → f.exact ≡ false → FlagsFormed op f
Suits (operations.Dividing op) = (exact : Bool) → FlagsFormed op (flags false false exact)
Suits (operations.Plain op) = FlagsFormed op no_flags
Suits _ = Unit {0}

abbrev OpcodeSuits : Opcode → Type 0
OpcodeSuits (opcodes.Value o) = Suits o
OpcodeSuits _ = Unit {0}

suits_by : (h : TokenKind) → OpcodeSuits (opcode_by h)
suits_by kinds.Add = λ f e. e
suits_by kinds.Sub = λ f e. e
suits_by kinds.Mul = λ f e. e
suits_by kinds.Shl = λ f e. e
suits_by kinds.Udiv = λ exact. (refl, refl)
suits_by kinds.Sdiv = λ exact. (refl, refl)
suits_by kinds.Lshr = λ exact. (refl, refl)
suits_by kinds.Ashr = λ exact. (refl, refl)
suits_by kinds.Urem = (refl, refl, refl)
suits_by kinds.Srem = (refl, refl, refl)
suits_by kinds.And = (refl, refl, refl)
suits_by kinds.Xor = (refl, refl, refl)
suits_by h = tt

-- it may stand behind this name, or without one
abbrev Fits : Option Tok → Opcode → Type 0
Fits name opcodes.Store = name ≡ None
Fits name _ = Unit {0}

fits_none : (o : Opcode) → Fits None o
fits_none opcodes.Store = refl
fits_none o = tt

fits_by : (name : Option Tok) (h : TokenKind) → contains GIVING (number h) ≡ true → Fits name (opcode_by h)
fits_by name kinds.Store c = absurd (differ c)
fits_by name h c = tt

-- ---- what follows them

module _ (name : Option Tok) where
  operation_written : (o : Operation) → Suits o → Means (operation memory_shape o) (Named name)
  operation_written (operations.Wrapping op) h = wrapping_written name op h
  operation_written (operations.Dividing op) h = dividing_written name op h
  operation_written (operations.Plain op) h = on_two_written name op no_flags h
  operation_written operations.Or h = joining_written name
  operation_written operations.Icmp h = comparing_written name
  operation_written operations.Zext h = extending_written name casts.Zext
  operation_written operations.Sext h = casting_written name casts.Sext
  operation_written operations.Trunc h = narrowing_written name casts.Trunc
  operation_written operations.Select h = selecting_written name
  operation_written operations.Freeze h = freezing_written name

  attended_written : {g : Form Tok Instr} → Means g (Named name) → Means (attended g) (λ i. IfSome i (Named name))
  unfolding attended
  attended_written h = follow h (λ i k. skip _ (λ _. nothing k))

  kept_written : {g : Form Tok Instr} → Means g (Named name) → Means (kept g) (λ i. IfSome i (Named name))
  unfolding kept
  kept_written h = follow h (λ i k. nothing k)

  store_written : name ≡ None → Means (storing memory_shape) (Named name)
  store_written e = subst (λ n. Means (storing memory_shape) (Named n)) (sym e) storing_written

  behind_written : (named : Bool) (o : Opcode) → OpcodeSuits o → Fits name o → Means (behind slots_fit memory_shape named o) (λ i. IfSome i (Named name))
  behind_written named (opcodes.Value o) h k = attended_written (operation_written o h)
  behind_written named opcodes.Phi h k = kept_written (phi_written name)
  behind_written named opcodes.Alloca h k = kept_written (reserving_written name)
  behind_written named opcodes.Load h k = kept_written (loading_written name)
  behind_written named opcodes.GetElementPtr h k = kept_written (addressing_written name)
  behind_written named opcodes.Store h k = kept_written (store_written k)
  behind_written named opcodes.Tail h k = tail_calling_written name named
  behind_written named opcodes.Call h k = calling_written name named

-- ---- lines

lined_written : (name : Option Tok) (line : ℕ) (i : Option Instr) → IfSome i (Named name) → IfSome (lined name line i) LineWritten
lined_written name line None h = tt
lined_written name line (Some i) h = h

line_behind_written : (name : Tok) → Means (line_behind slots_fit memory_shape name) (λ l. IfSome l LineWritten)
unfolding line_behind
line_behind_written name =
    skip _ (λ _.
    follow {P = λ o. OpcodeSuits o × Fits (Some name) o} (among_means _ _ _ (λ t s c. (suits_by t.kind, fits_by (Some name) t.kind c))) (λ o h.
    follow (behind_written (Some name) true o h.0 h.1) (λ i g. nothing (lined_written (Some name) name.line i g))))

named_written : (name : Form Tok Tok) → Means (named_line name slots_fit memory_shape) (λ l. IfSome l LineWritten)
unfolding named_line
named_written name = skip _ (λ n. line_behind_written n)

plain_written : Means (plain_line slots_fit memory_shape) (λ l. IfSome l LineWritten)
unfolding plain_line
plain_written =
    follow {P = λ b. OpcodeSuits b.opcode} (among_means _ _ _ (λ t s c. suits_by t.kind)) (λ b h.
    follow (behind_written None false b.opcode h (fits_none b.opcode)) (λ i g. nothing (lined_written None b.line i g)))

pub line_written : (name : Form Tok Tok) → Means (line name slots_fit memory_shape) (λ l. IfSome l LineWritten)
unfolding line
line_written name = either_means (named_written name) plain_written
