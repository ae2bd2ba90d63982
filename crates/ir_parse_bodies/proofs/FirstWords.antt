-- The first word of an instruction, with its line.
use Rattle.std.proofs.Common.{◌≡◌, ℕ, Bool, true, false, Result, Ok, Err, refl, ap, ◌∙◌, if◌then◌else◌}
use Rattle.ir_lex.specs.Tok.{Tok}
use Rattle.ir_parse_parts.specs.Alphabet.{among}
use Rattle.ir_parse_parts.specs.Rules.{is_among}
use Rattle.ir_parse_parts.specs.declared.fault.TokenFault.{TokenFault}
use Rattle.ir_parse_parts.specs.Classes.{tokens, refusal}
use Rattle.ir_parse_bodies.specs.Lines.{OPCODES, opcode_of, begun_of}
use Rattle.ir_parse_bodies.specs.declared.opcodes.Begun.{Begun}
use Rattle.ir_parse_bodies.specs.declared.opcodes.Opcode.{Opcode}

abbrev pub with_line : ℕ → Result Opcode TokenFault → Result Begun TokenFault
with_line line (Ok o) = Ok (record { opcode = o; line = line })
with_line line (Err k) = Err k

either_way : (line : ℕ) (b : Bool) (o : Opcode) (k : TokenFault) → with_line line (if b then Ok o else Err k) ≡ (if b then Ok (record { opcode = o; line = line }) else Err k)
either_way line true o k = refl
either_way line false o k = refl

-- the meaning of a token, and its line
pub begun : (t : Tok) (r : Result Opcode TokenFault) → r ≡ is_among tokens refusal OPCODES opcode_of t → with_line t.line r ≡ is_among tokens refusal OPCODES begun_of t
unfolding is_among
begun t r e = ap (with_line t.line) e ∙ either_way t.line (among tokens OPCODES t) (opcode_of t) (refusal (tokens.class t))
