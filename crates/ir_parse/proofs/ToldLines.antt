-- The first fault of the readers of instructions and lines is of a kind that its token allows.
use Rattle.ir_parse.proofs.Told.{Tells, seq, nothing, alt, the_told, one_told}
use Rattle.std.specs.Prelude.{Bool, true, false}
use Rattle.ir_lex.specs.declared.token_kind.TokenKind.TheVariants as kinds
use Rattle.ir_lex.specs.Tok.{Tok}
use Rattle.ir_tree.specs.declared.instr.CastOp.TheVariants as casts
use Rattle.ir_parse_parts.specs.Alphabet.{among}
use Rattle.ir_parse_parts.specs.Readers.{Reader}
use Rattle.ir_parse_operands.specs.AddressingAt.{reserving_at, addressing_at}
use Rattle.ir_parse.proofs.ToldAddressing.{reserving_told, addressing_told}
use Rattle.ir_parse_parts.specs.Classes.{tokens}
use Rattle.ir_parse_parts.specs.declared.raw.Instr.{Instr}
use Rattle.ir_parse_bodies.specs.Instructions.{no_flags}
use Rattle.ir_parse_bodies.specs.InstructionsAt.{loading_at, storing_at}
use Rattle.ir_parse.proofs.ToldInstructions.{on_two_told, wrapping_told, dividing_told, joining_told, comparing_told, casting_told, extending_told, narrowing_told, selecting_told, freezing_told, loading_told, storing_told}
use Rattle.ir_parse.proofs.ToldMetadata.{attachments_told}
use Rattle.ir_parse_parts.specs.Operands.{LOCAL}
use Rattle.ir_parse.proofs.ToldOperands.{local_told}
use Rattle.ir_parse_bodies.specs.PhisAt.{phi_at}
use Rattle.ir_parse.proofs.ToldPhis.{phi_told}
use Rattle.ir_parse.proofs.ToldCalls.{calling_told, tail_calling_told}
use Rattle.ir_parse_bodies.specs.Lines.{GIVING, OPCODES, opcode_of, begun_of}
use Rattle.ir_parse_bodies.specs.declared.opcodes.Opcode.{Opcode}
use Rattle.ir_parse_bodies.specs.declared.opcodes.Opcode.TheVariants as opcodes
use Rattle.ir_parse_bodies.specs.declared.opcodes.Operation.{Operation}
use Rattle.ir_parse_bodies.specs.declared.opcodes.Operation.TheVariants as operations
use Rattle.ir_parse_bodies.specs.LinesAt.{operation_at, attended_at, some_at, behind_at, line_behind_at, named_line_at, plain_line_at, line_at}

pub operation_told : (x0 : Operation) → Tells (operation_at x0)
operation_told (operations.Wrapping op) = wrapping_told op
operation_told (operations.Dividing op) = dividing_told op
operation_told (operations.Plain op) = on_two_told op no_flags
operation_told operations.Or = joining_told
operation_told operations.Icmp = comparing_told
operation_told operations.Zext = extending_told casts.Zext
operation_told operations.Sext = casting_told casts.Sext
operation_told operations.Trunc = narrowing_told casts.Trunc
operation_told operations.Select = selecting_told
operation_told operations.Freeze = freezing_told

pub attended_told : (f : Reader Tok Instr) → Tells f → Tells (attended_at f)
unfolding attended_at
attended_told f f_told = seq f_told (λ i. seq attachments_told (λ _. nothing _))

pub kept_told : (f : Reader Tok Instr) → Tells f → Tells (some_at f)
unfolding some_at
kept_told f f_told = seq f_told (λ i. nothing _)

pub behind_told : (named : Bool) → (x1 : Opcode) → Tells (behind_at named x1)
behind_told named (opcodes.Value o) = attended_told (operation_at o) (operation_told o)
behind_told named opcodes.Phi = kept_told phi_at phi_told
behind_told named opcodes.Alloca = kept_told reserving_at reserving_told
behind_told named opcodes.Load = kept_told loading_at loading_told
behind_told named opcodes.GetElementPtr = kept_told addressing_at addressing_told
behind_told named opcodes.Store = kept_told storing_at storing_told
behind_told named opcodes.Tail = tail_calling_told named
behind_told named opcodes.Call = calling_told named

pub line_behind_told : (name : Tok) → Tells (line_behind_at name)
unfolding line_behind_at
line_behind_told name = seq (the_told kinds.Equals) (λ _. seq (one_told GIVING opcode_of) (λ o. seq (behind_told true o) (λ i. nothing _)))

pub named_line_told : Tells named_line_at
unfolding named_line_at
named_line_told = seq local_told (λ n. line_behind_told n)

pub plain_line_told : Tells plain_line_at
unfolding plain_line_at
plain_line_told = seq (one_told OPCODES begun_of) (λ b. seq (behind_told false b.opcode) (λ i. nothing _))

pub line_told : Tells line_at
unfolding line_at
line_told = alt (among tokens LOCAL) named_line_told plain_line_told
