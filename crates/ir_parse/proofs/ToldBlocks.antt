-- The first fault of the readers of blocks and definitions is of a kind that its token allows.
use Rattle.ir_parse.proofs.Told.{Tells, seq, nothing, alt, barred, many, valued, the_told, refusal_refuses}
use Rattle.std.specs.Prelude.{ℕ, Option, Some, None}
use Rattle.ir_lex.specs.declared.token_kind.TokenKind.TheVariants as kinds
use Rattle.ir_lex.specs.Tok.{Tok}
use Rattle.ir_parse_parts.specs.Alphabet.{among}
use Rattle.ir_parse.proofs.ToldAttributes.{definition_attributes_told}
use Rattle.ir_parse_parts.specs.Classes.{tokens, refusal}
use Rattle.ir_parse_heads.specs.declared.function_heads.Role.TheVariants as roles
use Rattle.ir_parse_parts.specs.declared.raw.Block.{Block}
use Rattle.ir_parse_parts.specs.declared.raw.FunctionHeader.{FunctionHeader}
use Rattle.ir_parse.proofs.ToldFunctionHeads.{head_told}
use Rattle.ir_parse_parts.specs.Operands.{named}
use Rattle.ir_parse.proofs.ToldTerminators.{terminator_told}
use Rattle.ir_parse_bodies.specs.Blocks.{LABEL, FURTHER_BLOCKS, INSTRUCTIONS, with_kept}
use Rattle.ir_parse_bodies.specs.LinesAt.{LINE}
use Rattle.ir_parse.proofs.ToldLines.{line_told}
use Rattle.ir_parse_bodies.specs.BlocksAt.{BLOCK, label_at, all_lines_at, lines_at, block_behind_at, block_at, further_blocks_at, blocks_behind_at, blocks_at, defined_at, definition_at}
use Rattle.std.proofs.Common.{zero, suc, refl}

pub label_told : Tells label_at
label_told = valued refusal refusal_refuses LABEL refl named

pub all_lines_told : (room : ℕ) → Tells (all_lines_at room)
all_lines_told room = many LINE refl line_told room

pub lines_told : (room : ℕ) → Tells (lines_at room)
unfolding lines_at
lines_told room = seq (all_lines_told room) (λ ls. nothing _)

pub block_behind_told : (room : ℕ) → (name : Option Tok) → Tells (block_behind_at room name)
unfolding block_behind_at
block_behind_told room name = seq (lines_told room) (λ ls. seq terminator_told (λ e. nothing _))

pub block_told : (room : ℕ) → Tells (block_at room)
unfolding block_at
block_told room = alt (among tokens LABEL) (seq label_told (λ l. block_behind_told room (Some l))) (block_behind_told room None)

pub further_blocks_told : (room s : ℕ) → Tells (further_blocks_at room s)
further_blocks_told zero s = barred BLOCK refl (nothing _)
further_blocks_told (suc room) s = alt (among tokens BLOCK) (seq (block_told s) (λ x. seq (further_blocks_told room x.1) (λ more. nothing _))) (nothing _)

pub blocks_behind_told : (further : ℕ) → (instructions : ℕ) → (first : Block) → Tells (blocks_behind_at further instructions first)
unfolding blocks_behind_at
blocks_behind_told further instructions first = seq (further_blocks_told further instructions) (λ more. nothing _)

pub blocks_told : (further : ℕ) → (instructions : ℕ) → Tells (blocks_at further instructions)
unfolding blocks_at
blocks_told further instructions = seq (block_told instructions) (λ first. blocks_behind_told further first.1 first.0)

pub defined_told : (h : FunctionHeader) → Tells (defined_at h)
defined_told h =
    seq (the_told kinds.OpenBrace) (λ _. seq (blocks_told FURTHER_BLOCKS INSTRUCTIONS) (λ bs. seq (the_told kinds.CloseBrace) (λ _. nothing _)))

pub definition_told : (room : ℕ) → Tells (definition_at room)
unfolding definition_at
definition_told room =
    seq (the_told kinds.Define) (λ _. seq (head_told roles.Definition room) (λ h. seq definition_attributes_told (λ k. defined_told (with_kept h k))))
