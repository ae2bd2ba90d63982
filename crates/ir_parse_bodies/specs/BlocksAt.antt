-- What the readers of blocks and definitions give.
use Rattle.std.specs.Prelude.{ℕ, ◌-◌, Option, Some, None, List, [], ◌∷◌, ◌++◌, length}
use Rattle.std.specs.List.{fold}
use Rattle.ir_lex.specs.declared.token_kind.TokenKind.TheVariants as kinds
use Rattle.ir_lex.specs.TokenKinds.{number}
use Rattle.ir_lex.specs.Tok.{Tok}
use Rattle.ir_parse_parts.specs.Alphabet.{among}
use Rattle.ir_parse_parts.specs.Readers.{Reader, ◌>>=◌, done, pick, many_at, optional_at, token_at}
use Rattle.ir_parse_parts.specs.Rules.{is_valued}
use Rattle.ir_parse_heads.specs.AttributesAt.{definition_attributes_at}
use Rattle.ir_parse_parts.specs.Classes.{tokens, refusal, the_at}
use Rattle.ir_parse_heads.specs.declared.function_heads.Role.TheVariants as roles
use Rattle.ir_parse_parts.specs.declared.raw.Block.{Block}
use Rattle.ir_parse_parts.specs.declared.raw.FunctionHeader.{FunctionHeader}
use Rattle.ir_parse_parts.specs.declared.raw.Item.{Item}
use Rattle.ir_parse_parts.specs.declared.raw.Item.TheVariants.{Definition}
use Rattle.ir_parse_parts.specs.declared.raw.WrittenLine.{WrittenLine}
use Rattle.ir_parse_heads.specs.FunctionHeadsAt.{head_at}
use Rattle.ir_parse_parts.specs.Operands.{named}
use Rattle.ir_parse_operands.specs.Terminators.{ENDS}
use Rattle.ir_parse_operands.specs.TerminatorsAt.{terminator_at}
use Rattle.ir_parse_bodies.specs.Adding.{joined_at}
use Rattle.ir_parse_bodies.specs.Blocks.{LABEL, keep, block_of, FURTHER_BLOCKS, INSTRUCTIONS, with_kept}
use Rattle.ir_parse_bodies.specs.LinesAt.{LINE, line_at}
use Rattle.ir_parse_bodies.specs.Successive.{successive_at}

-- what a block begins with
abbrev pub BLOCK : List ℕ
BLOCK = LABEL ++ (LINE ++ ENDS)

abbrev pub label_at : Reader Tok Tok
label_at = token_at (is_valued tokens refusal LABEL named)

-- a label, where there is one
abbrev pub maybe_label_at : Reader Tok (Option Tok)
maybe_label_at = optional_at (among tokens LABEL) label_at

abbrev pub all_lines_at : ℕ → Reader Tok (List (Option WrittenLine))
all_lines_at = many_at (among tokens LINE) line_at

-- the lines that are kept, and how many more there may be
unfoldable pub lines_at : ℕ → Reader Tok (List WrittenLine × ℕ)
lines_at room = do
  ls ← all_lines_at room
  done (fold keep [] ls, room - length ls)

-- the lines that are kept, behind those before them, and how many more there may be
abbrev pub lines_from_at : ℕ → List WrittenLine → Reader Tok (List WrittenLine × ℕ)
lines_from_at room front = do
  ls ← all_lines_at room
  done (fold keep front ls, room - length ls)

-- behind the lines
abbrev pub ended_at : Option Tok → List WrittenLine → ℕ → Reader Tok (Block × ℕ)
ended_at name lines left = do
  e ← terminator_at
  done (block_of name lines e, left)

unfoldable pub block_behind_at : ℕ → Option Tok → Reader Tok (Block × ℕ)
block_behind_at room name = do
  ls ← lines_at room
  ended_at name ls.0 ls.1

unfoldable pub block_at : ℕ → Reader Tok (Block × ℕ)
block_at room = pick (among tokens LABEL)
    (do
      l ← label_at
      block_behind_at room (Some l))
    (block_behind_at room None)

abbrev pub further_blocks_at : ℕ → ℕ → Reader Tok (List Block)
further_blocks_at = successive_at (among tokens BLOCK) block_at

-- those behind some that were read before
abbrev pub blocks_from_at : ℕ → ℕ → List Block → Reader Tok (List Block)
blocks_from_at further instructions front = joined_at front (further_blocks_at further instructions)

-- those behind a first one
unfoldable pub blocks_behind_at : ℕ → ℕ → Block → Reader Tok (List Block)
blocks_behind_at further instructions first = do
  more ← further_blocks_at further instructions
  done (first ∷ more)

unfoldable pub blocks_at : ℕ → ℕ → Reader Tok (List Block)
blocks_at further instructions = do
  first ← block_at instructions
  blocks_behind_at further first.1 first.0

-- what a definition begins with
abbrev pub DEFINE : List ℕ
DEFINE = number kinds.Define ∷ []

-- what stands before the braces
abbrev pub heading_at : ℕ → Reader Tok FunctionHeader
heading_at room = do
  _ ← the_at kinds.Define
  h ← head_at roles.Definition room
  k ← definition_attributes_at
  done (with_kept h k)

-- the blocks in their braces
abbrev pub braced_at : Reader Tok (List Block)
braced_at = do
  _ ← the_at kinds.OpenBrace
  bs ← blocks_at FURTHER_BLOCKS INSTRUCTIONS
  _ ← the_at kinds.CloseBrace
  done bs

-- behind the attributes of a head
abbrev pub defined_at : FunctionHeader → Reader Tok Item
defined_at h = do
  _ ← the_at kinds.OpenBrace
  bs ← blocks_at FURTHER_BLOCKS INSTRUCTIONS
  _ ← the_at kinds.CloseBrace
  done (Definition h bs)

unfoldable pub definition_at : ℕ → Reader Tok Item
definition_at room = do
  _ ← the_at kinds.Define
  h ← head_at roles.Definition room
  k ← definition_attributes_at
  defined_at (with_kept h k)
