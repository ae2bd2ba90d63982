-- Blocks and definitions that the grammar spells.
use Rattle.std.proofs.Common.{◌≡◌, ℕ, List, [], Option, Some, None, refl}
use Rattle.std.specs.List.{AllByRecursion as Each}
use Rattle.std.proofs.lemmas.List.Elements.{All-from_recursion}
use Rattle.ir_parse_bodies.specs.Blocks.{FURTHER_BLOCKS, INSTRUCTIONS, block, block_behind, blocks, definition, keep, lines}
use Rattle.ir_lex.specs.Tok.{Tok}
use Rattle.ir_parse_parts.specs.Operands.{local}
use Rattle.ir_parse_heads.specs.declared.function_heads.Role.TheVariants as roles
use Rattle.ir_parse_parts.specs.declared.raw.Block.{Block}
use Rattle.ir_tree.specs.Formed.{IsReg}
use Rattle.ir_parse.specs.Written.{BlockWritten, LineWritten}
use Rattle.ir_parse.specs.Items.{ItemWritten}
use Rattle.ir_parse.proofs.Heads.{head_written}
use Rattle.ir_parse.proofs.Lines.{line_written}
use Rattle.ir_parse.proofs.Means.{Means, either_means, follow, kept_means, many_means, nothing, skip, successive_means}
use Rattle.ir_parse.proofs.Terminators.{terminator_written}

lines_written : (room : ℕ) → Means (lines room) (λ x. Each LineWritten x.0)
unfolding lines
lines_written room = follow (many_means room (line_written local)) (λ ls h. nothing (kept_means LineWritten keep (λ _. refl) (λ _ _. refl) [] ls tt h))

block_behind_written : (room : ℕ) (name : Option Tok) → Means (block_behind room name) (λ x. BlockWritten x.0)
unfolding block_behind
block_behind_written room name = follow (lines_written room) (λ ls h. follow terminator_written (λ e g. nothing (All-from_recursion LineWritten ls.0 h, g)))

block_written : (room : ℕ) → Means (block room) (λ x. BlockWritten x.0)
unfolding block
block_written room = either_means (skip _ (λ l. block_behind_written room (Some l))) (block_behind_written room None)

-- a body has a block
record IsBody (bs : List Block) : Type 0 where
  all : Each BlockWritten bs
  some : bs ≡ [] → ⊥

blocks_written : (further instructions : ℕ) → Means (blocks further instructions) IsBody
unfolding blocks
blocks_written further instructions =
    follow (block_written instructions) (λ first h.
    follow (successive_means {P = BlockWritten} further first.1 block_written) (λ more g. nothing (record { all = (h, g); some = λ e. absurd cc })))

pub definition_written : (room : ℕ) → Means (definition room) ItemWritten
unfolding definition
definition_written room =
    skip _ (λ _.
    follow (head_written roles.Definition room) (λ h is.
    skip _ (λ k.
    skip _ (λ _.
    follow (blocks_written FURTHER_BLOCKS INSTRUCTIONS) (λ bs body.
    skip _ (λ _.
    nothing (λ noinline optnone. record {
      result = is.result;
      params = All-from_recursion (λ p. IsReg p.reg) h.params is.params;
      blocks = All-from_recursion BlockWritten bs body.all;
      declared = λ e. absurd (body.some e);
    })))))))
