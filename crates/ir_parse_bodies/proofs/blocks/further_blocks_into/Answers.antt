use Rattle.std.proofs.Common.{◌-◌, ◌++◌, List, [], ◌∷◌, sym, ap, ◌∙◌, arith}
use Rattle.ir_parse_parts.specs.Alphabet.{among}
use Rattle.ir_parse_parts.specs.Readers.{Fails, done, follow}
use Rattle.ir_parse_parts.proofs.Loops.{with_front}
use Rattle.ir_parse_parts.specs.Classes.{tokens}
use Rattle.ir_parse_parts.specs.declared.raw.Block.{Block}
use Rattle.ir_parse_bodies.specs.BlocksAt.{BLOCK, block_at, further_blocks_at}
use Rattle.ir_parse_bodies.proofs.Additions.{added_fails, added_read, front_joined}
use Rattle.ir_parse_bodies.proofs.Loops.{pieces_on, pieces_none, pieces_fail}
use Rattle.ir_parse_bodies.proofs.Successions.{passed_on}
use Rattle.ir_parse_bodies.proofs.blocks.further_blocks_into.Goals as goal

pub each-preserved : goal.each-preserved
each-preserved c =
    let a = added_read c.each.blocks.list.items _ _ _ (block_at c.each.left c.each.tokens) c.in_ok-left.ensures in
    ap (λ (x : List Block). with_front x (further_blocks_at (c.each.room - 1) c.in_ok-left.left c.block_into.new.tokens)) a.2
    ∙ ap (λ n. with_front (c.each.blocks.list.items ++ a.0.0 ∷ []) (further_blocks_at (c.each.room - 1) n c.block_into.new.tokens)) a.3
    ∙ pieces_on (among tokens BLOCK) block_at c.each.blocks.list.items c.each.room c.each.left _ _ _ _ (omega arith) c.each-test.ensures a.1 c.each.invariant

pub returns : goal.returns
returns c = sym (front_joined c.args.blocks.now.list.items _) ∙ pieces_none (among tokens BLOCK) block_at c.each.blocks.list.items c.each.room c.each.left _ _ c.each-test.ensures c.each.invariant

pub returns-in_err-left : goal.returns-in_err-left
returns-in_err-left c =
    let k = added_fails c.each.blocks.list.items c.in_err-left.field-0.0 (block_at c.each.left c.each.tokens) c.in_err-left.ensures in
    let f : Fails c.in_err-left.field-0.0 (follow (further_blocks_at c.args.further c.args.instructions c.args.tokens.now) (λ more. done (c.args.blocks.now.list.items ++ more))) =
    pieces_fail (among tokens BLOCK) block_at c.in_err-left.field-0.0 c.each.blocks.list.items c.each.room c.each.left c.each.tokens _ (omega arith) c.each-test.ensures k (c.each.invariant ∙ front_joined c.args.blocks.now.list.items (further_blocks_at c.args.further c.args.instructions c.args.tokens.now)) in
    passed_on _ _ _ _ c.from_residual.ensures f
