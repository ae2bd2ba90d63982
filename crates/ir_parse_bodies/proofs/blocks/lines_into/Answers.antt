use Rattle.std.proofs.Common.{◌-◌, List, length, sym, ap, ◌∙◌, arith}
use Rattle.std.specs.List.{fold}
use Rattle.ir_parse_parts.specs.Alphabet.{among}
use Rattle.ir_parse_parts.specs.Readers.{Fails, done, follow}
use Rattle.ir_parse_parts.specs.Classes.{tokens}
use Rattle.ir_parse_parts.specs.declared.raw.WrittenLine.{WrittenLine}
use Rattle.ir_parse_bodies.specs.Blocks.{keep}
use Rattle.ir_parse_bodies.specs.BlocksAt.{all_lines_at}
use Rattle.ir_parse_bodies.specs.LinesAt.{LINE, line_at}
use Rattle.ir_parse_bodies.proofs.Additions.{kept_fails, kept_read}
use Rattle.ir_parse_bodies.proofs.Loops.{counted, counted_is, counts_on, counts_none, counts_fail}
use Rattle.ir_parse_bodies.proofs.Successions.{passed_on}
use Rattle.ir_parse_bodies.proofs.blocks.lines_into.Goals as goal

pub each-preserved : goal.each-preserved
each-preserved c =
    let k = kept_read c.each.list.lines.items _ _ (line_at c.each.tokens) c.in_ok-line_into.ensures in
    ap (λ (x : List WrittenLine). counted keep x (c.each.left - 1) (all_lines_at (c.each.left - 1) c.line_into.new.tokens)) k.2
    ∙ counts_on (among tokens LINE) line_at keep c.each.list.lines.items c.each.left _ _ _ _ (omega arith) c.each-test.ensures k.1 c.each.invariant

pub returns : goal.returns
returns c = sym (counted_is keep c.args.list.now.lines.items c.args.room _) ∙ counts_none (among tokens LINE) line_at keep c.each.list.lines.items c.each.left _ _ c.each-test.ensures c.each.invariant

pub returns-in_err-line_into : goal.returns-in_err-line_into
returns-in_err-line_into c =
    let k = kept_fails c.each.list.lines.items c.in_err-line_into.field-0.0 (line_at c.each.tokens) c.in_err-line_into.ensures in
    let f : Fails c.in_err-line_into.field-0.0 (follow (all_lines_at c.args.room c.args.tokens.now) (λ ls. done (fold keep c.args.list.now.lines.items ls, c.args.room - length ls))) =
    counts_fail (among tokens LINE) line_at keep c.in_err-line_into.field-0.0 c.each.list.lines.items c.each.left c.each.tokens _ (omega arith) c.each-test.ensures k (c.each.invariant ∙ counted_is keep c.args.list.now.lines.items c.args.room (all_lines_at c.args.room c.args.tokens.now)) in
    passed_on _ _ _ _ c.from_residual.ensures f
