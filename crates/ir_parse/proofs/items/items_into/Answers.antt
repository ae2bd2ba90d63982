use Rattle.std.proofs.Common.{not, [], sym, ap, ◌∙◌, arith}
use Rattle.ir_parse_parts.specs.Chained.{chain_at}
use Rattle.ir_parse_parts.specs.Readers.{Fails}
use Rattle.ir_parse_parts.proofs.ChainLoops.{chain_none}
use Rattle.ir_parse_parts.proofs.Stars.{folded_is}
use Rattle.ir_parse.specs.ItemForms.{anywhere, keep}
use Rattle.ir_parse.specs.ItemFormsAt.{begins_there, there_at, first_place, items_at}
use Rattle.ir_parse.proofs.ItemLoops.{shorter, items_shorter, items_on, items_fail}
use Rattle.ir_parse.proofs.items.items_into.Goals as goal

pub each-smaller : goal.each-smaller
each-smaller c = items_shorter c.args.room c.each.items.items _ c.each.at _ c.each.tokens _ c.in_ok-at.ensures

pub each-preserved : goal.each-preserved
each-preserved c = items_on c.args.room c.args.names c.each.items.items _ c.each.at _ c.each.tokens _ c.args.tokens.now c.each-test.ensures c.in_ok-at.ensures c.each.invariant

pub returns : goal.returns
unfolding items_at
returns c = sym (folded_is keep [] (chain_at anywhere begins_there (there_at c.args.room) (first_place c.args.names) c.args.tokens.now)) ∙ chain_none anywhere begins_there (there_at c.args.room) (shorter c.args.room) keep c.each.items.items c.each.at _ _ (ap not (sym c.each-test.ensures)) c.each.invariant

pub returns-in_err-at : goal.returns-in_err-at
returns-in_err-at c =
    let f : Fails c.in_err-at.field-0.0 (items_at c.args.room c.args.names c.args.tokens.now) =
    items_fail c.args.room c.args.names c.in_err-at.field-0.0 c.each.items.items c.each.at c.each.tokens c.args.tokens.now c.each-test.ensures c.in_err-at.ensures c.each.invariant in
    grind (arith, f)
