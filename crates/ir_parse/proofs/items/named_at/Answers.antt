use Rattle.std.proofs.Common.{◌≡◌, arith}
use Rattle.ir_parse_parts.specs.Readers.{Fails}
use Rattle.ir_parse.specs.ItemFormsAt.{named_within_at}
use Rattle.ir_parse.specs.Putting.{behind_at}
use Rattle.ir_parse.proofs.Putting.{named_gives, named_fails, named_full}
use Rattle.ir_parse.proofs.items.named_at.Goals as goal

pub returns-then-names-eq0 : goal.returns-then-names-eq0
returns-then-names-eq0 c = named_full c.args.items.now.items c.args.room c.args.names c.args.tokens.now c.left.result c.left.ensures c.if-names-eq0.true

pub returns : goal.returns
returns c = named_gives c.args.items.now.items _ c.args.room c.args.names c.args.tokens.now _ _ (λ (e : c.args.names ≡ 0). omega arith) c.in_ok-before.ensures

pub returns-in_err-before : goal.returns-in_err-before
returns-in_err-before c =
    let f : Fails c.in_err-before.field-0.0 (behind_at c.args.items.now.items (named_within_at c.args.room c.args.names) c.args.tokens.now) =
    named_fails c.args.items.now.items c.args.room c.args.names c.args.tokens.now c.in_err-before.field-0.0 (λ (e : c.args.names ≡ 0). omega arith) c.in_err-before.ensures in
    grind (arith, f)
