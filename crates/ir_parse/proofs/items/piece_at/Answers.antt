use Rattle.std.proofs.Common.{◌≡◌, true, false, arith}
use Rattle.ir_parse_parts.specs.Alphabet.{among}
use Rattle.ir_parse_parts.specs.Readers.{Fails, next_is}
use Rattle.ir_parse_parts.specs.Classes.{tokens}
use Rattle.ir_parse.specs.ItemFormsAt.{NAMING, there_at}
use Rattle.ir_parse.specs.Putting.{behind_at}
use Rattle.ir_parse.proofs.Putting.{piece_named, piece_gives, piece_fails}
use Rattle.ir_parse.proofs.items.piece_at.Goals as goal

pub returns-then-comes_naming : goal.returns-then-comes_naming
returns-then-comes_naming c =
    let n : true ≡ next_is (among tokens NAMING) c.args.tokens.now = cc in
    piece_named c.args.items.now.items _ c.args.room c.args.at c.args.tokens.now _ _ n c.named_at.ensures

pub returns-in_ok-before : goal.returns-in_ok-before
returns-in_ok-before c =
    let n : false ≡ next_is (among tokens NAMING) c.args.tokens.now = cc in
    piece_gives c.args.items.now.items _ c.args.room c.args.at c.args.tokens.now _ _ n c.in_ok-before.ensures

pub returns-in_err-before : goal.returns-in_err-before
returns-in_err-before c =
    let n : false ≡ next_is (among tokens NAMING) c.args.tokens.now = cc in
    let f : Fails c.in_err-before.field-0.0 (behind_at c.args.items.now.items (there_at c.args.room c.args.at) c.args.tokens.now) =
    piece_fails c.args.items.now.items c.args.room c.args.at c.args.tokens.now c.in_err-before.field-0.0 n c.in_err-before.ensures in
    grind (arith, f)
