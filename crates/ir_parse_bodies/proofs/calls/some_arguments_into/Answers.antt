use Rattle.std.proofs.Common.{List, sym, ap, ◌∙◌}
use Rattle.ir_parse_parts.specs.Alphabet.{among}
use Rattle.ir_parse_parts.specs.Readers.{Fails, folded, follow, star_at}
use Rattle.ir_parse_parts.proofs.Stars.{behind, takes, folds_fail, folds_on, folds_none}
use Rattle.ir_parse_parts.specs.Classes.{tokens}
use Rattle.ir_parse_parts.specs.declared.raw.Argument.{Argument}
use Rattle.ir_parse_parts.specs.MetadataAt.{COMMA}
use Rattle.ir_parse_operands.proofs.Additions.{first_fails, pushed_fails, pushed_read}
use Rattle.ir_parse_bodies.specs.Adding.{joined_at}
use Rattle.ir_parse_bodies.specs.CallsAt.{argument_at, arguments_behind_at, further_argument_at, some_arguments_at}
use Rattle.ir_parse_bodies.proofs.Additions.{folded_joined, joined_to}
use Rattle.ir_parse_bodies.proofs.CallRules.{further_argument_rule}
use Rattle.ir_parse_bodies.proofs.Successions.{passed_on}
use Rattle.ir_parse_bodies.proofs.calls.some_arguments_into.Goals as goal

pub each-init : goal.each-init
unfolding some_arguments_at arguments_behind_at
each-init c =
    let a = pushed_read c.args.arguments.now.items _ _ (argument_at c.args.tokens.now) c.in_ok-argument_into.ensures in
    ap (λ (x : List Argument). folded behind x (star_at (among tokens COMMA) further_argument_at c.argument_into.new.tokens)) a.2
    ∙ folded_joined c.args.arguments.now.items a.0 (star_at (among tokens COMMA) further_argument_at c.argument_into.new.tokens)
    ∙ sym (ap (λ r. follow (follow r arguments_behind_at) (joined_to c.args.arguments.now.items)) a.1)

pub each-smaller : goal.each-smaller
each-smaller c =
    let a = pushed_read c.each.arguments.items _ _ (further_argument_at c.each.tokens) c.in_ok-further_argument_into.ensures in
    takes tokens (among tokens COMMA) further_argument_rule.law _ _ _ a.1

pub each-preserved : goal.each-preserved
each-preserved c =
    let a = pushed_read c.each.arguments.items _ _ (further_argument_at c.each.tokens) c.in_ok-further_argument_into.ensures in
    ap (λ (x : List Argument). folded behind x (star_at (among tokens COMMA) further_argument_at c.further_argument_into.new.tokens)) a.2 ∙ folds_on tokens (among tokens COMMA) further_argument_rule.law behind c.each.arguments.items _ _ _ _ c.each-test.ensures a.1 c.each.invariant

pub returns : goal.returns
returns c = folds_none tokens (among tokens COMMA) further_argument_rule.law behind c.each.arguments.items _ _ c.each-test.ensures c.each.invariant

pub returns-in_err-argument_into : goal.returns-in_err-argument_into
unfolding some_arguments_at
returns-in_err-argument_into c =
    let k = first_fails _ _ arguments_behind_at (pushed_fails c.args.arguments.now.items c.in_err-argument_into.field-0.0 (argument_at c.args.tokens.now) c.in_err-argument_into.ensures) in
    let f : Fails c.in_err-argument_into.field-0.0 (follow (follow (argument_at c.args.tokens.now) arguments_behind_at) (joined_to c.args.arguments.now.items)) =
    first_fails _ _ (joined_to c.args.arguments.now.items) k in
    passed_on _ _ _ _ c.from_residual.ensures f

pub returns-in_err-further_argument_into : goal.returns-in_err-further_argument_into
returns-in_err-further_argument_into c =
    let f : Fails c.in_err-further_argument_into.field-0.0 (joined_at c.args.arguments.now.items some_arguments_at c.args.tokens.now) =
    folds_fail tokens (among tokens COMMA) further_argument_rule.law behind c.in_err-further_argument_into.field-0.0 c.each.arguments.items c.each.tokens _ c.each-test.ensures (pushed_fails c.each.arguments.items c.in_err-further_argument_into.field-0.0 (further_argument_at c.each.tokens) c.in_err-further_argument_into.ensures) c.each.invariant in
    passed_on _ _ _ _ c.from_residual-in_err-further_argument_into.ensures f
