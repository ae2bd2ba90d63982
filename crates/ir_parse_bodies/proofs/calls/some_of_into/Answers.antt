use Rattle.std.proofs.Common.{◌≡◌, ◌+◌, List, drop, sym, ap, ◌∙◌}
use Rattle.std.proofs.lemmas.List.{append-nil, drop_all}
use Rattle.std.specs.Prelude.{Ok}
use Rattle.ir_lex.specs.Tok.{Tok}
use Rattle.ir_parse_parts.specs.Readers.{Fails, follow}
use Rattle.ir_parse_parts.proofs.Loops.{with_front}
use Rattle.ir_parse_parts.specs.declared.raw.Argument.{Argument}
use Rattle.ir_parse_operands.proofs.Additions.{first_fails, pushed_fails, pushed_read}
use Rattle.ir_parse_operands.proofs.Levels.{turn_fails, turns_on}
use Rattle.ir_parse_bodies.specs.Adding.{joined_at}
use Rattle.ir_parse_bodies.specs.CallsAt.{argument_of_at, further_of_at, each_further_at, each_behind_at, some_of_at}
use Rattle.ir_parse_bodies.proofs.Additions.{front_one, joined_to}
use Rattle.ir_parse_bodies.proofs.Loops.{rest_from}
use Rattle.ir_parse_bodies.proofs.Successions.{passed_on}
use Rattle.ir_parse_bodies.proofs.calls.some_of_into.Goals as goal

pub each-init : goal.each-init
unfolding some_of_at each_behind_at
each-init c =
    let a = pushed_read c.args.arguments.now.items _ _ (argument_of_at c.args.first.now c.args.tokens.now) c.in_ok-argument_of_into.ensures in
    ap (λ (x : List Argument). with_front x (each_further_at c.args.further.now c.argument_of_into.new.tokens)) a.2
    ∙ front_one c.args.arguments.now.items a.0 (each_further_at c.args.further.now c.argument_of_into.new.tokens)
    ∙ sym (ap (λ r. follow (follow r (each_behind_at c.args.further.now)) (joined_to c.args.arguments.now.items)) a.1)

pub each-preserved : goal.each-preserved
each-preserved c =
    let a = pushed_read c.each.arguments.items _ _ (further_of_at c.written-item.result c.each.tokens) c.in_ok-further_of_into.ensures in
    let rest = each_further_at (drop (c.each.written-index + 1) c.args.further.now) in
    let e = rest_from c.args.further.now c.each.written-index c.written-item.result _ c.each-test.true c.written-item.is (λ (ws : List Tok). with_front c.each.arguments.items (each_further_at ws c.each.tokens) ≡ joined_at c.args.arguments.now.items (some_of_at c.args.first.now c.args.further.now) c.args.tokens.now) c.each.invariant in
    ap (λ (x : List Argument). with_front x (rest c.further_of_into.new.tokens)) a.2 ∙ turns_on (further_of_at c.written-item.result) rest c.each.arguments.items _ _ _ _ a.1 e

pub returns : goal.returns
returns c =
    sym c.each.invariant
    ∙ ap (λ (ws : List Tok). with_front c.each.arguments.items (each_further_at ws c.each.tokens)) (drop_all c.each.written-index c.args.further.now c.each-test.false)
    ∙ ap (λ (x : List Argument). Ok (x, c.each.tokens)) (append-nil c.each.arguments.items)

pub returns-in_err-argument_of_into : goal.returns-in_err-argument_of_into
unfolding some_of_at
returns-in_err-argument_of_into c =
    let k = first_fails _ _ (each_behind_at c.args.further.now) (pushed_fails c.args.arguments.now.items c.in_err-argument_of_into.field-0.0 (argument_of_at c.args.first.now c.args.tokens.now) c.in_err-argument_of_into.ensures) in
    let f : Fails c.in_err-argument_of_into.field-0.0 (follow (follow (argument_of_at c.args.first.now c.args.tokens.now) (each_behind_at c.args.further.now)) (joined_to c.args.arguments.now.items)) =
    first_fails _ _ (joined_to c.args.arguments.now.items) k in
    passed_on _ _ _ _ c.from_residual.ensures f

pub returns-in_err-further_of_into : goal.returns-in_err-further_of_into
returns-in_err-further_of_into c =
    let rest = each_further_at (drop (c.each.written-index + 1) c.args.further.now) in
    let e = rest_from c.args.further.now c.each.written-index c.written-item.result _ c.each-test.true c.written-item.is (λ (ws : List Tok). with_front c.each.arguments.items (each_further_at ws c.each.tokens) ≡ joined_at c.args.arguments.now.items (some_of_at c.args.first.now c.args.further.now) c.args.tokens.now) c.each.invariant in
    let f : Fails c.in_err-further_of_into.field-0.0 (joined_at c.args.arguments.now.items (some_of_at c.args.first.now c.args.further.now) c.args.tokens.now) =
    turn_fails (further_of_at c.written-item.result) rest c.in_err-further_of_into.field-0.0 c.each.arguments.items c.each.tokens _ (pushed_fails c.each.arguments.items c.in_err-further_of_into.field-0.0 (further_of_at c.written-item.result c.each.tokens) c.in_err-further_of_into.ensures) e in
    passed_on _ _ _ _ c.from_residual-in_err-further_of_into.ensures f
