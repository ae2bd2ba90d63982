use Rattle.std.proofs.Common.{List, [], ◌∷◌, ◌++◌, sym, ap, ◌∙◌, arith}
use Rattle.ir_parse_parts.specs.Alphabet.{among}
use Rattle.ir_parse_parts.specs.Readers.{Fails, done, folded, follow, ◌>>=◌}
use Rattle.ir_parse_parts.proofs.Stars.{behind, takes, folds_fail, folds_on, folds_none}
use Rattle.ir_parse_parts.specs.Classes.{tokens}
use Rattle.ir_parse_parts.specs.declared.shape.Typed.{Typed}
use Rattle.ir_parse_operands.specs.ValuesAt.{ADDRESS, all_openings_at, opening_at, openings_at}
use Rattle.ir_parse_operands.proofs.Additions.{pushed_fails, pushed_read, first_fails}
use Rattle.ir_parse_operands.proofs.Levels.{first_and_others}
use Rattle.ir_parse_operands.proofs.ValueRules.{opening_rule}
use Rattle.ir_parse_operands.proofs.values.all_openings_at.Goals as goal

pub each-init : goal.each-init
each-init c =
    let a = pushed_read c.new-levels.result.items _ _ (opening_at c.args.tokens.now) c.in_ok-opening_into.ensures in
    ap (λ (x : List Typed). folded behind x (openings_at c.opening_into.new.tokens)) (a.2 ∙ ap (λ (x : List Typed). x ++ a.0 ∷ []) c.new-levels.ensures.items)
    ∙ first_and_others a.0 (openings_at c.opening_into.new.tokens)
    ∙ sym (ap (λ r. follow r (λ first. openings_at >>= λ inner. done (first ∷ inner))) a.1)

pub each-smaller : goal.each-smaller
each-smaller c =
    let a = pushed_read c.each.levels.items _ _ (opening_at c.each.tokens) c.in_ok-opening_into-2.ensures in
    takes tokens (among tokens ADDRESS) opening_rule.law _ _ _ a.1

pub each-preserved : goal.each-preserved
each-preserved c =
    let a = pushed_read c.each.levels.items _ _ (opening_at c.each.tokens) c.in_ok-opening_into-2.ensures in
    ap (λ (x : List Typed). folded behind x (openings_at c.opening_into-in-each.new.tokens)) a.2 ∙ folds_on tokens (among tokens ADDRESS) opening_rule.law behind c.each.levels.items _ _ _ _ c.each-test.ensures a.1 c.each.invariant

pub returns : goal.returns
returns c = folds_none tokens (among tokens ADDRESS) opening_rule.law behind c.each.levels.items _ _ c.each-test.ensures c.each.invariant

pub returns-in_err-opening_into : goal.returns-in_err-opening_into
returns-in_err-opening_into c =
    let f : Fails c.in_err-opening_into.field-0.0 (all_openings_at c.args.tokens.now) =
    first_fails _ _ (λ first. openings_at >>= λ inner. done (first ∷ inner)) (pushed_fails c.new-levels.result.items c.in_err-opening_into.field-0.0 (opening_at c.args.tokens.now) c.in_err-opening_into.ensures) in
    grind (arith, f)

pub returns-in_err-opening_into-2 : goal.returns-in_err-opening_into-2
returns-in_err-opening_into-2 c =
    let f : Fails c.in_err-opening_into-2.field-0.0 (all_openings_at c.args.tokens.now) =
    folds_fail tokens (among tokens ADDRESS) opening_rule.law behind c.in_err-opening_into-2.field-0.0 c.each.levels.items c.each.tokens _ c.each-test.ensures (pushed_fails c.each.levels.items c.in_err-opening_into-2.field-0.0 (opening_at c.each.tokens) c.in_err-opening_into-2.ensures) c.each.invariant in
    grind (arith, f)
