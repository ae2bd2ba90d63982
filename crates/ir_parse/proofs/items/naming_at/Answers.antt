use Rattle.std.proofs.Common.{List, Result, sym, ap, subst, ◌∙◌, arith}
use Rattle.ir_lex.specs.Tok.{Tok}
use Rattle.ir_parse_parts.specs.declared.fault.Fault.{Fault}
use Rattle.ir_parse_parts.specs.declared.places.Before.TheVariants as befores
use Rattle.ir_parse_parts.specs.declared.raw.Item.{Item}
use Rattle.ir_parse_parts.specs.Readers.{Fails, done, follow}
use Rattle.ir_parse_operands.proofs.Additions.{first_fails}
use Rattle.ir_parse.specs.ItemFormsAt.{naming_at}
use Rattle.ir_parse.specs.Putting.{behind_at}
use Rattle.ir_parse.proofs.Putting.{declaration_comes, defining_comes}
use Rattle.ir_parse.proofs.items.naming_at.Goals as goal

pub returns-in_ok-declaration_into : goal.returns-in_ok-declaration_into
returns-in_ok-declaration_into c =
    declaration_comes c.args.items.now.items c.args.tokens.now c.args.room (sym c.comes.ensures ∙ c.if-comes.true) ∙ c.in_ok-declaration_into.ensures

pub returns-in_ok-defining_into : goal.returns-in_ok-defining_into
returns-in_ok-defining_into c =
    defining_comes c.args.items.now.items c.args.tokens.now c.args.room (sym c.comes.ensures ∙ c.if-comes.false)
    ∙ ap (λ (r : Result (List Item × List Tok) Fault). follow r (λ is. done (is, befores.Item))) c.in_ok-defining_into.ensures

pub returns-in_err-declaration_into : goal.returns-in_err-declaration_into
returns-in_err-declaration_into c =
    let f : Fails c.in_err-declaration_into.field-0.0 (behind_at c.args.items.now.items (naming_at c.args.room) c.args.tokens.now) =
    subst (Fails c.in_err-declaration_into.field-0.0) (sym (declaration_comes c.args.items.now.items c.args.tokens.now c.args.room (sym c.comes.ensures ∙ c.if-comes.true))) c.in_err-declaration_into.ensures in
    grind (arith, f)

pub returns-in_err-defining_into : goal.returns-in_err-defining_into
returns-in_err-defining_into c =
    let f : Fails c.in_err-defining_into.field-0.0 (behind_at c.args.items.now.items (naming_at c.args.room) c.args.tokens.now) =
    subst (Fails c.in_err-defining_into.field-0.0) (sym (defining_comes c.args.items.now.items c.args.tokens.now c.args.room (sym c.comes.ensures ∙ c.if-comes.false)))
    (first_fails c.in_err-defining_into.field-0.0 _ (λ is. done (is, befores.Item)) c.in_err-defining_into.ensures) in
    grind (arith, f)
