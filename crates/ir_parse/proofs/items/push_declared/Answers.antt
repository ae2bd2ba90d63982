use Rattle.std.proofs.Common.{◌≡◌, nat_eq, Bool, List, ap, sym, subst, ◌∙◌}
use Rattle.std.specs.Prelude.{OnOk}
use Rattle.ir_lex.specs.Tok.{Tok}
use Rattle.ir_lex.specs.TokenKinds.{number}
use Rattle.ir_lex.specs.declared.token_kind.TokenKind.TheVariants as kinds
use Rattle.ir_parse_parts.specs.declared.raw.Item.{Item}
use Rattle.ir_parse.proofs.Putting.{declared_dropped, declared_kept}
use Rattle.ir_parse.proofs.items.push_declared.Goals as goal

abbrev is_marker : Tok → Bool
is_marker name = nat_eq (number name.kind) (number kinds.LifetimeMarker)

pub returns-then-is-clause-pushed : goal.returns-then-is-clause-pushed
returns-then-is-clause-pushed c =
    sym (declared_dropped c.args.items.now.items c.args.head (ap is_marker c.token.ensures ∙ sym c.is.ensures ∙ c.if-is.true))

pub returns-else-is-clause-pushed : goal.returns-else-is-clause-pushed
returns-else-is-clause-pushed c =
    subst (λ (is : List Item). OnOk c.push.result (c.push.new.list.items ≡ is))
    (sym (declared_kept c.args.items.now.items c.args.head (ap is_marker c.token.ensures ∙ sym c.is.ensures ∙ c.if-is.false))) c.push.ensures.pushed
