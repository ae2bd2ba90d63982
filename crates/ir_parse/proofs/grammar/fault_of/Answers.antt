use Rattle.std.proofs.Common.{◌-◌, List, length, drop, ap, ◌∙◌}
use Rattle.ir_lex.specs.declared.token.Token.{Token}
use Rattle.ir_parse.proofs.Stuck.{stopped_at, stopped_behind}
use Rattle.ir_parse.proofs.grammar.fault_of.Goals as goal

pub returns-in_ok-kind-in-len1-up : goal.returns-in_ok-kind-in-len1-up
returns-in_ok-kind-in-len1-up c =
    stopped_at c.last_of.result.now _ _ c.args.lexed.now.whole c.args.lexed.now.line c.args.refusal.kind c.in_ok-kind-in-len1-up.kind c.in-len1-up.len_at_least (c.last_of.ensures ∙ ap (λ (all : List Token). drop (length all - c.args.refusal.left) all) c.deref.ensures.value) c.in_ok-kind-in-len1-up.ensures

pub returns-in-empty : goal.returns-in-empty
returns-in-empty c =
    stopped_behind c.last_of.result.now _ c.args.lexed.now.whole c.args.lexed.now.line c.fault_behind.result.line c.args.refusal.kind c.fault_behind.result.kind c.in-empty.len_below (c.last_of.ensures ∙ ap (λ (all : List Token). drop (length all - c.args.refusal.left) all) c.deref.ensures.value) c.fault_behind.ensures.line c.fault_behind.ensures.kind
