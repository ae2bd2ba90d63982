use Rattle.std.proofs.Common.{List, ap, sym, subst, ◌∙◌}
use Rattle.ir_lex.specs.declared.token.Token.{Token}
use Rattle.ir_lex.specs.Tok.{toks}
use Rattle.ir_tree.specs.declared.failure.Failure.{Failure}
use Rattle.ir_parse_parts.specs.declared.fault.Fault.{Fault}
use Rattle.ir_parse_parts.specs.Readers.{Fails}
use Rattle.ir_parse.specs.Modules.{module_of}
use Rattle.ir_parse.proofs.Stuck.{behind_so, stuck_so, whole_so}
use Rattle.ir_parse.proofs.grammar.items_in.Goals as goal

pub returns-then-lexed-clause-found : goal.returns-then-lexed-clause-found
returns-then-lexed-clause-found c =
    whole_so c.args.lexed.now.tokens.items c.items_of.new.items.items c.args.lexed.now.whole (ap (λ (all : List Token). module_of (toks all)) (sym c.deref.ensures.value) ∙ c.in-Ok.ensures) c.if-lexed.true

pub returns-else-lexed-clause-fault : goal.returns-else-lexed-clause-fault
returns-else-lexed-clause-fault c =
    behind_so c.args.lexed.now.tokens.items c.items_of.new.items.items c.args.lexed.now.whole c.args.lexed.now.line c.fault_behind.result (ap (λ (all : List Token). module_of (toks all)) (sym c.deref.ensures.value) ∙ c.in-Ok.ensures) c.if-lexed.false c.fault_behind.ensures.line c.fault_behind.ensures.kind

pub returns-in_ok-fault-in-Err-Fault-clause-fault : goal.returns-in_ok-fault-in-Err-Fault-clause-fault
returns-in_ok-fault-in-Err-Fault-clause-fault c =
    stuck_so c.args.lexed.now.tokens.items c.args.lexed.now.whole c.args.lexed.now.line c.in-Err-Fault.refusal c.in_ok-fault-in-Err-Fault.fault (ap (λ (all : List Token). module_of (toks all)) (sym c.deref.ensures.value) ∙ subst (λ (e : Failure Fault). Fails e (module_of (toks c.deref.result.now))) c.in-Err-Fault.field-0-is c.in-Err-Fault.ensures) c.in_ok-fault-in-Err-Fault.ensures
