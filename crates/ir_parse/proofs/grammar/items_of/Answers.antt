use Rattle.std.proofs.Common.{ℕ, List, length, Err, sym, ap, ◌∙◌}
use Rattle.ir_lex.specs.Tok.{Tok}
use Rattle.ir_lex.specs.TokenKinds.{number}
use Rattle.ir_parse_parts.specs.declared.fault.TokenFault.{TokenFault}
use Rattle.ir_parse_parts.specs.Readers.{ended, whole_of}
use Rattle.ir_parse_heads.specs.FunctionHeads.{name_refusal}
use Rattle.ir_parse.specs.ItemFormsAt.{items_at}
use Rattle.ir_parse.specs.Modules.{FURTHER_PARAMETERS, GLOBAL_NAMES, item_refusal, module_of}
use Rattle.ir_parse.proofs.grammar.items_of.Goals as goal

pub returns-in-None : goal.returns-in-None
unfolding module_of FURTHER_PARAMETERS GLOBAL_NAMES
returns-in-None c =
    ap (λ (ts : List Tok). whole_of item_refusal (items_at FURTHER_PARAMETERS GLOBAL_NAMES ts)) (sym c.new-rest.ensures)
    ∙ ap (whole_of item_refusal) c.in_ok-items_into.ensures
    ∙ ap (ended item_refusal c.items_into.new.items.items) c.in-None.ensures.0

pub returns-in-Some : goal.returns-in-Some
unfolding module_of FURTHER_PARAMETERS GLOBAL_NAMES
returns-in-Some c =
    ap (λ (ts : List Tok). whole_of item_refusal (items_at FURTHER_PARAMETERS GLOBAL_NAMES ts)) (sym c.new-rest.ensures)
    ∙ ap (whole_of item_refusal) c.in_ok-items_into.ensures
    ∙ ap (ended item_refusal c.items_into.new.items.items) c.in-Some.ensures
    ∙ ap (λ (n : ℕ). Err (record { left = n; kind = name_refusal (number c.in-Some.t.kind) })) (sym (c.left-left.ensures ∙ ap length c.in-Some.ensures))
    ∙ ap (λ (k : TokenFault). Err (record { left = c.left-left.result; kind = k })) (sym c.name_refusal.ensures)
