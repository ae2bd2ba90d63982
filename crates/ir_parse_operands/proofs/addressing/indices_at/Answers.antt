use Rattle.std.proofs.Common.{◌≡◌, ◌<◌, Bool, false, not, Option, List, [], length, Ok, sym, ap, ◌∙◌, arith}
use Rattle.std.specs.List.{fold}
use Rattle.ir_lex.specs.Tok.{Tok}
use Rattle.ir_parse_parts.specs.Alphabet.{among}
use Rattle.ir_parse_parts.specs.Chained.{chain_at}
use Rattle.ir_parse_parts.specs.Readers.{Fails, done, follow, folded}
use Rattle.ir_parse_parts.proofs.ChainLoops.{chain_on, chain_none}
use Rattle.ir_parse_parts.proofs.Stars.{takes, folded_is}
use Rattle.ir_parse_operands.specs.Addressing.{keep}
use Rattle.ir_parse_operands.specs.AddressingAt.{begins, further_at, indices_at}
use Rattle.ir_parse_parts.specs.Classes.{tokens}
use Rattle.ir_parse_parts.specs.declared.raw.Argument.{Argument}
use Rattle.ir_parse_parts.specs.MetadataAt.{COMMA}
use Rattle.ir_parse_operands.specs.Adding.{anywhere}
use Rattle.ir_parse_operands.proofs.Additions.{chain_fails, gathered_fails, gathered_read}
use Rattle.ir_parse_operands.proofs.AddressingRules.{further_rule}
use Rattle.ir_parse_operands.proofs.addressing.indices_at.Goals as goal

shorter : (s : Bool) (ts rest : List Tok) (x : Option Argument × Bool) → further_at s ts ≡ Ok (x, rest) → length rest < length ts
shorter s ts rest x e = takes tokens (among tokens COMMA) (further_rule s).law ts rest x e

pub each-init : goal.each-init
each-init c = ap (λ (x : List Argument). folded keep x (chain_at anywhere begins further_at false c.args.tokens.now)) c.new-indices.ensures.items

pub each-smaller : goal.each-smaller
each-smaller c =
    let a = gathered_read keep c.each.indices.items _ _ _ (further_at c.each.attached c.each.tokens) c.in_ok-attached.ensures in
    shorter c.each.attached _ _ a.0 a.1

pub each-preserved : goal.each-preserved
each-preserved c =
    let a = gathered_read keep c.each.indices.items _ _ _ (further_at c.each.attached c.each.tokens) c.in_ok-attached.ensures in
    ap (λ (x : List Argument). folded keep x (chain_at anywhere begins further_at c.in_ok-attached.attached c.further_into.new.tokens)) a.2
    ∙ ap (λ (s : Bool). folded keep (keep c.each.indices.items a.0.0) (chain_at anywhere begins further_at s c.further_into.new.tokens)) a.3
    ∙ chain_on anywhere begins further_at shorter keep c.each.indices.items c.each.attached _ a.0 _ _ (ap not (sym c.each-test.ensures)) a.1 c.each.invariant

pub returns : goal.returns
unfolding indices_at
returns c = sym (folded_is keep [] (chain_at anywhere begins further_at false c.args.tokens.now)) ∙ chain_none anywhere begins further_at shorter keep c.each.indices.items c.each.attached _ _ (ap not (sym c.each-test.ensures)) c.each.invariant

pub returns-in_err-attached : goal.returns-in_err-attached
unfolding indices_at
returns-in_err-attached c =
    let k = gathered_fails keep c.each.indices.items c.in_err-attached.field-0.0 (further_at c.each.attached c.each.tokens) c.in_err-attached.ensures in
    let f : Fails c.in_err-attached.field-0.0 (follow (chain_at anywhere begins further_at false c.args.tokens.now) (λ all. done (fold keep [] all))) =
    chain_fails anywhere begins further_at keep c.in_err-attached.field-0.0 c.each.indices.items c.each.attached c.each.tokens _ (ap not (sym c.each-test.ensures)) k (c.each.invariant ∙ folded_is keep [] (chain_at anywhere begins further_at false c.args.tokens.now)) in
    grind (arith, f)
