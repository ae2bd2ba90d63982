use Rattle.std.proofs.Common.{◌≡◌, ◌<◌, Bool, false, not, Option, List, [], ◌∷◌, ◌++◌, length, Ok, sym, ap, ◌∙◌}
use Rattle.ir_lex.specs.Tok.{Tok}
use Rattle.ir_parse_parts.specs.Alphabet.{among}
use Rattle.ir_parse_parts.specs.Chained.{chain_at}
use Rattle.ir_parse_parts.specs.Readers.{Fails, folded, follow}
use Rattle.ir_parse_parts.proofs.ChainLoops.{chain_on, chain_none}
use Rattle.ir_parse_parts.proofs.Stars.{takes, folded_is}
use Rattle.ir_tree.specs.declared.operand.Reg.{Reg}
use Rattle.ir_parse_parts.specs.Classes.{tokens}
use Rattle.ir_parse_parts.specs.declared.raw.Incoming.{Incoming}
use Rattle.ir_parse_parts.specs.MetadataAt.{COMMA}
use Rattle.ir_parse_operands.specs.Adding.{anywhere}
use Rattle.ir_parse_bodies.specs.Phis.{keep}
use Rattle.ir_parse_bodies.specs.PhisAt.{all_entries_at, begins, further_at, entries_at}
use Rattle.ir_parse_operands.proofs.Additions.{chain_fails, gathered_fails, gathered_read}
use Rattle.ir_parse_bodies.proofs.PhiRules.{further_rule}
use Rattle.ir_parse_bodies.proofs.Successions.{passed_on}
use Rattle.ir_parse_bodies.proofs.phis.all_entries_at.Goals as goal

shorter : (r : Reg) (s : Bool) (ts rest : List Tok) (x : Option Incoming × Bool) → further_at r s ts ≡ Ok (x, rest) → length rest < length ts
shorter r s ts rest x e = takes tokens (among tokens COMMA) (further_rule r s).law ts rest x e

pub each-init : goal.each-init
unfolding entries_at
each-init c =
    ap (λ (x : List Incoming). folded keep x (chain_at anywhere begins (further_at c.args.reg) false c.incoming_at.new.tokens)) (c.in_ok-push.ensures.pushed ∙ ap (λ (x : List Incoming). x ++ c.in_ok-first.first ∷ []) c.new-entries.ensures.items)
    ∙ folded_is keep (c.in_ok-first.first ∷ []) (chain_at anywhere begins (further_at c.args.reg) false c.incoming_at.new.tokens)
    ∙ sym (ap (λ r. follow r (entries_at c.args.reg)) c.in_ok-first.ensures)

pub each-smaller : goal.each-smaller
each-smaller c =
    let a = gathered_read keep c.each.entries.items _ _ _ (further_at c.args.reg c.each.attached c.each.tokens) c.in_ok-attached.ensures in
    shorter c.args.reg c.each.attached _ _ a.0 a.1

pub each-preserved : goal.each-preserved
each-preserved c =
    let a = gathered_read keep c.each.entries.items _ _ _ (further_at c.args.reg c.each.attached c.each.tokens) c.in_ok-attached.ensures in
    ap (λ (x : List Incoming). folded keep x (chain_at anywhere begins (further_at c.args.reg) c.in_ok-attached.attached c.further_into.new.tokens)) a.2
    ∙ ap (λ (s : Bool). folded keep (keep c.each.entries.items a.0.0) (chain_at anywhere begins (further_at c.args.reg) s c.further_into.new.tokens)) a.3
    ∙ chain_on anywhere begins (further_at c.args.reg) (shorter c.args.reg) keep c.each.entries.items c.each.attached _ a.0 _ _ (ap not (sym c.each-test.ensures)) a.1 c.each.invariant

pub returns : goal.returns
returns c = chain_none anywhere begins (further_at c.args.reg) (shorter c.args.reg) keep c.each.entries.items c.each.attached _ _ (ap not (sym c.each-test.ensures)) c.each.invariant

pub returns-in_err-attached : goal.returns-in_err-attached
returns-in_err-attached c =
    let k = gathered_fails keep c.each.entries.items c.in_err-attached.field-0.0 (further_at c.args.reg c.each.attached c.each.tokens) c.in_err-attached.ensures in
    let f : Fails c.in_err-attached.field-0.0 (all_entries_at c.args.reg c.args.tokens.now) =
    chain_fails anywhere begins (further_at c.args.reg) keep c.in_err-attached.field-0.0 c.each.entries.items c.each.attached c.each.tokens _ (ap not (sym c.each-test.ensures)) k c.each.invariant in
    passed_on _ _ _ _ c.from_residual-in_err-attached.ensures f
