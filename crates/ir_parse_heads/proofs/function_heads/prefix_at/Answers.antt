use Rattle.std.proofs.Common.{◌≡◌, ◌<◌, Bool, not, false, Option, List, length, Ok, sym, ap, ◌∙◌}
use Rattle.ir_lex.specs.Tok.{Tok}
use Rattle.ir_tree.specs.declared.function.Linkage.{Linkage}
use Rattle.ir_tree.specs.declared.function.Linkage.TheVariants as linkages
use Rattle.ir_parse_parts.specs.Alphabet.{among}
use Rattle.ir_parse_parts.specs.Chained.{chain_at}
use Rattle.ir_parse_parts.specs.Readers.{folded}
use Rattle.ir_parse_parts.proofs.ChainLoops.{chain_on, chain_none}
use Rattle.ir_parse_parts.proofs.Stars.{takes, folded_is}
use Rattle.ir_parse_parts.specs.Classes.{tokens}
use Rattle.ir_parse_heads.specs.declared.function_heads.Role.{Role}
use Rattle.ir_parse_heads.specs.FunctionHeads.{at_will, with_linkage}
use Rattle.ir_parse_heads.specs.FunctionHeadsAt.{LEADING, begins_leading, leading_at, prefix_at}
use Rattle.ir_parse_heads.proofs.FunctionHeadRules.{leading_rule}
use Rattle.ir_parse_heads.proofs.function_heads.prefix_at.Goals as goal

shorter : (role : Role) (s : Bool) (ts rest : List Tok) (x : Option Linkage × Bool) → leading_at role s ts ≡ Ok (x, rest) → length rest < length ts
shorter role s ts rest x e = takes tokens (among tokens (LEADING role s)) (leading_rule role s).law ts rest x e

pub each-smaller : goal.each-smaller
each-smaller c = shorter c.args.role c.each.linked _ _ _ c.in_ok-leading.ensures

pub each-preserved : goal.each-preserved
each-preserved c =
    ap (λ (x : Linkage). folded with_linkage x (chain_at at_will (begins_leading c.args.role) (leading_at c.args.role) c.in_ok-leading.leading.linked c.leading_at.new.tokens)) c.with_linkage-linkage.ensures
    ∙ chain_on at_will (begins_leading c.args.role) (leading_at c.args.role) (shorter c.args.role) with_linkage c.each.linkage c.each.linked _ _ _ _ (ap not (sym c.each-test.ensures)) c.in_ok-leading.ensures c.each.invariant

pub returns : goal.returns
unfolding prefix_at
returns c = sym (folded_is with_linkage linkages.External (chain_at at_will (begins_leading c.args.role) (leading_at c.args.role) false c.args.tokens.now)) ∙ chain_none at_will (begins_leading c.args.role) (leading_at c.args.role) (shorter c.args.role) with_linkage c.each.linkage c.each.linked _ _ (ap not (sym c.each-test.ensures)) c.each.invariant
