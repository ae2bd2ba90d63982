use Rattle.std.proofs.Common.{◌≡◌, List, ◌-◌, sym, ap, ◌∙◌, arith}
use Rattle.ir_parse_parts.specs.Alphabet.{among}
use Rattle.ir_parse_parts.specs.Readers.{many_at}
use Rattle.ir_parse_parts.proofs.Loops.{with_front, goes_on, stops}
use Rattle.ir_parse_parts.specs.Classes.{tokens}
use Rattle.ir_parse_parts.specs.declared.raw.Param.{Param}
use Rattle.ir_parse_heads.specs.FunctionHeadsAt.{further_param_at, params_behind_at}
use Rattle.ir_parse_parts.specs.MetadataAt.{COMMA}
use Rattle.ir_parse_heads.proofs.Fronts.{front_is}
use Rattle.ir_parse_heads.proofs.function_heads.params_behind_at.Goals as goal

pub each-preserved : goal.each-preserved
each-preserved c =
    ap (λ (x : List Param). with_front x (many_at (among tokens COMMA) further_param_at (c.each.left - 1) c.further_param_at.new.tokens)) c.in_ok-push.ensures.items
    ∙ goes_on (among tokens COMMA) further_param_at c.each.params.items c.each.left _ _ _ _ (omega arith) c.each-test.ensures c.in_ok-param.ensures c.each.invariant

pub returns : goal.returns
unfolding params_behind_at
returns c = sym (front_is c.args.front.items _) ∙ stops (among tokens COMMA) further_param_at c.each.params.items c.each.left _ _ c.each-test.ensures c.each.invariant
