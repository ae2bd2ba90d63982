use Rattle.std.proofs.Common.{◌∙◌, ◌+◌, ◌++◌, ap, sym, arith, drop, map, List, Some}
use Rattle.clap.specs.Walk.{texts}
use Rattle.lto_words.specs.Values.{decimal}
use Rattle.lto_words.specs.declared.list.Decimal.{Decimal}
use Rattle.lto_words.proofs.Lists.{decimal_more, decimals_done, no_decimal}
use Rattle.lto_words.proofs.list.all_decimals.Goals as goal

pub loop-part-init : goal.loop-part-init
loop-part-init c = ap (λ (z : List Decimal). map (λ d. Some d) z ++ map decimal (texts c.args.parts.now)) c.new-numbers.ensures

pub returns-in_default : goal.returns-in_default
returns-in_default c =
    no_decimal c.loop-part.numbers c.args.parts.now c.loop-part.part-index _ (omega arith) c.loop-part.invariant (sym c.decimal_of.ensures ∙ c.in_default.is)

pub loop-part-preserved : goal.loop-part-preserved
loop-part-preserved c =
    ap (λ (z : List Decimal). map (λ d. Some d) z ++ map decimal (texts (drop (c.loop-part.part-index + 1) c.args.parts.now))) c.in_ok-push.ensures.ok
    ∙ decimal_more c.loop-part.numbers c.args.parts.now c.loop-part.part-index _ c.in-Some.number (omega arith) c.loop-part.invariant (sym c.decimal_of.ensures ∙ c.in-Some.is)

pub returns : goal.returns
returns c = decimals_done c.loop-part.numbers c.args.parts.now c.loop-part.part-index (omega arith) c.loop-part.invariant
