use Rattle.std.proofs.Common.{◌∙◌, arith, take_all}
use Rattle.thinlto_main.proofs.Reading.{copied_next}
use Rattle.thinlto_main.proofs.modules.texts.Goals as goal

pub loop-name-preserved : goal.loop-name-preserved
loop-name-preserved c =
    copied_next c.args.names.now c.loop-name.name-index c.name-item.result c.in_ok-copied.field-0 c.loop-name.texts c.push.new.self c.loop-name-test.true c.name-item.is
    (c.in_ok-copied.ensures ∙ c.as_bytes.ensures.value ∙ c.as_str.ensures) c.loop-name.invariant c.in_ok-push.ensures.ok

pub returns : goal.returns
returns c = c.loop-name.invariant ∙ take_all c.loop-name.name-index c.args.names.now (omega (arith, c.loop-name-test.false))
