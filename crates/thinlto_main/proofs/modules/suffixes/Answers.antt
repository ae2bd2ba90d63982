use Rattle.std.proofs.Common.{◌∙◌, ap, arith, take_all}
use Rattle.combined_index.specs.Suffixes.{suffix_of}
use Rattle.thinlto_main.specs.Linking.{suffixes_of}
use Rattle.thinlto_main.specs.Modules.{bytes_of}
use Rattle.thinlto_main.proofs.Reading.{mapped_next}
use Rattle.thinlto_main.proofs.modules.suffixes.Goals as goal

pub loop-bytes-preserved : goal.loop-bytes-preserved
loop-bytes-preserved c =
    mapped_next bytes_of suffix_of c.args.given.now c.loop-bytes.bytes-index c.bytes-item.result c.in_ok-suffix.field-0 c.loop-bytes.suffixes c.push.new.self c.loop-bytes-test.true c.bytes-item.is
    (c.in_ok-suffix.ensures ∙ ap suffix_of c.slice_of.ensures) c.loop-bytes.invariant c.in_ok-push.ensures.ok

pub returns : goal.returns
returns c = c.loop-bytes.invariant ∙ ap suffixes_of (take_all c.loop-bytes.bytes-index c.args.given.now (omega (arith, c.loop-bytes-test.false)))
