use Rattle.std.proofs.Common.{◌∙◌}
use Rattle.importer.proofs.NameSets.{name_more}
use Rattle.importer.proofs.names.set_of.Goals as goal

pub loop-name-preserved : goal.loop-name-preserved
loop-name-preserved c = λ name.
    name_more c.loop-name.set c.insert.new.self c.as_slice.result c.args.names.now c.loop-name.name-index c.name-item.result c.loop-name-test.true (c.as_slice.ensures ∙ c.name-item.is)
    c.in_ok-insert.ensures.updates name (c.loop-name.invariant name)
