use Rattle.std.proofs.Common.{nat_eq}
use Rattle.std.specs.HashMap.{get}
use Rattle.inline_site.proofs.Backwards.{names_before}
use Rattle.inline_site.proofs.names.Names.of.Goals as goal

pub loop-place-preserved : goal.loop-place-preserved
loop-place-preserved c =
    names_before (get nat_eq c.loop-place.names.last) (get nat_eq c.insert.new.self) c.args.halves.now c.loop-place.place _ c.name-last.result c.loop-place-test.true c.loop-place.auto.place c.loop-place.invariant
    c.name-last.ensures c.in_ok-insert.ensures.updates.0
