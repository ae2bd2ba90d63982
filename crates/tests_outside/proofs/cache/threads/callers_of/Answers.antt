use Rattle.std.proofs.lemmas.List.Elements.{All-same, All-push}
use Rattle.cache_slot.specs.Places.{IsAt}
use Rattle.tests_outside.specs.declared.cache.threads.Caller.{Caller}
use Rattle.tests_outside.proofs.cache.threads.callers_of.Goals as goal

pub loop-preserved : goal.loop-preserved
loop-preserved g c = record {
  first = c.split-pass.ensures.pass.0;
  callers = All-same (λ (x : Caller g.row.S.Denot g.S.Setting). IsAt c.args.cache.now.lock.table.shared.table_id x.pass.place.seat) _ _ c.in_ok-push.ensures.items
      (All-push (λ (x : Caller g.row.S.Denot g.S.Setting). IsAt c.args.cache.now.lock.table.shared.table_id x.pass.place.seat) c.loop.callers.items _ c.loop.invariant.callers c.split-pass.ensures.new.0);
}
