use Rattle.std.proofs.Common.{All}
use Rattle.std.proofs.lemmas.List.Elements.{All-rest}
use Rattle.cache_slot.specs.Places.{IsAt}
use Rattle.back_pool.specs.Making.{IsTrusted}
use Rattle.back_pool.specs.Working.{IsDone}
use Rattle.back_pool.specs.declared.worker.Worker.{Worker}
use Rattle.cache_slot.proofs.Prefixes.{prefix_trans}
use Rattle.back_pool.proofs.pool.Pool.gather.Goals as goal

pub loop-worker-preserved : goal.loop-worker-preserved
loop-worker-preserved g c =
    let pool = c.args.self.now in
    record {
      pass = c.join.ensures.pass;
      seen = prefix_trans _ _ _ c.loop-worker.invariant.seen c.join.ensures.this;
      slots = c.put_all.ensures.slots;
      workers = All-rest (λ (w : Worker g.row.D.Denot g.row.S.Denot g.D.CacheDisk g.S.Setting). IsAt pool.cache.now.lock.table.shared.table_id w.pass.place.seat) _ _ _ c.in-Some.ensures.steps.0 c.loop-worker.invariant.workers;
      done = All-rest (λ (w : Worker g.row.D.Denot g.row.S.Denot g.D.CacheDisk g.S.Setting). All (IsDone (IsTrusted g.S.Setting.dir g.D.CacheDisk.fits g.S.Setting.files) g.B.Backend.makes pool.tasks.now) w.done.items) _ _ _ c.in-Some.ensures.steps.0 c.loop-worker.invariant.done;
    }
