use Rattle.std.proofs.Common.{All}
use Rattle.std.specs.Prelude.{vec_capacity}
use Rattle.back_pool.specs.Making.{IsTrusted}
use Rattle.back_pool.specs.Working.{IsAtWork, IsDone}
use Rattle.back_pool.proofs.pool.Pool.work.Given as goal

abbrev pub invariant-draws : goal.invariant-draws
invariant-draws g l = record {
  worker : IsAtWork l.self.claims l.self.cache.now.lock.table.shared.table_id l.worker.draws l.worker.pass.place.seat l.worker.done.items (vec_capacity l.worker.done);
  done : All (IsDone (IsTrusted g.S.Setting.dir g.D.CacheDisk.fits g.S.Setting.files) g.B.Backend.makes l.self.tasks.now) l.worker.done.items;
}
