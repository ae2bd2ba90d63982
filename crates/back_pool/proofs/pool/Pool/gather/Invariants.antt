use Rattle.std.proofs.Common.{All}
use mathlib.Core.List.{IsPrefix}
use Rattle.cache_slot.specs.Places.{IsAt, seen_by}
use Rattle.back_pool.specs.Making.{IsTrusted}
use Rattle.back_pool.specs.Working.{AreAnswers, IsDone}
use Rattle.back_pool.proofs.pool.Pool.gather.Given as goal

abbrev pub invariant-loop-worker : goal.invariant-loop-worker
invariant-loop-worker g l = record {
  pass : IsAt l.self.cache.now.lock.table.shared.table_id l.pass.place.seat;
  seen : IsPrefix (seen_by l.initial.pass.place.seat) (seen_by l.pass.place.seat);
  slots : AreAnswers (IsTrusted g.S.Setting.dir g.D.CacheDisk.fits g.S.Setting.files) g.B.Backend.makes l.self.tasks.now l.slots;
  workers : All (λ w. IsAt l.self.cache.now.lock.table.shared.table_id w.pass.place.seat) l.worker-iterator.rest.items;
  done : All (λ w. All (IsDone (IsTrusted g.S.Setting.dir g.D.CacheDisk.fits g.S.Setting.files) g.B.Backend.makes l.self.tasks.now) w.done.items) l.worker-iterator.rest.items;
}
