use Rattle.std.proofs.Common.{◌≡◌, All}
use Rattle.std.specs.Prelude.{vec_capacity}
use Rattle.cache_slot.specs.Places.{IsAt, seen_by}
use Rattle.claim_word.specs.Passes.{IsPassOf}
use Rattle.back_pool.specs.Making.{IsTrusted}
use Rattle.back_pool.specs.Working.{IsAtWork, IsDone}
use Rattle.back_pool.proofs.pool.Pool.workers.Given as goal

abbrev pub invariant-loop-number : goal.invariant-loop-number
invariant-loop-number g l = record {
  draws : IsPassOf l.self.claims l.draws;
  pass : IsAt l.self.cache.now.lock.table.shared.table_id l.pass.place.seat;
  seen : seen_by l.pass.place.seat ≡ seen_by l.initial.pass.place.seat;
  workers : All (λ w. IsAtWork l.self.claims l.self.cache.now.lock.table.shared.table_id w.draws w.pass.place.seat w.done.items (vec_capacity w.done)) l.workers.items;
  done : All (λ w. All (IsDone (IsTrusted g.S.Setting.dir g.D.CacheDisk.fits g.S.Setting.files) g.B.Backend.makes l.self.tasks.now) w.done.items) l.workers.items;
}
