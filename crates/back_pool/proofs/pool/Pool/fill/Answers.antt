use Rattle.std.proofs.Common.{All}
use Rattle.std.specs.Prelude.{vec_capacity}
use Rattle.std.proofs.lemmas.List.Elements.{All-append, All-drop, All-same, All-take, All-weaker}
use Rattle.cache_slot.specs.Places.{IsAt}
use Rattle.cache_slot.proofs.Prefixes.{prefix_self}
use Rattle.back_pool.specs.Making.{IsTrusted}
use Rattle.back_pool.specs.Working.{IsAtWork, IsDone}
use Rattle.back_pool.specs.declared.worker.Worker.{Worker}
use Rattle.back_pool.proofs.pool.Pool.fill.Goals as goal

pub work_in_threads-requires-clause-done : goal.work_in_threads-requires-clause-done
work_in_threads-requires-clause-done g c κs within =
    All-same (λ (w : Worker g.row.D.Denot g.row.S.Denot g.D.CacheDisk g.S.Setting). All (IsDone (IsTrusted g.S.Setting.dir g.D.CacheDisk.fits g.S.Setting.files) g.B.Backend.makes c.args.self.now.tasks.now) w.done.items) _ _
    c.as_mut_slice.ensures.value c.in_ok-workers.ensures.done

-- each worker of the list is one of the slice, which was lent, or was there before
pub gather-requires-clause-workers : goal.gather-requires-clause-workers
gather-requires-clause-workers g c =
    let pool = c.args.self.now in
    let P = λ (w : Worker g.row.D.Denot g.row.S.Denot g.D.CacheDisk g.S.Setting). IsAtWork pool.claims pool.cache.now.lock.table.shared.table_id w.draws w.pass.place.seat w.done.items (vec_capacity w.done) in
    All-take (λ (w : Worker g.row.D.Denot g.row.S.Denot g.D.CacheDisk g.S.Setting). IsAt pool.cache.now.lock.table.shared.table_id w.pass.place.seat) _ _
    (All-weaker P _ (λ w at. at.of_cache) _ (All-append P _ _ c.work_in_threads.ensures.workers (All-drop P _ _ c.in_ok-workers.ensures.workers)))

pub gather-requires-clause-done : goal.gather-requires-clause-done
gather-requires-clause-done g c =
    let P = λ (w : Worker g.row.D.Denot g.row.S.Denot g.D.CacheDisk g.S.Setting). All (IsDone (IsTrusted g.S.Setting.dir g.D.CacheDisk.fits g.S.Setting.files) g.B.Backend.makes c.args.self.now.tasks.now) w.done.items in
    All-take P _ _ (All-append P _ _ c.work_in_threads.ensures.done (All-drop P _ _ c.in_ok-workers.ensures.done))

pub returns-in_err-workers-clause-seen : goal.returns-in_err-workers-clause-seen
returns-in_err-workers-clause-seen g c = rw c.in_err-workers.ensures.seen (prefix_self _)
