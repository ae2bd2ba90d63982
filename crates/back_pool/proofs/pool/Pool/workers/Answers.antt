use Rattle.std.proofs.Common.{◌∙◌, All, arith, rules, ap, length, refl}
use Rattle.std.specs.Prelude.{vec_capacity}
use Rattle.std.proofs.lemmas.List.Elements.{All-nil, All-push, All-same}
use Rattle.back_pool.specs.Making.{IsTrusted}
use Rattle.back_pool.specs.Working.{IsAtWork, IsDone}
use Rattle.back_pool.specs.declared.worker.Worker.{Worker}
use Rattle.back_pool.proofs.pool.Pool.workers.Goals as goal

pub loop-number-preserved : goal.loop-number-preserved
loop-number-preserved g c =
    let pool = c.args.self.now in
    let P = λ (w : Worker g.row.D.Denot g.row.S.Denot g.D.CacheDisk g.S.Setting). IsAtWork pool.claims pool.cache.now.lock.table.shared.table_id w.draws w.pass.place.seat w.done.items (vec_capacity w.done) in
    let Q = λ (w : Worker g.row.D.Denot g.row.S.Denot g.D.CacheDisk g.S.Setting). All (IsDone (IsTrusted g.S.Setting.dir g.D.CacheDisk.fits g.S.Setting.files) g.B.Backend.makes pool.tasks.now) w.done.items in
    let empty = c.in_ok-done.ensures.items in
    let none = ap length empty in
    let all = pool.all in
    let room = c.in_ok-done.ensures.capacity in
    record {
      draws = search rules;
      pass = c.split-pass.ensures.pass.0;
      seen = c.split-pass.ensures.pass.1 ∙ c.loop-number.invariant.seen;
      workers = All-same P _ _ c.in_ok-push.ensures.items
          (All-push P c.loop-number.workers.items _ c.loop-number.invariant.workers record {
            of_word = c.in-Ok.ensures.made.0;
            of_cache = c.split-pass.ensures.new.0;
            counted = omega (arith, none);
            roomy = omega (arith, all, room);
          });
      done = All-same Q _ _ c.in_ok-push.ensures.items (All-push Q c.loop-number.workers.items _ c.loop-number.invariant.done (search rules));
    }

pub loop-number-init : goal.loop-number-init
loop-number-init g c =
    let pool = c.args.self.now in
    let P = λ (w : Worker g.row.D.Denot g.row.S.Denot g.D.CacheDisk g.S.Setting). IsAtWork pool.claims pool.cache.now.lock.table.shared.table_id w.draws w.pass.place.seat w.done.items (vec_capacity w.done) in
    let Q = λ (w : Worker g.row.D.Denot g.row.S.Denot g.D.CacheDisk g.S.Setting). All (IsDone (IsTrusted g.S.Setting.dir g.D.CacheDisk.fits g.S.Setting.files) g.B.Backend.makes pool.tasks.now) w.done.items in
    record {
      draws = c.requires.draws;
      pass = c.requires.pass;
      seen = refl;
      workers = All-same P _ _ c.new-workers.ensures.items (All-nil P);
      done = All-same Q _ _ c.new-workers.ensures.items (All-nil Q);
    }
