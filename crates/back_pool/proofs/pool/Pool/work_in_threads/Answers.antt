use mir.Syntax.{named}
use denote.Param.Send.{param_send, param_sync}
use Rattle.std.proofs.alloc.Global.TheSendSync as heap
use Rattle.back_pool.proofs.PoolSent.{pool_sync}
use Rattle.back_pool.proofs.pool.Pool.work_in_threads.Goals as goal

-- the closure holds references to the pool, the runtime and the heap
pub for_each_mut-requires-sync-F : goal.for_each_mut-requires-sync-F
for_each_mut-requires-sync-F g c κs within =
    let b = c.type_bounds in
    let pool = pool_sync _ _ g.D.CacheDisk g.S.Setting (param_send 0 _ b.send-D) (param_send 1 _ b.send-S) _ _ g.B.Backend (param_sync 2 _ b.sync-B) (param_sync 3 _ b.sync-G) (record { mir = named 7; lft = _ }) in
    record {
      shared = λ x b' o κ. (
        (
          ((λ q. tt), pool.shared x.0.now x.0.ref_ptr.0 x.0.ref_ptr.1 _),
          (
            ((λ q. tt), b.sync-R.shared x.1.now x.1.ref_ptr.0 x.1.ref_ptr.1 _),
            (((λ q. tt), heap.the_sync.shared x.2.now x.2.ref_ptr.0 x.2.ref_ptr.1 κ), tt),
          ),
        ),
        λ q. tt,
      );
    }
