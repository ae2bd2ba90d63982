use Rattle.std.proofs.Common.{All}
use Rattle.back_pool.specs.Making.{IsTrusted}
use Rattle.back_pool.specs.Working.{AreAnswers, IsDone}
use Rattle.back_pool.proofs.pool.Pool.put_all.Given as goal

abbrev pub invariant-loop-one : goal.invariant-loop-one
invariant-loop-one g l = record {
  slots : AreAnswers (IsTrusted g.S.Setting.dir g.D.CacheDisk.fits g.S.Setting.files) g.B.Backend.makes l.self.tasks.now l.slots;
  rest : All (IsDone (IsTrusted g.S.Setting.dir g.D.CacheDisk.fits g.S.Setting.files) g.B.Backend.makes l.self.tasks.now) l.one-iterator.rest.items;
}
