use Rattle.std.proofs.Common.{All, subst}
use Rattle.std.proofs.lemmas.List.Elements.{All-head, All-rest}
use Rattle.back_pool.specs.Making.{IsTrusted}
use Rattle.back_pool.specs.Working.{IsDone}
use Rattle.back_pool.proofs.pool.Pool.put_all.Goals as goal

pub put-requires-clause-done : goal.put-requires-clause-done
put-requires-clause-done g c =
    let P = IsDone (IsTrusted g.S.Setting.dir g.D.CacheDisk.fits g.S.Setting.files) g.B.Backend.makes c.args.self.now.tasks.now in
    All-head P _ _ (subst (All P) c.in-Some.ensures.steps.0 c.loop-one.invariant.rest)

pub loop-one-preserved : goal.loop-one-preserved
loop-one-preserved g c = record {
  slots = c.put.ensures.slots;
  rest = All-rest (IsDone (IsTrusted g.S.Setting.dir g.D.CacheDisk.fits g.S.Setting.files) g.B.Backend.makes c.args.self.now.tasks.now) _ _ _ c.in-Some.ensures.steps.0 c.loop-one.invariant.rest;
}
