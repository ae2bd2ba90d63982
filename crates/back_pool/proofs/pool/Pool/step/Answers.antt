use Rattle.std.proofs.Common.{◌∙◌, ◌<◌, ◌≤◌, ℕ, arith, length, slice_index_or, subst, sym}
use Rattle.std.proofs.lemmas.Option.{slice_get-get_or}
use Rattle.claim_word.specs.Passes.{draws_of}
use Rattle.back_pool.specs.Making.{IsTrusted}
use Rattle.back_pool.proofs.Doing.{counted_more, done_more, drawn}
use Rattle.back_pool.proofs.pool.Pool.step.Goals as goal

pub returns-clause-done : goal.returns-clause-done
returns-clause-done g c =
    let pool = c.args.self.now in
    let tasks = pool.tasks.now in
    let all = pool.all in
    let number = drawn _ c.in-Some.number c.in-Some.ensures.ended c.in-Some.ensures.drawn in
    let below : c.in-Some.number < length tasks = omega (arith, all, number.0) in
    done_more (IsTrusted g.S.Setting.dir g.D.CacheDisk.fits g.S.Setting.files) g.B.Backend.makes tasks c.in-Some.number (slice_index_or tasks c.in-Some.number c.index-self-number.result)
    (slice_get-get_or tasks c.in-Some.number c.index-self-number.result below)
    c.answer.result c.answer.ensures.answer c.ok-pieces.result c.ok-pieces.ensures.value c.args.worker.now.done.items c.push_reserved.new.self.items c.requires.done c.push_reserved.ensures.items

pub returns-clause-worker : goal.returns-clause-worker
returns-clause-worker g c =
    let worker = c.requires.worker in
    let same = c.claim.ensures.pass in
    let number = drawn _ c.in-Some.number c.in-Some.ensures.ended c.in-Some.ensures.drawn in
    record {
      of_word = (same.0 ∙ worker.of_word.0, same.2 ∙ worker.of_word.1);
      of_cache = c.answer.ensures.pass;
      counted = counted_more c.args.worker.now.done.items c.push_reserved.new.self.items _ (draws_of c.args.worker.now.draws) (draws_of c.claim.new.pass) c.in-Some.number worker.counted c.push_reserved.ensures.items number.1;
      roomy = subst (λ (n : ℕ). c.args.self.now.claims.limit ≤ n) (sym c.push_reserved.ensures.capacity) worker.roomy;
    }
