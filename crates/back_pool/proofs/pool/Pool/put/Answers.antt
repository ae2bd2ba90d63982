use Rattle.std.proofs.Common.{◌≡◌, ◌<◌, List, Option, Some, arith, length, subst}
use Rattle.std.specs.Prelude.{IfSome}
use Rattle.std.proofs.lemmas.Option.{slice_get_within}
use Rattle.std.proofs.lemmas.Slice.Zip.{AllZip-long}
use Rattle.lto_task.specs.Tasks.{task_view}
use Rattle.lto_task.specs.declared.piece.Piece.{Piece}
use Rattle.back_pool.specs.Making.{IsAnswer, IsTrusted}
use Rattle.back_pool.specs.Working.{IsAnswerAt}
use Rattle.back_pool.proofs.Slots.{zip_set}
use Rattle.back_pool.proofs.pool.Pool.put.Goals as goal

pub bounds-slots-number : goal.bounds-slots-number
bounds-slots-number g c =
    let trusted = IsTrusted g.S.Setting.dir g.D.CacheDisk.fits g.S.Setting.files in
    let tasks = c.args.self.now.tasks.now in
    let there : IsAnswerAt trusted g.B.Backend.makes tasks c.args.done.number c.in-Some.pieces = subst (λ (o : Option (List Piece)). IfSome o (IsAnswerAt trusted g.B.Backend.makes tasks c.args.done.number)) c.in-Some.is c.requires.done in
    let within : c.args.done.number < length tasks = slice_get_within tasks c.args.done.number there.0 there.1 in
    let same : length c.args.slots.now ≡ length tasks = AllZip-long (λ t slot. IfSome slot (IsAnswer trusted g.B.Backend.makes (task_view t))) tasks c.args.slots.now c.requires.slots in
    omega (arith, within, same)

pub returns-in-Some : goal.returns-in-Some
returns-in-Some g c =
    let trusted = IsTrusted g.S.Setting.dir g.D.CacheDisk.fits g.S.Setting.files in
    let tasks = c.args.self.now.tasks.now in
    let there : IsAnswerAt trusted g.B.Backend.makes tasks c.args.done.number c.in-Some.pieces = subst (λ (o : Option (List Piece)). IfSome o (IsAnswerAt trusted g.B.Backend.makes tasks c.args.done.number)) c.in-Some.is c.requires.done in
    record {
      slots = zip_set (λ t slot. IfSome slot (IsAnswer trusted g.B.Backend.makes (task_view t))) tasks c.args.slots.now c.args.done.number there.0 (Some c.in-Some.pieces) there.1 c.requires.slots there.2;
    }
