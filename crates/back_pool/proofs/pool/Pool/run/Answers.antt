use Rattle.std.proofs.Common.{◌≡◌, ◌∙◌, ◌++◌, List, Option, arith, drop, length, subst, sym, take}
use Rattle.std.specs.Prelude.{IfSome}
use Rattle.std.specs.List.{AllZip}
use Rattle.std.proofs.lemmas.Grind.{common_steps}
use Rattle.std.proofs.lemmas.Result.{IfOk-weaker}
use Rattle.std.proofs.lemmas.Slice.Zip.{AllZip-long}
use Rattle.cache_slot.proofs.Prefixes.{prefix_self}
use Rattle.lto_task.specs.Tasks.{task_view}
use Rattle.lto_task.specs.declared.piece.Piece.{Piece}
use Rattle.lto_task.specs.declared.task.Task.{Task}
use Rattle.back_pool.specs.Making.{IsAnswer, IsTrusted}
use Rattle.back_pool.proofs.Slots.{zip_filled, zip_none}
use Rattle.back_pool.proofs.pool.Pool.run.Goals as goal

pub fill-requires-clause-slots : goal.fill-requires-clause-slots
fill-requires-clause-slots g c κs within =
    let R : Task → List Piece → Type 0 = λ t ps. IsAnswer (IsTrusted g.S.Setting.dir g.D.CacheDisk.fits g.S.Setting.files) g.B.Backend.makes (task_view t) ps in
    subst (λ (slots : List (Option (List Piece))). AllZip (λ t slot. IfSome slot (R t)) c.args.self.now.tasks.now slots) (sym c.as_mut_slice.ensures.value)
    (zip_none R c.args.self.now.tasks.now c.in_ok-slots.slots.items c.in_ok-slots.ensures.0 c.in_ok-slots.ensures.1)

pub returns-clause-each : goal.returns-clause-each
returns-clause-each g c =
    let R : Task → List Piece → Type 0 = λ t ps. IsAnswer (IsTrusted g.S.Setting.dir g.D.CacheDisk.fits g.S.Setting.files) g.B.Backend.makes (task_view t) ps in
    let tasks = c.args.self.now.tasks.now in
    let slots : List (Option (List Piece)) = c.fill.new.slots in
    let count : length slots ≡ length tasks = AllZip-long (λ t slot. IfSome slot (R t)) tasks slots c.in_ok-fill.ensures.slots in
    let whole : take c.in_ok-slots.slots.len (slots ++ drop (length slots) c.in_ok-slots.slots.items) ≡ slots = grind (arith, common_steps) in
    IfOk-weaker c.taken.result _ _
    (λ units is. zip_filled R tasks units.items (subst (λ (l : List (Option (List Piece))). AllZip (λ t slot. IfSome slot (R t)) tasks l) (sym whole ∙ is) c.in_ok-fill.ensures.slots))
    c.taken.ensures

pub returns-in_err-slots-clause-seen : goal.returns-in_err-slots-clause-seen
returns-in_err-slots-clause-seen g c = prefix_self _

pub returns-in_err-units-clause-seen : goal.returns-in_err-units-clause-seen
returns-in_err-units-clause-seen g c = prefix_self _
