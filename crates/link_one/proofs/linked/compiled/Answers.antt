use mathlib.Core.Logic.{∥∥₁_map}
use Rattle.std.proofs.Common.{List, All, subst, sym}
use Rattle.std.specs.List.{AllZip}
use Rattle.std.proofs.lemmas.Result.{IfOk-weaker}
use Rattle.lto_task.specs.Tasks.{TaskView, task_view}
use Rattle.lto_task.specs.declared.task.Task.{Task}
use Rattle.thin_link.specs.Views.{rows}
use Rattle.back_pool.specs.Making.{IsReady}
use Rattle.importer.specs.ModuleTasks.{AreTasks}
use Rattle.link_one.specs.TaskUnits.{HasVerifiedModules, IsTaskUnit}
use Rattle.link_one.specs.declared.prepare.Prepared.{Prepared}
use Rattle.link_one.proofs.LinkTasks.{all_tasks, units_made}
use Rattle.link_one.proofs.linked.compiled.Goals as goal

pub units-requires-clause-tasks : goal.units-requires-clause-tasks
units-requires-clause-tasks g c κs within =
    let p : Prepared = c.args.prepared.now in
    let are : AreTasks c.args.exports.now c.args.inline_limit p.index.symbols c.args.suffixes.now (rows p.imports.items) (rows p.promoted.items) p.parts.items c.in_ok-tasks.tasks.items = c.in_ok-tasks.ensures in
    let P : TaskView → Type 0 = IsReady g.S.Setting.keys g.D.CacheDisk.fits IsTaskUnit HasVerifiedModules in
    subst (All (λ (t : Task). P (task_view t))) (sym c.deref.ensures.value)
    (all_tasks c.args.exports.now c.args.inline_limit p.index.symbols c.args.suffixes.now (rows p.imports.items) (rows p.promoted.items) p.parts.items c.in_ok-tasks.tasks.items are P
    (λ k t below task. c.requires.ready t (record { number = k; within = below; task = task })))

pub returns-clause-units : goal.returns-clause-units
returns-clause-units g c =
    let p : Prepared = c.args.prepared.now in
    let are : AreTasks c.args.exports.now c.args.inline_limit p.index.symbols c.args.suffixes.now (rows p.imports.items) (rows p.promoted.items) p.parts.items c.in_ok-tasks.tasks.items = c.in_ok-tasks.ensures in
    IfOk-weaker c.units.result _ _
    (λ units made trusted.
    ∥∥₁_map (made trusted)
    (λ z.
    units_made c.args.exports.now c.args.inline_limit p.index.symbols c.args.suffixes.now (rows p.imports.items) (rows p.promoted.items) p.parts.items c.in_ok-tasks.tasks.items units.items are
    (subst (λ (ts : List Task). AllZip (λ t ps. IsTaskUnit (task_view t) ps) ts units.items) c.deref.ensures.value z)))
    c.units.ensures.made

pub units-requires-clause-pass : goal.units-requires-clause-pass
units-requires-clause-pass g c κs within = c.requires.pass

pub returns-clause-pass : goal.returns-clause-pass
returns-clause-pass g c = c.units.ensures.pass

pub returns-clause-seen : goal.returns-clause-seen
returns-clause-seen g c = c.units.ensures.seen
