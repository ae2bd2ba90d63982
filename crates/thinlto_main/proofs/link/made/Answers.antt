use Rattle.std.proofs.Common.{◌≡◌, ◌∙◌, List, arith, length, sym, subst}
use Rattle.std.specs.List.{AllZip}
use Rattle.std.proofs.lemmas.Result.{IfErr-weaker, IfOk-weaker}
use Rattle.std.proofs.lemmas.Slice.Zip.{AllZip-long}
use Rattle.ir_tree.specs.declared.module.Module.{Module}
use Rattle.back_pool.specs.Making.{IsTrusted}
use Rattle.run_program.proofs.Causes.{because_map}
use Rattle.thinlto_main.specs.Modules.{IsRead}
use Rattle.thinlto_main.proofs.Linking.{bad_unmade, if_made, is_linkable, task_of_given, unlinked_unmade}
use Rattle.thinlto_main.proofs.TasksTold.{fits_as_made}
use Rattle.thinlto_main.proofs.link.made.Goals as goal

pub returns-in-Err-clause-because : goal.returns-in-Err-clause-because
returns-in-Err-clause-because g c = because_map (bad_unmade c.args.options.now c.args.names.now c.args.given.now) c.in-Err.why c.in-Err.ensures.because

pub text-requires-clause-each : goal.text-requires-clause-each
text-requires-clause-each g c κs within = sym c.requires.each

pub text-requires-clause-read : goal.text-requires-clause-read
text-requires-clause-read g c κs within = subst (λ (l : List Module). AllZip IsRead c.args.given.now l) (sym c.into_vec.ensures) c.in-Ok.ensures.read

pub text-requires-clause-count : goal.text-requires-clause-count
text-requires-clause-count g c κs within =
    let same : length c.into_vec.result.items ≡ length c.args.names.now =
    AllZip-long IsRead c.args.given.now c.into_vec.result.items (subst (λ (l : List Module). AllZip IsRead c.args.given.now l) (sym c.into_vec.ensures) c.in-Ok.ensures.read) ∙ c.requires.each in
    omega (arith, same)

pub text-requires-clause-fits : goal.text-requires-clause-fits
text-requires-clause-fits g c κs within = λ t in_link written.
    let read : AllZip IsRead c.args.given.now c.into_vec.result.items = subst (λ (l : List Module). AllZip IsRead c.args.given.now l) (sym c.into_vec.ensures) c.in-Ok.ensures.read in
    fits_as_made (record { spelled = c.tasks_are_spelled.ensures; verified = c.tasks_are_verified.ensures; one = c.tasks_with_one_text_are_one.ensures }) _ t c.all_given_bytes.ensures
    (task_of_given c.args.options.now c.args.given.now c.into_vec.result.items read t in_link) written g.D.CacheDisk.fits c.requires.meaning

pub returns-clause-linkable : goal.returns-clause-linkable
returns-clause-linkable g c =
    let read : AllZip IsRead c.args.given.now c.into_vec.result.items = subst (λ (l : List Module). AllZip IsRead c.args.given.now l) (sym c.into_vec.ensures) c.in-Ok.ensures.read in
    IfOk-weaker c.text.result _ _ (λ text can. is_linkable c.unlinked_is_one.ensures.apart c.args.options.now c.args.names.now c.args.given.now c.into_vec.result.items read can) c.text.ensures.linkable

pub returns-clause-made : goal.returns-clause-made
returns-clause-made g c =
    if_made
    (record { verified = c.linked_is_verified.ensures; in_order = c.made_is_better.ensures.in_order; numbered = c.read_modules_are_numbered.ensures; ordered = c.text_order_is_numbered.ensures; read = c.verified_modules_are_read.ensures; sound = c.live_by_module.ensures.sound; emitted = c.emission_is_one.ensures.from })
    c.accepted_is_not_refused.ensures.one c.args.options.now c.args.given.now c.in-Ok.modules c.in-Ok.ensures.read (IsTrusted g.S.Setting.dir g.D.CacheDisk.fits g.S.Setting.files) c.text.result c.text.ensures.done c.text.ensures.only

pub returns-clause-because : goal.returns-clause-because
returns-clause-because g c =
    IfErr-weaker c.text.result _ _
    (λ why h. because_map (unlinked_unmade c.args.options.now c.args.names.now c.args.given.now c.into_vec.result.items (subst (λ (l : List Module). AllZip IsRead c.args.given.now l) (sym c.into_vec.ensures) c.in-Ok.ensures.read)) why h)
    c.text.ensures.because

pub text-requires-clause-pass : goal.text-requires-clause-pass
text-requires-clause-pass g c κs within = c.requires.pass

pub text-requires-clause-keys : goal.text-requires-clause-keys
text-requires-clause-keys g c κs within = c.requires.keys

pub returns-clause-pass : goal.returns-clause-pass
returns-clause-pass g c = c.text.ensures.pass

pub returns-in-Err-clause-pass : goal.returns-in-Err-clause-pass
returns-in-Err-clause-pass g c = c.requires.pass

pub returns-then-names-clause-pass : goal.returns-then-names-clause-pass
returns-then-names-clause-pass g c = c.requires.pass

pub returns-then-names-clause-linkable : goal.returns-then-names-clause-linkable
returns-then-names-clause-linkable g c = tt

pub returns-then-names-clause-made : goal.returns-then-names-clause-made
returns-then-names-clause-made g c = tt

pub returns-then-names-clause-because : goal.returns-then-names-clause-because
returns-then-names-clause-because g c = tt

pub returns-in-Err-clause-linkable : goal.returns-in-Err-clause-linkable
returns-in-Err-clause-linkable g c = tt

pub returns-in-Err-clause-made : goal.returns-in-Err-clause-made
returns-in-Err-clause-made g c = tt
