use mathlib.Core.Logic.{∥∥₁_elim, ∥∥₁_map}
use Rattle.std.proofs.Common.{◌≡◌, ◌≢◌, ◌∙◌, List, [], All, Err, IfErr, ap, arith, slice_index_or, subst, sym}
use Rattle.std.proofs.Props.{props}
use Rattle.std.proofs.lemmas.Result.{err_from_is_err_and}
use Rattle.ir_tree.specs.Wholes.{IsVerified}
use Rattle.ir_tree.specs.declared.module.Module.{Module}
use Rattle.lto_fault.specs.declared.refusal.Refusal.{Refusal}
use Rattle.lto_fault.specs.declared.refusal.Refusal.TheVariants.{NoMemory}
use Rattle.link_one.specs.LinkedLaws.{IsLinkedText}
use Rattle.link_one.specs.ModuleUnits.{IsTaskInLink}
use Rattle.link_one.specs.Preparing.{IsPrepared}
use Rattle.link_one.specs.Refusing.{IsUnlinked}
use Rattle.link_one.proofs.Preparing.{joined_is_linked, parts_counted, task_in_link}
use Rattle.link_one.proofs.Written.{is_link, is_only_link}
use Rattle.link_one.proofs.linking.link.Goals as goal

pub returns-in_err-prepared-clause-refused : goal.returns-in_err-prepared-clause-refused
returns-in_err-prepared-clause-refused g c =
    let e : Refusal = c.in_err-prepared.field-0.0 in
    let p = err_from_is_err_and c.from_residual.result c.from_residual.ensures.1 in
    let same : c.from_residual.result ≡ Err e = p.1 ∙ ap (λ (x : Refusal). Err x) p.2 in
    subst (λ r. IfErr r (λ why. why ≢ NoMemory → IsUnlinked c.args.files.now c.args.exports.now c.args.import_limit c.args.suffixes.now c.args.modules.items why)) (sym same)
    c.in_err-prepared.ensures.refused

pub linked-text-requires-clause-count : goal.linked-text-requires-clause-count
linked-text-requires-clause-count g c κs within =
    let prepared : IsPrepared c.args.exports.now c.args.import_limit c.args.suffixes.now c.args.modules.items c.in_ok-prepared.prepared = c.in_ok-prepared.ensures.done in
    omega (arith, parts_counted c.args.exports.now c.args.import_limit c.args.inline_limit c.args.suffixes.now c.args.modules.items c.in_ok-prepared.prepared prepared, c.requires.count)

pub linked-text-requires-clause-ready : goal.linked-text-requires-clause-ready
linked-text-requires-clause-ready g c κs within = λ t task.
    let prepared : IsPrepared c.args.exports.now c.args.import_limit c.args.suffixes.now c.args.modules.items c.in_ok-prepared.prepared = c.in_ok-prepared.ensures.done in
    let one : IsTaskInLink c.args.exports.now c.args.import_limit c.args.inline_limit c.args.suffixes.now c.args.modules.items t =
    task_in_link c.args.exports.now c.args.import_limit c.args.inline_limit c.args.suffixes.now c.args.modules.items c.in_ok-prepared.prepared prepared t task in
    let sound : All IsVerified c.args.modules.items = subst (λ (ms : List Module). All IsVerified ms) c.deref.ensures.value c.all_verified.ensures in
    let verified =
    c.tasks_are_verified.ensures c.args.exports.now c.args.import_limit c.args.inline_limit c.args.suffixes.now c.args.modules.items one.index one.live one.imports
    (slice_index_or one.promoted one.number []) one.number t sound one.thin one.named one.task in
    record {
      key = c.requires.keys t one;
      as_made = c.requires.fits t one;
      taken = record { own = verified.0; imported = verified.1 };
    }

pub returns-in-Ok-clause-linked : goal.returns-in-Ok-clause-linked
returns-in-Ok-clause-linked g c = λ trusted bytes accepted same.
    let prepared : IsPrepared c.args.exports.now c.args.import_limit c.args.suffixes.now c.args.modules.items c.in_ok-prepared.prepared = c.in_ok-prepared.ensures.done in
    let sound : All IsVerified c.args.modules.items = subst (λ (ms : List Module). All IsVerified ms) c.deref.ensures.value c.all_verified.ensures in
    ∥∥₁_map (c.in-Ok.ensures.joined trusted)
    (λ joined.
    let l : IsLinkedText c.args.exports.now c.args.import_limit c.args.inline_limit c.args.suffixes.now c.args.modules.items c.in-Ok.text =
    joined_is_linked c.args.exports.now c.args.import_limit c.args.inline_limit c.args.suffixes.now c.args.modules.items c.in_ok-prepared.prepared prepared c.units_are_linked.ensures sound c.in-Ok.text joined in
    is_link c.linked_refines.ensures c.args.exports.now c.args.import_limit c.args.inline_limit c.args.suffixes.now c.args.modules.items l.l l.linked bytes accepted same c.in-Ok.text l.is)

pub returns-in-Ok-clause-only : goal.returns-in-Ok-clause-only
returns-in-Ok-clause-only g c = λ trusted bytes accepted same other h.
    let prepared : IsPrepared c.args.exports.now c.args.import_limit c.args.suffixes.now c.args.modules.items c.in_ok-prepared.prepared = c.in_ok-prepared.ensures.done in
    let sound : All IsVerified c.args.modules.items = subst (λ (ms : List Module). All IsVerified ms) c.deref.ensures.value c.all_verified.ensures in
    ∥∥₁_elim (c.in-Ok.ensures.joined trusted) (hlevel props)
    (λ joined.
    let l : IsLinkedText c.args.exports.now c.args.import_limit c.args.inline_limit c.args.suffixes.now c.args.modules.items c.in-Ok.text =
    joined_is_linked c.args.exports.now c.args.import_limit c.args.inline_limit c.args.suffixes.now c.args.modules.items c.in_ok-prepared.prepared prepared c.units_are_linked.ensures sound c.in-Ok.text joined in
    is_only_link c.linked_refines.ensures c.args.exports.now c.args.import_limit c.args.inline_limit c.args.suffixes.now c.args.modules.items l.l l.linked c.linked_is_one.ensures bytes accepted same
    c.in-Ok.text l.is other h)

pub returns-in-Ok-clause-linkable : goal.returns-in-Ok-clause-linkable
returns-in-Ok-clause-linkable g c =
    let prepared : IsPrepared c.args.exports.now c.args.import_limit c.args.suffixes.now c.args.modules.items c.in_ok-prepared.prepared = c.in_ok-prepared.ensures.done in
    record { index = c.in_ok-prepared.prepared.index; live = c.in_ok-prepared.prepared.live; imports = _; thin = prepared.thin; named = prepared.named }

pub linked-text-requires-clause-pass : goal.linked-text-requires-clause-pass
linked-text-requires-clause-pass g c κs within = c.requires.pass

pub returns-in-Ok-clause-pass : goal.returns-in-Ok-clause-pass
returns-in-Ok-clause-pass g c = c.in-Ok.ensures.pass

pub returns-in-Ok-clause-seen : goal.returns-in-Ok-clause-seen
returns-in-Ok-clause-seen g c = c.in-Ok.ensures.seen
