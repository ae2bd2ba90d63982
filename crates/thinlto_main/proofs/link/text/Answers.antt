use Rattle.std.proofs.Common.{◌≡◌, ◌≢◌, ◌∙◌, ℕ, List, length, map, refl, sym, ap, subst}
use Rattle.std.specs.List.{AllZip}
use Rattle.std.specs.Prelude.{IfErr}
use Rattle.std.proofs.lemmas.List.{length-map}
use Rattle.std.proofs.lemmas.Slice.Zip.{AllZip-long}
use Rattle.std.proofs.lemmas.Result.{IfOk-weaker}
use Rattle.link_one.specs.Accepted.{Accepts}
use Rattle.link_one.specs.Linking.{IsLinkOf, IsOnlyLinkOf}
use Rattle.link_one.specs.Refusing.{CanBeLinked, IsUnlinked}
use Rattle.lto_fault.specs.declared.refusal.Refusal.TheVariants.{NoMemory}
use Rattle.lto_task.specs.Tasks.{task_text}
use Rattle.combined_index.specs.Suffixes.{suffix_of}
use Rattle.thinlto_main.specs.Linking.{suffixes_of}
use Rattle.thinlto_main.specs.Modules.{IsRead, bytes_of}
use Rattle.run_program.specs.Causes.{never}
use Rattle.thinlto_main.proofs.Linking.{accepted_bytes, same_task}
use Rattle.thinlto_main.proofs.Unlinked.{by_unlinked, if_unlinked_because}
use Rattle.thinlto_main.proofs.link.text.Goals as goal

pub link-requires-clause-files : goal.link-requires-clause-files
link-requires-clause-files g c κs within =
    ap (λ (l : List (List ℕ)). length l) (c.as_slice.ensures ∙ c.in-Ok.ensures) ∙ c.requires.each ∙ sym (AllZip-long IsRead c.args.given.now c.args.modules.items c.requires.read)

pub link-requires-clause-suffixes : goal.link-requires-clause-suffixes
link-requires-clause-suffixes g c κs within =
    ap (λ (l : List (List ℕ)). length l) (c.as_slice-2.ensures ∙ c.in-Ok-suffixes.ensures) ∙ length-map (map bytes_of c.args.given.now) suffix_of
    ∙ length-map c.args.given.now bytes_of ∙ sym (AllZip-long IsRead c.args.given.now c.args.modules.items c.requires.read)

pub link-requires-clause-keys : goal.link-requires-clause-keys
link-requires-clause-keys g c κs within = λ t in_link.
    c.requires.keys (task_text t) (record {
      ms = c.args.modules.items;
      read = c.requires.read;
      task = t;
      in_link = same_task _ _ _ _ _ _ _ t c.as_slice-3.ensures (c.as_slice-2.ensures ∙ c.in-Ok-suffixes.ensures) in_link;
      is = refl;
    })

pub link-requires-clause-fits : goal.link-requires-clause-fits
link-requires-clause-fits g c κs within = λ t in_link written. c.requires.fits t (same_task _ _ _ _ _ _ _ t c.as_slice-3.ensures (c.as_slice-2.ensures ∙ c.in-Ok-suffixes.ensures) in_link) written

pub returns-clause-linkable : goal.returns-clause-linkable
returns-clause-linkable g c =
    IfOk-weaker c.link.result _ _
    (λ text can. subst (λ (es : List (List ℕ)). CanBeLinked es c.args.options.now.import_limit (suffixes_of c.args.given.now) c.args.modules.items) c.as_slice-3.ensures
    (subst (λ (ss : List (List ℕ)). CanBeLinked c.as_slice-3.result.now c.args.options.now.import_limit ss c.args.modules.items) (c.as_slice-2.ensures ∙ c.in-Ok-suffixes.ensures) can))
    c.link.ensures.linkable

pub returns-clause-done : goal.returns-clause-done
returns-clause-done g c =
    let given : List (List ℕ) = map bytes_of c.args.given.now in
    let accepted : AllZip Accepts given c.args.modules.items = accepted_bytes c.args.given.now c.args.modules.items c.requires.read in
    let same : c.as_slice-2.result.now ≡ map suffix_of given = c.as_slice-2.ensures ∙ c.in-Ok-suffixes.ensures in
    IfOk-weaker c.link.result _ _
    (λ text linked. λ sure. subst (λ (es : List (List ℕ)). ∥ IsLinkOf es c.args.options.now.import_limit c.args.options.now.inline_limit given text ∥₁) c.as_slice-3.ensures (linked sure given accepted same))
    c.link.ensures.linked

pub returns-clause-only : goal.returns-clause-only
returns-clause-only g c =
    let given : List (List ℕ) = map bytes_of c.args.given.now in
    let accepted : AllZip Accepts given c.args.modules.items = accepted_bytes c.args.given.now c.args.modules.items c.requires.read in
    let same : c.as_slice-2.result.now ≡ map suffix_of given = c.as_slice-2.ensures ∙ c.in-Ok-suffixes.ensures in
    IfOk-weaker c.link.result _ _
    (λ text only. λ sure. subst (λ (es : List (List ℕ)). IsOnlyLinkOf es c.args.options.now.import_limit c.args.options.now.inline_limit given text) c.as_slice-3.ensures (only sure given accepted same))
    c.link.ensures.only

pub returns-clause-because : goal.returns-clause-because
returns-clause-because g c =
    if_unlinked_because (record never { unlinked = IsUnlinked c.args.names.now c.args.options.now.exports c.args.options.now.import_limit (suffixes_of c.args.given.now) c.args.modules.items; memory = Unit {0} })
    (IsUnlinked c.args.names.now c.args.options.now.exports c.args.options.now.import_limit (suffixes_of c.args.given.now) c.args.modules.items)
    (by_unlinked c.args.names.now c.args.options.now.exports c.args.options.now.import_limit (suffixes_of c.args.given.now) c.args.modules.items
    (record never { unlinked = IsUnlinked c.args.names.now c.args.options.now.exports c.args.options.now.import_limit (suffixes_of c.args.given.now) c.args.modules.items; memory = Unit {0} }) (λ why x. x)) c.link.result
    (subst (λ (fs : List (List ℕ)). IfErr c.link.result (λ why. why ≢ NoMemory → IsUnlinked fs c.args.options.now.exports c.args.options.now.import_limit (suffixes_of c.args.given.now) c.args.modules.items why)) (c.as_slice.ensures ∙ c.in-Ok.ensures)
    (subst (λ (ss : List (List ℕ)). IfErr c.link.result (λ why. why ≢ NoMemory → IsUnlinked c.as_slice.result.now c.args.options.now.exports c.args.options.now.import_limit ss c.args.modules.items why)) (c.as_slice-2.ensures ∙ c.in-Ok-suffixes.ensures)
    (subst (λ (es : List (List ℕ)). IfErr c.link.result (λ why. why ≢ NoMemory → IsUnlinked c.as_slice.result.now es c.args.options.now.import_limit c.as_slice-2.result.now c.args.modules.items why)) c.as_slice-3.ensures c.link.ensures.refused))) tt

pub link-requires-clause-pass : goal.link-requires-clause-pass
link-requires-clause-pass g c κs within = c.requires.pass

pub link-requires-clause-count : goal.link-requires-clause-count
link-requires-clause-count g c κs within = c.requires.count

pub returns-clause-pass : goal.returns-clause-pass
returns-clause-pass g c = c.link.ensures.pass

pub returns-in_default-clause-pass : goal.returns-in_default-clause-pass
returns-in_default-clause-pass g c = c.requires.pass

pub returns-in_default-suffixes-clause-pass : goal.returns-in_default-suffixes-clause-pass
returns-in_default-suffixes-clause-pass g c = c.requires.pass

pub returns-in_default-clause-linkable : goal.returns-in_default-clause-linkable
returns-in_default-clause-linkable g c = tt

pub returns-in_default-clause-done : goal.returns-in_default-clause-done
returns-in_default-clause-done g c = tt

pub returns-in_default-clause-only : goal.returns-in_default-clause-only
returns-in_default-clause-only g c = tt

pub returns-in_default-clause-because : goal.returns-in_default-clause-because
returns-in_default-clause-because g c = tt

pub returns-in_default-suffixes-clause-linkable : goal.returns-in_default-suffixes-clause-linkable
returns-in_default-suffixes-clause-linkable g c = tt

pub returns-in_default-suffixes-clause-done : goal.returns-in_default-suffixes-clause-done
returns-in_default-suffixes-clause-done g c = tt

pub returns-in_default-suffixes-clause-only : goal.returns-in_default-suffixes-clause-only
returns-in_default-suffixes-clause-only g c = tt

pub returns-in_default-suffixes-clause-because : goal.returns-in_default-suffixes-clause-because
returns-in_default-suffixes-clause-because g c = tt
