use Rattle.std.proofs.Common.{◌∙◌, ℕ, List, [], Option, Result, ap, arith, length, subst, sym}
use Rattle.std.specs.List.{AllZip}
use Rattle.std.specs.Prelude.{IfErr, IfOk}
use Rattle.std.proofs.lemmas.Slice.Zip.{AllZip-long}
use Rattle.cache_slot.specs.Decoded.{decoded}
use Rattle.lto_words.specs.Links.{GivenFor}
use Rattle.lto_words.specs.declared.listing.ListedLink.{ListedLink}
use Rattle.lto_fault.specs.declared.refusal.Refusal.{Refusal}
use Rattle.lto_outside.specs.Calls.{Call}
use Rattle.lto_outside.specs.Honest.{IsHonest}
use Rattle.lto_outside.specs.Seen.{files_seen}
use Rattle.run_program.specs.Causes.{Because, never}
use Rattle.run_program.proofs.Causes.{because_map}
use Rattle.thinlto_main.specs.Batching.{AreLinkable, FirstLink}
use Rattle.thinlto_main.specs.Honest.{IsTrustedBy}
use Rattle.thinlto_main.specs.Keys.{DiskKept, IsKeyAmong, IsKeyOfList}
use Rattle.thinlto_main.specs.Linking.{IsMadeIf, IsUnlinkable}
use Rattle.thinlto_main.specs.Modules.{FirstBad}
use Rattle.thinlto_main.proofs.Batching.{batch_comes, fetching_stops, key_of_list, link_stops, puts_calls}
use Rattle.thinlto_main.proofs.Disks.{same_kept, wider_kept}
use Rattle.thinlto_main.proofs.batch.batch.Goals as goal

pub returns-in-Err-clause-answer : goal.returns-in-Err-clause-answer
returns-in-Err-clause-answer g c =
    because_map (fetching_stops c.args.options.now c.args.list.now (IsTrustedBy c.args.options.now (IsHonest decoded g.D.CacheDisk.fits (g.D.CacheDisk.held c.args.disk))) (files_seen g.F.Files.did g.F.Files.held g.F.Files.faults c.args.files.now c.given_of.new.files)) c.in-Err.why c.in-Err.ensures.because

pub returns-in-Err-clause-disk : goal.returns-in-Err-clause-disk
returns-in-Err-clause-disk g c =
    ∣ same_kept g.D.CacheDisk.fits (IsKeyOfList c.args.options.now c.args.list.now (λ (calls : List Call). g.F.Files.did c.args.files.now calls c.given_of.new.files)) c.args.options.now.cache (g.D.CacheDisk.held c.args.disk) ∣₁

pub put-requires : goal.put-requires
put-requires g c =
    let o = c.args.options.now in
    let T = IsTrustedBy o (IsHonest decoded g.D.CacheDisk.fits (g.D.CacheDisk.held c.args.disk)) in
    let made : AllZip (IsMadeIf T o) c.in-Ok.given.given c.in-Ok-answer.texts =
    subst (λ (bs : List (List (Option (List ℕ)))). AllZip (IsMadeIf T o) bs c.in-Ok-answer.texts) c.as_slice-2.ensures
    (subst (λ (r : Result (List (List ℕ)) Refusal). IfOk r (AllZip (IsMadeIf T o) c.as_slice-2.result.now)) c.in-Ok-answer.is c.all_made_on-answer.ensures.made) in
    sym (AllZip-long GivenFor c.in-Ok.given.links c.in-Ok.given.given c.in-Ok.ensures.given.each) ∙ sym (AllZip-long (IsMadeIf T o) c.in-Ok.given.given c.in-Ok-answer.texts made)
    ∙ ap (λ (ts : List (List ℕ)). length ts) (sym c.as_slice-in-Ok-answer.ensures)

pub returns-in-Ok-answer-clause-answer : goal.returns-in-Ok-answer-clause-answer
returns-in-Ok-answer-clause-answer g c =
    let o = c.args.options.now in
    let T = IsTrustedBy o (IsHonest decoded g.D.CacheDisk.fits (g.D.CacheDisk.held c.args.disk)) in
    let made : AllZip (IsMadeIf T o) c.in-Ok.given.given c.in-Ok-answer.texts =
    subst (λ (bs : List (List (Option (List ℕ)))). AllZip (IsMadeIf T o) bs c.in-Ok-answer.texts) c.as_slice-2.ensures
    (subst (λ (r : Result (List (List ℕ)) Refusal). IfOk r (AllZip (IsMadeIf T o) c.as_slice-2.result.now)) c.in-Ok-answer.is c.all_made_on-answer.ensures.made) in
    let put_made : AllZip (IsMadeIf T o) c.in-Ok.given.given c.as_slice-in-Ok-answer.result.now = subst (AllZip (IsMadeIf T o) c.in-Ok.given.given) (sym c.as_slice-in-Ok-answer.ensures) made in
    let linkable : AreLinkable o c.in-Ok.given.links c.in-Ok.given.given =
    subst (λ (ls : List ListedLink). AreLinkable o ls c.in-Ok.given.given) c.as_slice.ensures
    (subst (AreLinkable o c.as_slice.result.now) c.as_slice-2.ensures (subst (λ (r : Result (List (List ℕ)) Refusal). IfOk r (λ _. AreLinkable o c.as_slice.result.now c.as_slice-2.result.now)) c.in-Ok-answer.is c.all_made_on-answer.ensures.linkable)) in
    batch_comes g.F.Files.did g.met.F.Files.did_more c.args.files.now c.given_of.new.files c.put.new.files c.args.list.now c.in-Ok.given.links o T c.in-Ok.given.given c.as_slice-in-Ok-answer.result.now c.in-Ok.ensures.given linkable put_made
    (files_seen g.F.Files.did g.F.Files.held g.F.Files.faults c.args.files.now c.put.new.files) (λ calls did. did) (g.F.Files.faults c.given_of.new.files) (λ rose. omega (arith, c.given_of.ensures.later, rose)) c.put.result c.put.ensures.done c.put.ensures.failed

pub returns-in-Ok-answer-clause-disk : goal.returns-in-Ok-answer-clause-disk
returns-in-Ok-answer-clause-disk g c =
    let o = c.args.options.now in
    let T = IsTrustedBy o (IsHonest decoded g.D.CacheDisk.fits (g.D.CacheDisk.held c.args.disk)) in
    let made : AllZip (IsMadeIf T o) c.in-Ok.given.given c.in-Ok-answer.texts =
    subst (λ (bs : List (List (Option (List ℕ)))). AllZip (IsMadeIf T o) bs c.in-Ok-answer.texts) c.as_slice-2.ensures
    (subst (λ (r : Result (List (List ℕ)) Refusal). IfOk r (AllZip (IsMadeIf T o) c.as_slice-2.result.now)) c.in-Ok-answer.is c.all_made_on-answer.ensures.made) in
    let put_made : AllZip (IsMadeIf T o) c.in-Ok.given.given c.as_slice-in-Ok-answer.result.now = subst (AllZip (IsMadeIf T o) c.in-Ok.given.given) (sym c.as_slice-in-Ok-answer.ensures) made in
    let linkable : AreLinkable o c.in-Ok.given.links c.in-Ok.given.given =
    subst (λ (ls : List ListedLink). AreLinkable o ls c.in-Ok.given.given) c.as_slice.ensures
    (subst (AreLinkable o c.as_slice.result.now) c.as_slice-2.ensures (subst (λ (r : Result (List (List ℕ)) Refusal). IfOk r (λ _. AreLinkable o c.as_slice.result.now c.as_slice-2.result.now)) c.in-Ok-answer.is c.all_made_on-answer.ensures.linkable)) in
    let kept : ∥ DiskKept g.D.CacheDisk.fits (IsKeyAmong o c.in-Ok.given.given) o.cache (g.D.CacheDisk.held c.args.disk) (g.D.CacheDisk.held c.all_made_on-answer.result.disk) ∥₁ =
    subst (λ (bs : List (List (Option (List ℕ)))). ∥ DiskKept g.D.CacheDisk.fits (IsKeyAmong o bs) o.cache (g.D.CacheDisk.held c.args.disk) (g.D.CacheDisk.held c.all_made_on-answer.result.disk) ∥₁) c.as_slice-2.ensures c.all_made_on-answer.ensures.disk in
    wider_kept g.D.CacheDisk.fits (IsKeyAmong o c.in-Ok.given.given) o.cache (IsKeyOfList o c.args.list.now (λ (calls : List Call). g.F.Files.did c.args.files.now calls c.put.new.files))
    (key_of_list g.F.Files.did g.met.F.Files.did_more c.args.files.now c.given_of.new.files c.put.new.files c.args.list.now c.in-Ok.given.links o c.in-Ok.given.given c.in-Ok.ensures.given
    (puts_calls g.F.Files.did g.met.F.Files.did_more c.args.files.now c.given_of.new.files c.put.new.files c.args.list.now c.in-Ok.given.links o T c.in-Ok.given.given c.as_slice-in-Ok-answer.result.now c.in-Ok.ensures.given linkable put_made
    (files_seen g.F.Files.did g.F.Files.held g.F.Files.faults c.args.files.now c.put.new.files) (λ calls did. did) (g.F.Files.faults c.given_of.new.files) c.put.result c.put.ensures.done c.put.ensures.failed))
    (g.D.CacheDisk.held c.args.disk) (g.D.CacheDisk.held c.all_made_on-answer.result.disk) kept

pub returns-in-Err-answer-clause-answer : goal.returns-in-Err-answer-clause-answer
returns-in-Err-answer-clause-answer g c =
    let o = c.args.options.now in
    let T = IsTrustedBy o (IsHonest decoded g.D.CacheDisk.fits (g.D.CacheDisk.held c.args.disk)) in
    let stopped : List ListedLink → List (List (Option (List ℕ))) → Refusal → Type 0 = λ ls bs.
    Because (record never {
      refused = λ file line kind. FirstLink o (λ link bytes. FirstBad link.files bytes file line kind) ls bs;
      unlinked = λ why. FirstLink o (λ link bytes. IsUnlinkable o link.files bytes why) ls bs;
      memory = Unit {0};
    }) in
    because_map (link_stops o c.args.list.now T (files_seen g.F.Files.did g.F.Files.held g.F.Files.faults c.args.files.now c.given_of.new.files) c.in-Ok.given.links c.in-Ok.given.given c.in-Ok.ensures.given) c.in-Err-answer.why
    (subst (λ (ls : List ListedLink). stopped ls c.in-Ok.given.given c.in-Err-answer.why) c.as_slice.ensures
    (subst (λ (bs : List (List (Option (List ℕ)))). stopped c.as_slice.result.now bs c.in-Err-answer.why) c.as_slice-2.ensures
    (subst (λ (r : Result (List (List ℕ)) Refusal). IfErr r (stopped c.as_slice.result.now c.as_slice-2.result.now)) c.in-Err-answer.is c.all_made_on-answer.ensures.because)))

pub returns-in-Err-answer-clause-disk : goal.returns-in-Err-answer-clause-disk
returns-in-Err-answer-clause-disk g c =
    let o = c.args.options.now in
    let kept : ∥ DiskKept g.D.CacheDisk.fits (IsKeyAmong o c.in-Ok.given.given) o.cache (g.D.CacheDisk.held c.args.disk) (g.D.CacheDisk.held c.all_made_on-answer.result.disk) ∥₁ =
    subst (λ (bs : List (List (Option (List ℕ)))). ∥ DiskKept g.D.CacheDisk.fits (IsKeyAmong o bs) o.cache (g.D.CacheDisk.held c.args.disk) (g.D.CacheDisk.held c.all_made_on-answer.result.disk) ∥₁) c.as_slice-2.ensures c.all_made_on-answer.ensures.disk in
    wider_kept g.D.CacheDisk.fits (IsKeyAmong o c.in-Ok.given.given) o.cache (IsKeyOfList o c.args.list.now (λ (calls : List Call). g.F.Files.did c.args.files.now calls c.given_of.new.files))
    (key_of_list g.F.Files.did g.met.F.Files.did_more c.args.files.now c.given_of.new.files c.given_of.new.files c.args.list.now c.in-Ok.given.links o c.in-Ok.given.given c.in-Ok.ensures.given ([], g.met.F.Files.did_none c.given_of.new.files))
    (g.D.CacheDisk.held c.args.disk) (g.D.CacheDisk.held c.all_made_on-answer.result.disk) kept

pub returns-in-Err-clause-later : goal.returns-in-Err-clause-later
returns-in-Err-clause-later g c = c.given_of.ensures.later

pub returns-in-Err-answer-clause-later : goal.returns-in-Err-answer-clause-later
returns-in-Err-answer-clause-later g c = c.given_of.ensures.later

pub returns-in-Ok-answer-clause-later : goal.returns-in-Ok-answer-clause-later
returns-in-Ok-answer-clause-later g c = omega (arith, c.given_of.ensures.later, c.put.ensures.later)
