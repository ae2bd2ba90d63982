use Rattle.std.proofs.Common.{ℕ, List, [], Option, Result, arith, subst, sym}
use Rattle.std.specs.Prelude.{IfErr, IfOk}
use Rattle.cache_slot.specs.Decoded.{decoded}
use Rattle.lto_fault.specs.declared.refusal.Refusal.{Refusal}
use Rattle.lto_outside.specs.Calls.{Call}
use Rattle.lto_outside.specs.Honest.{IsHonest}
use Rattle.lto_outside.specs.Seen.{files_seen}
use Rattle.lto_outside.specs.Cause.{Rose}
use Rattle.run_program.specs.Causes.{Because, never}
use Rattle.run_program.proofs.Causes.{because_map}
use Rattle.thinlto_main.specs.Honest.{IsTrustedBy}
use Rattle.thinlto_main.specs.Keys.{IsKeyOf, IsKeyOfFiles}
use Rattle.thinlto_main.specs.Linking.{IsLinkable, IsMadeIf, IsUnlinkable, linking}
use Rattle.thinlto_main.specs.Modules.{AreFetched, FirstBad}
use Rattle.thinlto_main.proofs.Disks.{same_kept, wider_kept}
use Rattle.thinlto_main.proofs.Linking.{key_of_files, link_comes, put_calls, reading_links, unmade_links}
use Rattle.thinlto_main.proofs.Reading.{unfetched_because}
use Rattle.thinlto_main.proofs.link.link.Goals as goal

pub returns-in-Err-clause-answer : goal.returns-in-Err-clause-answer
returns-in-Err-clause-answer g c =
    subst (λ (why : Refusal). Because (linking c.args.options.now c.args.out c.args.names.now (IsTrustedBy c.args.options.now (IsHonest decoded g.D.CacheDisk.fits (g.D.CacheDisk.held c.args.disk))) (files_seen g.F.Files.did g.F.Files.held g.F.Files.faults c.args.files.now c.fetch_all.new.files)) why) (sym c.unfetched.ensures)
    (because_map (reading_links c.args.options.now c.args.out c.args.names.now (IsTrustedBy c.args.options.now (IsHonest decoded g.D.CacheDisk.fits (g.D.CacheDisk.held c.args.disk))) (files_seen g.F.Files.did g.F.Files.held g.F.Files.faults c.args.files.now c.fetch_all.new.files)) _
    (unfetched_because c.args.names.now (files_seen g.F.Files.did g.F.Files.held g.F.Files.faults c.args.files.now c.fetch_all.new.files) c.in-Err.error c.in-Err.ensures.failed c.fetch_all.ensures.no_put))

pub returns-in-Err-clause-disk : goal.returns-in-Err-clause-disk
returns-in-Err-clause-disk g c =
    ∣ same_kept g.D.CacheDisk.fits (IsKeyOfFiles c.args.options.now c.args.names.now (λ (calls : List Call). g.F.Files.did c.args.files.now calls c.fetch_all.new.files)) c.args.options.now.cache (g.D.CacheDisk.held c.args.disk) ∣₁

pub returns-in-Ok-answer-clause-answer : goal.returns-in-Ok-answer-clause-answer
returns-in-Ok-answer-clause-answer g c =
    let o = c.args.options.now in
    let T = IsTrustedBy o (IsHonest decoded g.D.CacheDisk.fits (g.D.CacheDisk.held c.args.disk)) in
    let fetched : AreFetched c.args.names.now c.as_slice.result.now (λ (calls : List Call). g.F.Files.did c.args.files.now calls c.fetch_all.new.files) =
    subst (λ (l : List (Option (List ℕ))). AreFetched c.args.names.now l (λ (calls : List Call). g.F.Files.did c.args.files.now calls c.fetch_all.new.files)) (sym c.as_slice.ensures) (record { each = c.in-Ok.ensures.each; calls = c.in-Ok.ensures.fetched }) in
    let linkable : IsLinkable o c.args.names.now c.as_slice.result.now = subst (λ (r : Result (List ℕ) Refusal). IfOk r (λ _. IsLinkable o c.args.names.now c.as_slice.result.now)) c.in-Ok-answer.is c.made_on-answer.ensures.linkable in
    let made : IsMadeIf T o c.as_slice.result.now c.in-Ok-answer.text = subst (λ (r : Result (List ℕ) Refusal). IfOk r (IsMadeIf T o c.as_slice.result.now)) c.in-Ok-answer.is c.made_on-answer.ensures.made in
    link_comes g.F.Files.did g.met.F.Files.did_more c.args.files.now c.fetch_all.new.files c.put.new.files o c.args.out c.args.names.now c.as_slice.result.now c.as_slice-in-Ok-answer.result.now c.in-Ok-answer.text T
    (g.F.Files.faults c.fetch_all.new.files) fetched linkable made c.as_slice-in-Ok-answer.ensures
    (files_seen g.F.Files.did g.F.Files.held g.F.Files.faults c.args.files.now c.put.new.files) (λ calls did. did) (λ rose. omega (arith, c.fetch_all.ensures.later, rose)) c.put.result c.put.ensures.done c.put.ensures.failed

pub returns-in-Ok-answer-clause-disk : goal.returns-in-Ok-answer-clause-disk
returns-in-Ok-answer-clause-disk g c =
    let o = c.args.options.now in
    let fetched : AreFetched c.args.names.now c.as_slice.result.now (λ (calls : List Call). g.F.Files.did c.args.files.now calls c.fetch_all.new.files) =
    subst (λ (l : List (Option (List ℕ))). AreFetched c.args.names.now l (λ (calls : List Call). g.F.Files.did c.args.files.now calls c.fetch_all.new.files)) (sym c.as_slice.ensures) (record { each = c.in-Ok.ensures.each; calls = c.in-Ok.ensures.fetched }) in
    wider_kept g.D.CacheDisk.fits (IsKeyOf o c.as_slice.result.now) o.cache (IsKeyOfFiles o c.args.names.now (λ (calls : List Call). g.F.Files.did c.args.files.now calls c.put.new.files))
    (key_of_files g.F.Files.did g.met.F.Files.did_more c.args.files.now c.fetch_all.new.files c.put.new.files o c.args.names.now c.as_slice.result.now fetched
    (put_calls g.F.Files.did g.met.F.Files.did_more c.args.files.now c.fetch_all.new.files c.put.new.files c.args.out c.as_slice-in-Ok-answer.result.now (Rose (g.F.Files.faults c.fetch_all.new.files) (g.F.Files.faults c.put.new.files)) c.put.result c.put.ensures.done c.put.ensures.failed))
    (g.D.CacheDisk.held c.args.disk) (g.D.CacheDisk.held c.made_on-answer.result.disk) c.made_on-answer.ensures.disk

pub returns-in-Err-answer-clause-answer : goal.returns-in-Err-answer-clause-answer
returns-in-Err-answer-clause-answer g c =
    let o = c.args.options.now in
    let T = IsTrustedBy o (IsHonest decoded g.D.CacheDisk.fits (g.D.CacheDisk.held c.args.disk)) in
    let fetched : AreFetched c.args.names.now c.as_slice.result.now (λ (calls : List Call). g.F.Files.did c.args.files.now calls c.fetch_all.new.files) =
    subst (λ (l : List (Option (List ℕ))). AreFetched c.args.names.now l (λ (calls : List Call). g.F.Files.did c.args.files.now calls c.fetch_all.new.files)) (sym c.as_slice.ensures) (record { each = c.in-Ok.ensures.each; calls = c.in-Ok.ensures.fetched }) in
    because_map (unmade_links o c.args.out c.args.names.now T (files_seen g.F.Files.did g.F.Files.held g.F.Files.faults c.args.files.now c.fetch_all.new.files) c.as_slice.result.now fetched) c.in-Err-answer.why
    (subst (λ (r : Result (List ℕ) Refusal). IfErr r (Because (record never { refused = FirstBad c.args.names.now c.as_slice.result.now; unlinked = IsUnlinkable o c.args.names.now c.as_slice.result.now; memory = Unit {0} }))) c.in-Err-answer.is c.made_on-answer.ensures.because)

pub returns-in-Err-answer-clause-disk : goal.returns-in-Err-answer-clause-disk
returns-in-Err-answer-clause-disk g c =
    let o = c.args.options.now in
    let fetched : AreFetched c.args.names.now c.as_slice.result.now (λ (calls : List Call). g.F.Files.did c.args.files.now calls c.fetch_all.new.files) =
    subst (λ (l : List (Option (List ℕ))). AreFetched c.args.names.now l (λ (calls : List Call). g.F.Files.did c.args.files.now calls c.fetch_all.new.files)) (sym c.as_slice.ensures) (record { each = c.in-Ok.ensures.each; calls = c.in-Ok.ensures.fetched }) in
    wider_kept g.D.CacheDisk.fits (IsKeyOf o c.as_slice.result.now) o.cache (IsKeyOfFiles o c.args.names.now (λ (calls : List Call). g.F.Files.did c.args.files.now calls c.fetch_all.new.files))
    (key_of_files g.F.Files.did g.met.F.Files.did_more c.args.files.now c.fetch_all.new.files c.fetch_all.new.files o c.args.names.now c.as_slice.result.now fetched ([], g.met.F.Files.did_none c.fetch_all.new.files))
    (g.D.CacheDisk.held c.args.disk) (g.D.CacheDisk.held c.made_on-answer.result.disk) c.made_on-answer.ensures.disk

pub returns-in-Err-clause-later : goal.returns-in-Err-clause-later
returns-in-Err-clause-later g c = c.fetch_all.ensures.later

pub returns-in-Err-answer-clause-later : goal.returns-in-Err-answer-clause-later
returns-in-Err-answer-clause-later g c = c.fetch_all.ensures.later

pub returns-in-Ok-answer-clause-later : goal.returns-in-Ok-answer-clause-later
returns-in-Ok-answer-clause-later g c = omega (arith, c.fetch_all.ensures.later, c.put.ensures.later)
