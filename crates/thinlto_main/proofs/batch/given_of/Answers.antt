use Rattle.std.proofs.Common.{List, arith, subst, sym}
use Rattle.lto_fault.specs.declared.refusal.Refusal.{Refusal}
use Rattle.lto_outside.specs.Calls.{Call}
use Rattle.lto_outside.specs.Cause.{Rose}
use Rattle.lto_outside.specs.Seen.{files_seen}
use Rattle.lto_words.specs.declared.listing.ListedLink.{ListedLink}
use Rattle.lto_words.proofs.Fetches.{if_fault_map, no_put_more}
use Rattle.run_program.specs.Causes.{Because}
use Rattle.run_program.proofs.Causes.{because_map}
use Rattle.thinlto_main.specs.Batching.{AreGiven, HasListed, fetching}
use Rattle.thinlto_main.proofs.Batching.{are_given, links_stuck, list_no_put, listing_stops, unfetched_stops}
use Rattle.thinlto_main.proofs.batch.given_of.Goals as goal

pub returns-in-Err-clause-because : goal.returns-in-Err-clause-because
returns-in-Err-clause-because g c =
    because_map (listing_stops c.args.list.now (files_seen g.F.Files.did g.F.Files.held g.F.Files.faults c.args.files.now c.links_of.new.files)) c.in-Err.why c.in-Err.ensures.because

pub returns-in-Ok-fetch_links-clause-given : goal.returns-in-Ok-fetch_links-clause-given
returns-in-Ok-fetch_links-clause-given g c =
    let listed : HasListed c.args.list.now c.as_slice.result.now (λ (calls : List Call). g.F.Files.did c.args.files.now calls c.links_of.new.files) =
    subst (λ (l : List ListedLink). HasListed c.args.list.now l (λ (calls : List Call). g.F.Files.did c.args.files.now calls c.links_of.new.files)) (sym c.as_slice.ensures) c.in-Ok.ensures.listed in
    subst (λ (l : List ListedLink). AreGiven c.args.list.now l c.in-Ok-fetch_links.given (λ (calls : List Call). g.F.Files.did c.args.files.now calls c.fetch_links.new.files)) c.as_slice.ensures
    (are_given g.F.Files.did g.met.F.Files.did_more c.args.files.now c.links_of.new.files c.fetch_links.new.files c.args.list.now c.as_slice.result.now c.in-Ok-fetch_links.given listed c.in-Ok-fetch_links.ensures.each c.in-Ok-fetch_links.ensures.fetched)

pub returns-in-Err-fetch_links-clause-because : goal.returns-in-Err-fetch_links-clause-because
returns-in-Err-fetch_links-clause-because g c =
    let listed : HasListed c.args.list.now c.as_slice.result.now (λ (calls : List Call). g.F.Files.did c.args.files.now calls c.links_of.new.files) =
    subst (λ (l : List ListedLink). HasListed c.args.list.now l (λ (calls : List Call). g.F.Files.did c.args.files.now calls c.links_of.new.files)) (sym c.as_slice.ensures) c.in-Ok.ensures.listed in
    subst (λ (why : Refusal). Because (fetching c.args.list.now (files_seen g.F.Files.did g.F.Files.held g.F.Files.faults c.args.files.now c.fetch_links.new.files)) why) (sym c.unfetched.ensures)
    (unfetched_stops c.args.list.now (files_seen g.F.Files.did g.F.Files.held g.F.Files.faults c.args.files.now c.fetch_links.new.files) c.in-Err-fetch_links.error
    (if_fault_map c.in-Err-fetch_links.error _ _ (λ name f.
    let rose : Rose (g.F.Files.faults c.args.files.now) (g.F.Files.faults c.fetch_links.new.files) = omega (arith, f.1, c.links_of.ensures.later) in
    links_stuck g.F.Files.did g.met.F.Files.did_more c.args.files.now c.links_of.new.files c.fetch_links.new.files c.args.list.now c.as_slice.result.now listed (files_seen g.F.Files.did g.F.Files.held g.F.Files.faults c.args.files.now c.fetch_links.new.files) (λ calls did. did) rose name f.0) c.in-Err-fetch_links.ensures.failed)
    (no_put_more g.F.Files.did g.met.F.Files.did_more c.args.files.now c.links_of.new.files c.fetch_links.new.files
    (list_no_put g.F.Files.did g.met.F.Files.did_more c.args.files.now c.links_of.new.files c.fetch_links.new.files c.args.list.now c.as_slice.result.now listed) c.fetch_links.ensures.no_put))
