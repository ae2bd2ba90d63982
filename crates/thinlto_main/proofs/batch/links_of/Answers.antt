use Rattle.std.proofs.Common.{subst, sym}
use Rattle.lto_fault.specs.declared.refusal.Refusal.{Refusal}
use Rattle.lto_outside.specs.Seen.{files_seen}
use Rattle.run_program.specs.Causes.{Because}
use Rattle.thinlto_main.specs.Batching.{listing}
use Rattle.thinlto_main.proofs.Batching.{list_unfetched}
use Rattle.thinlto_main.proofs.batch.links_of.Goals as goal

pub returns-in-Err-clause-because : goal.returns-in-Err-clause-because
returns-in-Err-clause-because g c =
    subst (λ (why : Refusal). Because (listing c.args.list.now (files_seen g.F.Files.did g.F.Files.held g.F.Files.faults c.args.files.now c.fetch_one.new.files)) why) (sym c.unfetched.ensures)
    (list_unfetched c.args.list.now (files_seen g.F.Files.did g.F.Files.held g.F.Files.faults c.args.files.now c.fetch_one.new.files) c.in-Err.error c.in-Err.ensures.failed c.fetch_one.ensures.no_put)
