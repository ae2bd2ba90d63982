use Rattle.std.proofs.Common.{ℕ, List, Option, sym, subst}
use Rattle.std.proofs.lemmas.Result.{IfErr-weaker, IfOk-weaker}
use Rattle.lto_fault.specs.declared.refusal.Refusal.{Refusal}
use Rattle.lto_outside.specs.Calls.{Call}
use Rattle.lto_outside.specs.Seen.{files_seen}
use Rattle.run_program.specs.Causes.{Because}
use Rattle.thinlto_main.specs.Modules.{AreFetched, reading}
use Rattle.thinlto_main.proofs.Reading.{read_because, unfetched_because}
use Rattle.thinlto_main.proofs.modules.modules.Goals as goal

pub returns-in-Err-clause-because : goal.returns-in-Err-clause-because
returns-in-Err-clause-because g c =
    subst (λ (why : Refusal). Because (reading c.args.names.now (files_seen g.F.Files.did g.F.Files.held g.F.Files.faults c.args.files.now c.fetch_all.new.files)) why) (sym c.unfetched.ensures)
    (unfetched_because c.args.names.now (files_seen g.F.Files.did g.F.Files.held g.F.Files.faults c.args.files.now c.fetch_all.new.files) c.in-Err.error c.in-Err.ensures.failed c.fetch_all.ensures.no_put)

pub returns-clause-because : goal.returns-clause-because
returns-clause-because g c =
    let fetched : AreFetched c.args.names.now c.as_slice.result.now (λ (calls : List Call). g.F.Files.did c.args.files.now calls c.fetch_all.new.files) =
    subst (λ (l : List (Option (List ℕ))). AreFetched c.args.names.now l (λ (calls : List Call). g.F.Files.did c.args.files.now calls c.fetch_all.new.files)) (sym c.as_slice.ensures) (record { each = c.in-Ok.ensures.each; calls = c.in-Ok.ensures.fetched }) in
    IfErr-weaker c.read_alone.result _ _
    (λ why h. read_because c.args.names.now c.as_slice.result.now (files_seen g.F.Files.did g.F.Files.held g.F.Files.faults c.args.files.now c.fetch_all.new.files) fetched why h)
    c.read_alone.ensures.because

pub returns-clause-read : goal.returns-clause-read
returns-clause-read g c =
    let fetched : AreFetched c.args.names.now c.as_slice.result.now (λ (calls : List Call). g.F.Files.did c.args.files.now calls c.fetch_all.new.files) =
    subst (λ (l : List (Option (List ℕ))). AreFetched c.args.names.now l (λ (calls : List Call). g.F.Files.did c.args.files.now calls c.fetch_all.new.files)) (sym c.as_slice.ensures) (record { each = c.in-Ok.ensures.each; calls = c.in-Ok.ensures.fetched }) in
    IfOk-weaker c.read_alone.result _ _ (λ ms read. record { given = c.as_slice.result.now; fetched = fetched; read = read }) c.read_alone.ensures.read
