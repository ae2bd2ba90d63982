use Rattle.std.proofs.Common.{ℕ, List, subst}
use Rattle.cache_slot.specs.Decoded.{decoded}
use Rattle.lto_outside.specs.Calls.{Call}
use Rattle.lto_outside.specs.Honest.{IsHonest}
use Rattle.lto_outside.specs.Seen.{files_seen}
use Rattle.run_program.specs.Causes.{Comes}
use Rattle.thinlto_main.specs.Honest.{IsTrustedBy}
use Rattle.thinlto_main.specs.Keys.{DiskKept, IsKeyOfFiles}
use Rattle.thinlto_main.specs.Linking.{linking}
use Rattle.thinlto_main.proofs.command.obey_link.Goals as goal

pub returns-clause-answer : goal.returns-clause-answer
returns-clause-answer g c =
    subst (λ (ns : List (List ℕ)). Comes (linking c.args.options c.args.out ns (IsTrustedBy c.args.options (IsHonest decoded g.D.CacheDisk.fits (g.D.CacheDisk.held c.args.disk))) (files_seen g.F.Files.did g.F.Files.held g.F.Files.faults c.args.files.now c.link.new.files)) c.link.result.status)
    c.as_slice.ensures c.link.ensures.answer

pub returns-clause-disk : goal.returns-clause-disk
returns-clause-disk g c =
    subst (λ (ns : List (List ℕ)). ∥ DiskKept g.D.CacheDisk.fits (IsKeyOfFiles c.args.options ns (λ (calls : List Call). g.F.Files.did c.args.files.now calls c.link.new.files)) c.args.options.cache (g.D.CacheDisk.held c.args.disk) (g.D.CacheDisk.held c.link.result.disk) ∥₁)
    c.as_slice.ensures c.link.ensures.disk

pub returns-clause-later : goal.returns-clause-later
returns-clause-later g c = c.link.ensures.later
