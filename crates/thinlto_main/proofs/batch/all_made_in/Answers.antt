use mathlib.Core.Logic.{∥∥₁_map}
use Rattle.std.proofs.Common.{Option, subst, sym}
use Rattle.lto_outside.specs.DiskStore.{DiskStore}
use Rattle.thinlto_main.specs.Keys.{DiskKept}
use Rattle.thinlto_main.proofs.Disks.{same_kept, shelved_kept}
use Rattle.thinlto_main.proofs.batch.all_made_in.Goals as goal

pub returns-in-Ok-clause-disk : goal.returns-in-Ok-clause-disk
returns-in-Ok-clause-disk g c =
    subst (λ (held : Option DiskStore). ∥ DiskKept g.D.CacheDisk.fits g.S.Setting.keys g.S.Setting.dir held (g.D.CacheDisk.held c.close-disk.result) ∥₁) c.requires.files
    (∥∥₁_map c.close-disk.ensures.2 (shelved_kept g.D.CacheDisk.fits g.S.Setting.keys g.S.Setting.dir _ _ _ _ c.close-disk.ensures.0))

pub returns-in-Err-clause-disk : goal.returns-in-Err-clause-disk
returns-in-Err-clause-disk g c =
    subst (λ (disk : g.row.D.Denot). ∥ DiskKept g.D.CacheDisk.fits g.S.Setting.keys g.S.Setting.dir (g.D.CacheDisk.held c.args.disk) (g.D.CacheDisk.held disk) ∥₁) (sym c.in-Err.ensures.err)
    ∣ same_kept g.D.CacheDisk.fits g.S.Setting.keys g.S.Setting.dir (g.D.CacheDisk.held c.args.disk) ∣₁

pub returns-in-Ok-clause-linkable : goal.returns-in-Ok-clause-linkable
returns-in-Ok-clause-linkable g c = c.all_made-answer.ensures.linkable

pub returns-in-Ok-clause-made : goal.returns-in-Ok-clause-made
returns-in-Ok-clause-made g c = c.all_made-answer.ensures.made

pub returns-in-Ok-clause-because : goal.returns-in-Ok-clause-because
returns-in-Ok-clause-because g c = c.all_made-answer.ensures.because

pub returns-in-Err-clause-linkable : goal.returns-in-Err-clause-linkable
returns-in-Err-clause-linkable g c = tt

pub returns-in-Err-clause-made : goal.returns-in-Err-clause-made
returns-in-Err-clause-made g c = tt

pub returns-in-Err-clause-because : goal.returns-in-Err-clause-because
returns-in-Err-clause-because g c = tt
