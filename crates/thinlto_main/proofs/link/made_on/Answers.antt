use Rattle.std.proofs.Common.{◌≡◌, ◌⊎◌, ℕ, List, None, Option, subst}
use Rattle.std.specs.Prelude.{IfOk}
use Rattle.cache_slot.specs.Decoded.{decoded}
use Rattle.lto_outside.specs.Honest.{IsHonest}
use Rattle.thinlto_main.specs.Keys.{DiskKept, IsKeyOf}
use Rattle.thinlto_main.specs.Linking.{IsMadeIf}
use Rattle.thinlto_main.proofs.Disks.{same_kept}
use Rattle.thinlto_main.proofs.link.made_on.Goals as goal

pub returns-in-Ok-clause-made : goal.returns-in-Ok-clause-made
returns-in-Ok-clause-made g c =
    subst (λ (dir : Option (List ℕ)). IfOk c.made_in.result.answer (IsMadeIf ((dir ≡ None) ⊎ IsHonest decoded g.D.CacheDisk.fits (g.D.CacheDisk.held c.args.disk)) c.args.options.now c.args.given.now)) c.in-Ok.ensures c.made_in.ensures.made

pub returns-in-Ok-clause-disk : goal.returns-in-Ok-clause-disk
returns-in-Ok-clause-disk g c =
    subst (λ (dir : Option (List ℕ)). ∥ DiskKept g.D.CacheDisk.fits (IsKeyOf c.args.options.now c.args.given.now) dir (g.D.CacheDisk.held c.args.disk) (g.D.CacheDisk.held c.made_in.result.disk) ∥₁) c.in-Ok.ensures c.made_in.ensures.disk

pub returns-in-Err-clause-disk : goal.returns-in-Err-clause-disk
returns-in-Err-clause-disk g c = ∣ same_kept g.D.CacheDisk.fits (IsKeyOf c.args.options.now c.args.given.now) c.args.options.now.cache (g.D.CacheDisk.held c.args.disk) ∣₁

pub returns-in-Ok-clause-linkable : goal.returns-in-Ok-clause-linkable
returns-in-Ok-clause-linkable g c = c.made_in.ensures.linkable

pub returns-in-Ok-clause-because : goal.returns-in-Ok-clause-because
returns-in-Ok-clause-because g c = c.made_in.ensures.because

pub returns-in-Err-clause-linkable : goal.returns-in-Err-clause-linkable
returns-in-Err-clause-linkable g c = tt

pub returns-in-Err-clause-made : goal.returns-in-Err-clause-made
returns-in-Err-clause-made g c = tt

pub returns-in-Err-clause-because : goal.returns-in-Err-clause-because
returns-in-Err-clause-because g c = tt
