use Rattle.std.proofs.Common.{List, ℕ, Option, sym, subst}
use Rattle.lto_outside.specs.DiskStore.{DiskStore}
use Rattle.cache_slot.specs.declared.record.Record.{Record}
use Rattle.cache_slot.specs.Shelved.{IsShelved}
use Rattle.cache_slot.proofs.Shelving.{shelved_open}
use Rattle.cache_slot.proofs.shelf.Shelf.new.Goals as goal

pub invariant_of-result : goal.invariant_of-result
invariant_of-result g c = record {
  same_dir = sym c.requires.dir;
  kept = ∣ subst (λ (z : ℕ × Option DiskStore × List Record). IsShelved g.D.CacheDisk.fits g.S.Setting.keys g.S.Setting.dir g.S.Setting.faults g.S.Setting.files z.0 z.1 z.2)
      (λ i. (c.requires.faults i, c.requires.files i, sym c.new.ensures i))
      (shelved_open g.D.CacheDisk.fits g.S.Setting.keys g.S.Setting.dir g.S.Setting.faults g.S.Setting.files) ∣₁;
}
