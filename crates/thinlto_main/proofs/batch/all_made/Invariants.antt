use Rattle.std.proofs.Common.{take}
use Rattle.std.specs.List.{AllZip}
use Rattle.back_pool.specs.Making.{IsTrusted}
use Rattle.cache_slot.specs.Places.{IsAt}
use Rattle.thinlto_main.specs.Linking.{IsLinkable, IsMadeIf}
use Rattle.thinlto_main.proofs.batch.all_made.Given as goal

abbrev pub invariant-loop-at : goal.invariant-loop-at
invariant-loop-at g l = record {
  pass : IsAt l.cache.lock.table.shared.table_id l.pass.place.seat;
  made : AllZip (IsMadeIf (IsTrusted g.S.Setting.dir g.D.CacheDisk.fits g.S.Setting.files) l.options) (take l.at l.given) l.texts;
  linkable : AllZip (λ link bytes. IsLinkable l.options link.files bytes) (take l.at l.links) (take l.at l.given);
}
