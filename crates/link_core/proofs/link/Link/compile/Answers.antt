use Rattle.std.proofs.Common.{◌≡◌, refl, Some}
use Rattle.std.specs.Prelude.{slice_get}
use Rattle.link_core.specs.declared.event.Phase.TheVariants.{Missed, Made}
use Rattle.link_core.specs.Views.{link_of}
use Rattle.link_core.proofs.Sound.{phase_read, moved_sound}
use Rattle.link_core.proofs.link.Link.compile.Goals as goal

pub invariant_of-self : goal.invariant_of-self
invariant_of-self c =
    let l = link_of c.self.inside in
    let k = c.in-Missed.number in
    let at : slice_get l.phases c.args.worker ≡ Some (Missed k) = phase_read l c.args.self.now c.args.worker c.index.result.now (Missed k) c.self.view_is c.requires c.index.ensures c.in-Missed.is in
    moved_sound l c.args.worker k (Missed k) (Made k c.in_ok-copied.field-0) c.self.invariant at refl refl

pub returns-clause-ok : goal.returns-clause-ok
returns-clause-ok c =
    let l = link_of c.self.inside in
    let k = c.in-Missed.number in
    let at : slice_get l.phases c.args.worker ≡ Some (Missed k) = phase_read l c.args.self.now c.args.worker c.index.result.now (Missed k) c.self.view_is c.requires c.index.ensures c.in-Missed.is in
    rw (← c.self.view_is) (k, at, rw (c.in_ok-copied.ensures, c.as_slice.ensures) refl)
