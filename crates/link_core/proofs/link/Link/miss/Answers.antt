use Rattle.std.proofs.Common.{sym, subst, refl}
use Rattle.link_core.specs.declared.event.Phase.TheVariants.{Missed}
use Rattle.link_core.specs.Machine.{LinkState}
use Rattle.link_core.specs.Sound.{HasNumber}
use Rattle.link_core.specs.Views.{link_of}
use Rattle.link_core.proofs.Sound.{moved_sound}
use Rattle.link_core.proofs.link.Link.miss.Goals as goal

pub invariant_of-self : goal.invariant_of-self
invariant_of-self c =
    let l = link_of c.self.inside in
    let has : HasNumber l c.args.worker c.args.number = subst (λ (s : LinkState). HasNumber s c.args.worker c.args.number) (sym c.self.view_is) c.requires in
    moved_sound l c.args.worker c.args.number has.0 (Missed c.args.number) c.self.invariant has.1 has.2 refl
