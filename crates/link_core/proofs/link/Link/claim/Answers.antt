use Rattle.std.proofs.Common.{◌≡◌, length, refl, Some, arith}
use Rattle.std.specs.Prelude.{slice_get}
use Rattle.link_core.specs.declared.event.Phase.TheVariants.{Idle}
use Rattle.link_core.specs.Views.{link_of}
use Rattle.link_core.proofs.Sound.{phase_read, ended_le, claimed_sound}
use Rattle.link_core.proofs.link.Link.claim.Goals as goal

pub overflow_add-self : goal.overflow_add-self
overflow_add-self c = let ended = ended_le c.self.inside.phases.items in let room = c.self.invariant.room in omega arith

pub invariant_of-self : goal.invariant_of-self
invariant_of-self c =
    let l = link_of c.self.inside in
    let at : slice_get l.phases c.args.worker ≡ Some Idle = phase_read l c.args.self.now c.args.worker c.index.result.now Idle c.self.view_is c.requires c.index.ensures c.in-Idle.is in
    let count : c.len.result ≡ length l.keys = omega arith in
    rw (c.drawn.ensures, count) (claimed_sound l c.args.worker c.self.invariant at)

pub returns-clause-ok : goal.returns-clause-ok
returns-clause-ok c =
    let l = link_of c.self.inside in
    let at : slice_get l.phases c.args.worker ≡ Some Idle = phase_read l c.args.self.now c.args.worker c.index.result.now Idle c.self.view_is c.requires c.index.ensures c.in-Idle.is in
    let count : c.len.result ≡ length l.keys = omega arith in
    rw (← c.self.view_is) (at, rw (c.drawn.ensures, count) refl)
