use Rattle.std.proofs.Common.{◌≡◌, ◌<◌, length, sym, subst, refl, ◌∙◌, Some, arith}
use Rattle.std.specs.Prelude.{slice_get}
use Rattle.link_core.specs.declared.event.Phase.TheVariants.{Made}
use Rattle.link_core.specs.Machine.{LinkState}
use Rattle.link_core.specs.Views.{link_of}
use Rattle.link_core.proofs.Sound.{phase_taken, settled_sound}
use Rattle.link_core.proofs.link.Link.finish.Goals as goal

pub index_mut-requires-2 : goal.index_mut-requires-2
index_mut-requires-2 c =
    let l = link_of c.self.inside in
    let n = c.in-Made.number in
    let t = c.in-Made.text in
    let at : slice_get l.phases c.args.worker ≡ Some (Made n t) =
    phase_taken l c.args.self.now c.args.worker (Made c.requires.0 c.requires.1) c.index_mut.result.now (Made n t) c.self.view_is c.requires.2 c.in-Made.ensures.value c.index_mut.ensures.value in
    let in_keys : n < length l.keys = c.self.invariant.numbers c.args.worker n (Made n t) at refl in
    let sized : length l.results ≡ length l.keys = c.self.invariant.sized in
    omega arith

pub invariant_of-self : goal.invariant_of-self
invariant_of-self c =
    let l = link_of c.self.inside in
    let n = c.in-Made.number in
    let t = c.in-Made.text in
    let at : slice_get l.phases c.args.worker ≡ Some (Made n t) =
    phase_taken l c.args.self.now c.args.worker (Made c.requires.0 c.requires.1) c.index_mut.result.now (Made n t) c.self.view_is c.requires.2 c.in-Made.ensures.value c.index_mut.ensures.value in
    rw c.in-Made.ensures.after (settled_sound l c.args.worker n (Made n t) t c.self.invariant at refl)

pub returns : goal.returns
returns c k text is =
    let l = link_of c.self.inside in
    let n = c.in-Made.number in
    let t = c.in-Made.text in
    let at : slice_get l.phases c.args.worker ≡ Some (Made n t) =
    phase_taken l c.args.self.now c.args.worker (Made c.requires.0 c.requires.1) c.index_mut.result.now (Made n t) c.self.view_is c.requires.2 c.in-Made.ensures.value c.index_mut.ensures.value in
    let given : slice_get l.phases c.args.worker ≡ Some (Made k text) =
    subst (λ (s : LinkState). slice_get s.phases c.args.worker ≡ Some (Made k text)) (sym c.self.view_is) is in
    let both : Some (Made n t) ≡ Some (Made k text) = sym at ∙ given in
    let same : n ≡ k = cc both in
    let texts : t ≡ text = cc both in
    rw (← c.self.view_is, c.in-Made.ensures.after, ← same, ← texts) refl
