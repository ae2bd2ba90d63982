use Rattle.std.proofs.Common.{◌≡◌, ◌<◌, length, sym, subst, refl, ◌∙◌, Some, arith}
use Rattle.std.specs.Prelude.{slice_get}
use Rattle.link_core.specs.declared.event.Phase.TheVariants.{Made}
use Rattle.link_core.specs.Machine.{LinkState}
use Rattle.link_core.specs.Views.{link_of}
use Rattle.std.proofs.lemmas.Option.{get_or_from_slice_get}
use Rattle.link_core.proofs.Sound.{phase_read, key_reads}
use Rattle.link_core.proofs.link.Link.made.Goals as goal

pub index-requires-in-Made : goal.index-requires-in-Made
index-requires-in-Made c =
    let l = link_of c.self.inside in
    let k = c.in-Made.number in
    let at : slice_get l.phases c.args.worker ≡ Some (Made k c.in-Made.text) = phase_read l c.args.self.now c.args.worker c.index.result.now (Made k c.in-Made.text) c.self.view_is c.requires c.index.ensures c.in-Made.is in
    let in_keys : k < length l.keys = c.self.invariant.numbers c.args.worker k (Made k c.in-Made.text) at refl in
    omega arith

pub returns-in-Made-clause-some : goal.returns-in-Made-clause-some
returns-in-Made-clause-some c =
    let l = link_of c.self.inside in
    let k = c.in-Made.number in
    let at : slice_get l.phases c.args.worker ≡ Some (Made k c.in-Made.text) = phase_read l c.args.self.now c.args.worker c.index.result.now (Made k c.in-Made.text) c.self.view_is c.requires c.index.ensures c.in-Made.is in
    let in_keys : k < length l.keys = c.self.invariant.numbers c.args.worker k (Made k c.in-Made.text) at refl in
    rw (← c.self.view_is) (k, at, key_reads l.keys k c.index-in-Made.result.now in_keys c.index-in-Made.ensures)

pub returns-in_default : goal.returns-in_default
returns-in_default c = record {
  some = tt;
  none = λ _ k text is.
      let l = link_of c.self.inside in
      let here : slice_get l.phases c.args.worker ≡ Some (Made k text) = subst (λ (s : LinkState). slice_get s.phases c.args.worker ≡ Some (Made k text)) (sym c.self.view_is) is in
      c.in_default.not-Made k text (c.index.ensures ∙ get_or_from_slice_get l.phases c.args.worker (Made k text) c.index.result.now here);
}
