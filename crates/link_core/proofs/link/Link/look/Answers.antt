use Rattle.std.proofs.Common.{◌≡◌, ◌<◌, ℕ, List, length, sym, subst, refl, ap, ◌∙◌, Some, None, arith}
use Rattle.std.specs.Prelude.{slice_get}
use Rattle.std.specs.Option.{option_copied}
use Rattle.link_core.specs.declared.event.Phase.TheVariants.{Claimed}
use Rattle.link_core.specs.Machine.{LinkState, key_at, found, looked, settled}
use Rattle.link_core.specs.Views.{link_of}
use Rattle.link_core.proofs.Sound.{phase_read, key_reads}
use Rattle.link_core.proofs.link.Link.look.Goals as goal

pub index-requires-2 : goal.index-requires-2
index-requires-2 c =
    let l = link_of c.self.inside in
    let k = c.in-Claimed.number in
    let at : slice_get l.phases c.args.worker ≡ Some (Claimed k) = phase_read l c.args.self.now c.args.worker c.index.result.now (Claimed k) c.self.view_is c.requires c.index.ensures c.in-Claimed.is in
    let in_keys : k < length l.keys = c.self.invariant.numbers c.args.worker k (Claimed k) at refl in
    omega arith

pub returns-in_default-found-clause-ok : goal.returns-in_default-found-clause-ok
returns-in_default-found-clause-ok c =
    let l = link_of c.self.inside in
    let now = c.args.self.now in
    let k = c.in-Claimed.number in
    let at : slice_get l.phases c.args.worker ≡ Some (Claimed k) = phase_read l c.args.self.now c.args.worker c.index.result.now (Claimed k) c.self.view_is c.requires c.index.ensures c.in-Claimed.is in
    let in_keys : k < length l.keys = c.self.invariant.numbers c.args.worker k (Claimed k) at refl in
    let has : slice_get now.phases c.args.worker ≡ Some (Claimed k) = subst (λ (s : LinkState). slice_get s.phases c.args.worker ≡ Some (Claimed k)) c.self.view_is at in
    let key : c.as_slice.result.now ≡ key_at l.keys k = c.as_slice.ensures ∙ key_reads l.keys k c.index-2.result.now in_keys c.index-2.ensures in
    let key_now : c.as_slice.result.now ≡ key_at now.keys k = subst (λ (s : LinkState). c.as_slice.result.now ≡ key_at s.keys k) c.self.view_is key in
    let asked : found c.args.entries.now c.args.disk.now (key_at now.keys k) c.args.given ≡ option_copied c.found.result =
    ap (λ (z : List ℕ). found c.args.entries.now c.args.disk.now z c.args.given) (sym key_now) ∙ sym c.found.ensures in
    let none : found c.args.entries.now c.args.disk.now (key_at now.keys k) c.args.given ≡ None = asked ∙ ap option_copied c.in_default-found.is in
    (k, has, c.miss.ensures ∙ sym (ap (looked now c.args.worker k) none))

pub settle-requires : goal.settle-requires
settle-requires c =
    let l = link_of c.self.inside in
    let now = c.args.self.now in
    let k = c.in-Claimed.number in
    let at : slice_get l.phases c.args.worker ≡ Some (Claimed k) = phase_read l c.args.self.now c.args.worker c.index.result.now (Claimed k) c.self.view_is c.requires c.index.ensures c.in-Claimed.is in
    let in_keys : k < length l.keys = c.self.invariant.numbers c.args.worker k (Claimed k) at refl in
    let has : slice_get now.phases c.args.worker ≡ Some (Claimed k) = subst (λ (s : LinkState). slice_get s.phases c.args.worker ≡ Some (Claimed k)) c.self.view_is at in
    (Claimed k, has, refl)

pub returns-clause-ok : goal.returns-clause-ok
returns-clause-ok c =
    let l = link_of c.self.inside in
    let now = c.args.self.now in
    let k = c.in-Claimed.number in
    let at : slice_get l.phases c.args.worker ≡ Some (Claimed k) = phase_read l c.args.self.now c.args.worker c.index.result.now (Claimed k) c.self.view_is c.requires c.index.ensures c.in-Claimed.is in
    let in_keys : k < length l.keys = c.self.invariant.numbers c.args.worker k (Claimed k) at refl in
    let has : slice_get now.phases c.args.worker ≡ Some (Claimed k) = subst (λ (s : LinkState). slice_get s.phases c.args.worker ≡ Some (Claimed k)) c.self.view_is at in
    let key : c.as_slice.result.now ≡ key_at l.keys k = c.as_slice.ensures ∙ key_reads l.keys k c.index-2.result.now in_keys c.index-2.ensures in
    let key_now : c.as_slice.result.now ≡ key_at now.keys k = subst (λ (s : LinkState). c.as_slice.result.now ≡ key_at s.keys k) c.self.view_is key in
    let asked : found c.args.entries.now c.args.disk.now (key_at now.keys k) c.args.given ≡ option_copied c.found.result =
    ap (λ (z : List ℕ). found c.args.entries.now c.args.disk.now z c.args.given) (sym key_now) ∙ sym c.found.ensures in
    let some : found c.args.entries.now c.args.disk.now (key_at now.keys k) c.args.given ≡ Some c.in-Some.text.now = asked ∙ ap option_copied c.in-Some.is in
    let text : c.in_ok-text.text ≡ c.in-Some.text.now = c.in_ok-text.ensures ∙ c.as_slice-2.ensures in
    (k, has, c.settle.ensures ∙ (ap (λ (t : List ℕ). settled now c.args.worker k t) text ∙ sym (ap (looked now c.args.worker k) some)))
