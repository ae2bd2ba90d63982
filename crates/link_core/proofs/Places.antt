-- The link and the worker of an event that exists.
use Rattle.std.proofs.Common.{◌≡◌, ℕ, zero, suc, ◌<◌, List, [], ◌∷◌, Option, Some, length, get_or, slice_get, ap, arith, subst, sym}
use Rattle.link_core.specs.declared.event.Event.{Event}
use Rattle.link_core.specs.Machine.{CoreState, LinkState}
use Rattle.link_core.specs.Refusals.{Exists}

got : {A : Type 0} (xs : List A) (i : ℕ) (d x : A) → i < length xs → x ≡ get_or xs i d → slice_get xs i ≡ Some x
got [] i d x h e = absurd (omega (arith, h))
got (y ∷ xs) zero d x h e = ap Some (sym e)
got (y ∷ xs) (suc i) d x h e = got xs i d x (omega (arith, h)) e

pub worker_there : (v w : CoreState) (e : Event) (d l : LinkState) → v ≡ w → Exists w e → l ≡ get_or v.links e.link d → e.worker < length l.phases
worker_there v w e d l same exists is =
    let there : Exists v e = subst (λ (x : CoreState). Exists x e) (sym same) exists in
    there.worker l (got v.links e.link d l there.link is)
