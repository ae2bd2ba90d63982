use Rattle.std.proofs.Common.{◌≡◌, ◌∙◌, ◌∷◌, [], ◌++◌, ℕ, List, Bor, None, ap, append-nil, arith, refl, subst, sym}
use Rattle.std.proofs.lemmas.List.{drop_all}
use Rattle.combined_index.proofs.Twice.{none_noted, one_done}
use Rattle.combined_index.specs.Noted.{LeastTaken, Noted, text_of}
use Rattle.combined_index.proofs.taken.least_taken.Goals as goal

pub loop-name-preserved : goal.loop-name-preserved
loop-name-preserved c =
    let so_far = c.loop-name.invariant in (
      so_far.0 ++ c.name-item.result ∷ [],
      one_done so_far.0 c.args.names.now c.loop-name.name-index c.name-item.result (omega arith) c.name-item.is so_far.1,
      c.in_ok-least.ensures so_far.0 so_far.2,
    )

pub loop-name-init : goal.loop-name-init
loop-name-init c = ([], refl, subst (λ (keys : List (Bor (List ℕ))). Noted [] keys None) (sym c.new-seen.ensures.empty) none_noted)

pub returns : goal.returns
returns c =
    let so_far = c.loop-name.invariant in
    let all : so_far.0 ≡ c.args.names.now = sym (append-nil so_far.0) ∙ sym (ap (λ z. so_far.0 ++ z) (drop_all c.loop-name.name-index c.args.names.now c.loop-name-test.false)) ∙ so_far.1 in
    subst (λ names. LeastTaken names (text_of c.loop-name.least)) all so_far.2.least
