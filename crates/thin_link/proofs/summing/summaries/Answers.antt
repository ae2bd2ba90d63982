use Rattle.std.proofs.Common.{◌≡◌, ◌∙◌, ◌+◌, ◌<◌, ◌++◌, ◌∷◌, [], ℕ, List, Vec, Global, map, take, length, get_or, sym, ap, ap₂, arith}
use Rattle.std.proofs.lemmas.List.{map-append, take_all, take_more}
use Rattle.ir_tree.specs.declared.module.Module.{Module}
use Rattle.ir_summary.specs.Summaries.{summaries}
use Rattle.ir_summary.specs.declared.summary.Summary.{Summary}
use Rattle.thin_link.proofs.summing.summaries.Goals as goal

-- one more value, which is seen as what is made of the next element
one_more : {V X Y : Type 0} (see : V → Y) (f : X → Y) (vs : List V) (xs : List X) (i : ℕ) (v : V) (x : X) → i < length xs → x ≡ get_or xs i x → see v ≡ f x → map see vs ≡ map f (take i xs) → map see (vs ++ v ∷ []) ≡ map f (take (i + 1) xs)
one_more {V} {X} {Y} see f vs xs i v x inside is same old =
    map-append see vs (v ∷ [])
    ∙ ap₂ (λ (a b : List Y). a ++ b) old (ap (λ (y : Y). y ∷ []) (same ∙ ap f is))
    ∙ sym (map-append f (take i xs) (get_or xs i x ∷ []))
    ∙ ap (map f) (sym (take_more xs i x inside))

pub loop-module-preserved : goal.loop-module-preserved
loop-module-preserved c =
    ap (λ (vs : List (Vec Summary Global)). map (λ v. v.items) vs) c.in_ok-push.ensures.items
    ∙ one_more (λ (v : Vec Summary Global). v.items) (λ (m : Module). summaries m.globals) c.loop-module.all.items c.args.modules.now c.loop-module.module-index _ c.module-item.result
    c.loop-module-test.true c.module-item.is c.in_ok-summarise.ensures c.loop-module.invariant

pub returns : goal.returns
returns c = c.loop-module.invariant ∙ ap (map (λ m. summaries m.globals)) (take_all c.loop-module.module-index c.args.modules.now (omega arith))
