use Rattle.std.proofs.Common.{◌∙◌, ◌++◌, ◌∷◌, [], ℕ, Bor, List, ap, arith, sym, take, take_all}
use Rattle.std.proofs.lemmas.List.{map_push, take_more}
use Rattle.ir_summary.specs.Once.{texts}
use Rattle.importer.proofs.names.borrowed.Goals as goal

pub loop-name-preserved : goal.loop-name-preserved
loop-name-preserved c =
    ap texts c.in_ok-push.ensures.items ∙ map_push (λ (n : Bor (List ℕ)). n.now) c.loop-name.list.items c.as_slice.result ∙ ap (λ (l : List (List ℕ)). l ++ c.as_slice.result.now ∷ []) c.loop-name.invariant
    ∙ ap (λ (n : List ℕ). take c.loop-name.name-index c.args.names.now ++ n ∷ []) (c.as_slice.ensures ∙ c.name-item.is) ∙ sym (take_more c.args.names.now c.loop-name.name-index c.name-item.result c.loop-name-test.true)

pub returns : goal.returns
returns c = c.loop-name.invariant ∙ take_all c.loop-name.name-index c.args.names.now (omega (arith, c.loop-name-test.false))
