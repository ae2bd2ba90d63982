use Rattle.std.proofs.Common.{◌∙◌, ◌++◌, ◌∷◌, [], List, ap, arith, get_or, sym, take, take_all}
use Rattle.std.proofs.lemmas.List.{append-nil, take_more}
use Rattle.std.proofs.lemmas.List.Concat.{flat_map-append}
use Rattle.ir_tree.specs.declared.module.GlobalValue.{GlobalValue}
use Rattle.importer.specs.Brought.{joined}
use Rattle.importer.proofs.table.all_of.Goals as goal

pub loop-part-preserved : goal.loop-part-preserved
loop-part-preserved c =
    let here : List GlobalValue = get_or c.args.parts.now c.loop-part.part-index c.part-item.result in
    c.in_ok-push_all.ensures ∙ ap (λ (l : List GlobalValue). l ++ c.as_slice.result.now) c.loop-part.invariant
    ∙ ap (λ (l : List GlobalValue). joined (take c.loop-part.part-index c.args.parts.now) ++ l) (c.as_slice.ensures ∙ c.part-item.is ∙ sym (append-nil here))
    ∙ sym (flat_map-append (λ gs. gs) (take c.loop-part.part-index c.args.parts.now) (here ∷ [])) ∙ ap joined (sym (take_more c.args.parts.now c.loop-part.part-index c.part-item.result c.loop-part-test.true))

pub returns : goal.returns
returns c =
    c.loop-part.invariant ∙ ap joined (take_all c.loop-part.part-index c.args.parts.now (omega (arith, c.loop-part-test.false)))
