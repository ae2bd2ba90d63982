use Rattle.std.proofs.Common.{◌∙◌, ◌++◌, ◌∷◌, [], Bor, List, ap, append_assoc, arith, sym, take, take_all}
use Rattle.std.proofs.lemmas.List.{map_push, take_more}
use Rattle.ir_tree.specs.declared.module.GlobalValue.{GlobalValue}
use Rattle.importer.specs.Tables.{values}
use Rattle.importer.proofs.table.push_all.Goals as goal

pub loop-global-preserved : goal.loop-global-preserved
loop-global-preserved c =
    ap values c.in_ok-push.ensures.items ∙ map_push (λ (g : Bor GlobalValue). g.now) c.loop-global.all.items _ ∙ ap (λ (l : List GlobalValue). l ++ c.global-item.result ∷ []) c.loop-global.invariant
    ∙ append_assoc (values c.args.all.now.items) (take c.loop-global.global-index c.args.globals.now) (c.global-item.result ∷ [])
    ∙ ap (λ (g : GlobalValue). values c.args.all.now.items ++ (take c.loop-global.global-index c.args.globals.now ++ g ∷ [])) c.global-item.is
    ∙ ap (λ (l : List GlobalValue). values c.args.all.now.items ++ l) (sym (take_more c.args.globals.now c.loop-global.global-index c.global-item.result c.loop-global-test.true))

pub returns : goal.returns
returns c =
    c.loop-global.invariant
    ∙ ap (λ (gs : List GlobalValue). values c.args.all.now.items ++ gs) (take_all c.loop-global.global-index c.args.globals.now (omega (arith, c.loop-global-test.false)))
