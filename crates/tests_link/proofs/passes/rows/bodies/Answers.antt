use Rattle.std.proofs.Common.{◌≡◌, ◌∙◌, List, All, Bor, ap, map, subst, sym}
use Rattle.ir_tree.specs.Wholes.{GlobalSound}
use Rattle.ir_tree.specs.declared.module.GlobalValue.{GlobalValue}
use Rattle.ir_tree.specs.declared.module.Module.{Module}
use Rattle.tests_link.proofs.passes.rows.bodies.Goals as goal

pub returns : goal.returns
returns c =
    let same : map (λ g. g.now) c.deref.result.now ≡ c.args.module.now.globals =
    ap (map (λ (g : Bor GlobalValue). g.now)) c.deref.ensures.value ∙ c.in_ok-globals.ensures ∙ c.as_slice.ensures ∙ ap (λ (m : Module). m.globals) c.module.ensures.module in
    c.in_ok-bodies.ensures.sound (subst (λ (gs : List GlobalValue). All GlobalSound gs) (sym same) c.module.ensures.sound.sound)
