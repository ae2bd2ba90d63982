use Rattle.std.proofs.Common.{◌≡◌, ◌↔◌, Bool, IsTrue, List, ap, ◌∙◌, rules}
use Rattle.std.specs.Prelude.{map}
use Rattle.std.proofs.lemmas.Result.{IfOk-weaker}
use Rattle.ir_tree.specs.declared.block.Block.{Block}
use Rattle.ir_tree.specs.Rules.{place}
use Rattle.ir_verify.specs.Edged.{Agree}
use Rattle.ir_verify.proofs.Sources.{off_edges, on_when}
use Rattle.ir_verify.proofs.phis.on_edges.Goals as goal

pub returns-then-not-branch : goal.returns-then-not-branch
returns-then-not-branch c =
    let these : c.in_ok-sources.sources.items ≡ map (λ e. place c.args.function.now.blocks e.from) c.args.entries.now = c.in_ok-sources.ensures ∙ ap (λ (bs : List Block). map (λ e. place bs e.from) c.args.entries.now) c.as_slice.ensures in
    let those = c.of.ensures ∙ c.requires.graph.same c.args.block c.requires.within in (
      λ e. absurd (cc e),
      λ on. absurd (off_edges c.args.function.now c.args.block c.args.entries.now c.in_ok-sources.sources.items c.of.result.now these those c.in_ok-same_counts.field-0 c.in_ok-same_counts.ensures (search rules) on),
    )

pub returns : goal.returns
returns c =
    let these : c.in_ok-sources.sources.items ≡ map (λ e. place c.args.function.now.blocks e.from) c.args.entries.now = c.in_ok-sources.ensures ∙ ap (λ (bs : List Block). map (λ e. place bs e.from) c.args.entries.now) c.as_slice.ensures in
    let those = c.of.ensures ∙ c.requires.graph.same c.args.block c.requires.within in
    IfOk-weaker c.entries_agree.result (λ (agree : Bool). IsTrue agree ↔ Agree c.args.entries.now) _
    (λ agree equal. on_when c.args.function.now c.args.block c.args.entries.now c.in_ok-sources.sources.items c.of.result.now these those c.in_ok-same_counts.field-0 agree c.in_ok-same_counts.ensures c.if-not-branch.false equal)
    c.entries_agree.ensures
