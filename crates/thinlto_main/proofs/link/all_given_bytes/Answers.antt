use Rattle.std.proofs.Common.{◌∙◌, ℕ, All, List, Option, ap, arith, subst, take_all}
use Rattle.std.proofs.lemmas.List.Elements.{All-more}
use Rattle.ir_tree.specs.Names.{AllBytes}
use Rattle.thinlto_main.specs.Modules.{bytes_of}
use Rattle.thinlto_main.proofs.Linking.{all_given}
use Rattle.thinlto_main.proofs.link.all_given_bytes.Goals as goal

pub loop-bytes-preserved : goal.loop-bytes-preserved
loop-bytes-preserved c =
    All-more (λ (given : Option (List ℕ)). AllBytes (bytes_of given)) c.args.given.now c.loop-bytes.bytes-index c.bytes-item.result c.loop-bytes-test.true c.loop-bytes.invariant
    (subst AllBytes (c.slice_of.ensures ∙ ap bytes_of c.bytes-item.is) c.all_bytes.ensures)

pub returns : goal.returns
returns c =
    all_given c.args.given.now
    (subst (All (λ (given : Option (List ℕ)). AllBytes (bytes_of given))) (take_all c.loop-bytes.bytes-index c.args.given.now (omega (arith, c.loop-bytes-test.false))) c.loop-bytes.invariant)
