use Rattle.std.proofs.Common.{◌∙◌, All, arith, subst, take_all}
use Rattle.std.proofs.lemmas.List.Elements.{All-more}
use Rattle.ir_tree.specs.Names.{AllBytes}
use Rattle.link_one.proofs.writable.all_names.Goals as goal

pub loop-name-preserved : goal.loop-name-preserved
loop-name-preserved c =
    All-more AllBytes c.args.names.now c.loop-name.name-index c.name-item.result c.loop-name-test.true c.loop-name.invariant (subst AllBytes (c.as_slice.ensures ∙ c.name-item.is) c.all_bytes.ensures)

pub returns-clause-bytes : goal.returns-clause-bytes
returns-clause-bytes c = subst (All AllBytes) (take_all c.loop-name.name-index c.args.names.now (omega (arith, c.loop-name-test.false))) c.loop-name.invariant
