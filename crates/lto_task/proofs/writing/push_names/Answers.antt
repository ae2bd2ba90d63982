use Rattle.std.proofs.Common.{◌∙◌, arith, subst, take_all}
use Rattle.std.specs.Prelude.{All}
use Rattle.std.proofs.lemmas.Grind.{common_steps}
use Rattle.std.proofs.lemmas.List.Elements.{All-more}
use Rattle.ir_tree.specs.Names.{AllBytes}
use Rattle.lto_task.proofs.writing.push_names.Goals as goal

pub loop-name-preserved : goal.loop-name-preserved
loop-name-preserved c = record {
  wrote = grind (arith, common_steps);
  bytes = All-more AllBytes c.args.names.now c.loop-name.name-index c.name-item.result c.loop-name-test.true c.loop-name.invariant.bytes (subst AllBytes (c.as_slice.ensures ∙ c.name-item.is) c.push_name_line.ensures.bytes);
}

pub returns-clause-bytes : goal.returns-clause-bytes
returns-clause-bytes c = subst (All AllBytes) (take_all c.loop-name.name-index c.args.names.now (omega (arith, c.loop-name-test.false))) c.loop-name.invariant.bytes
