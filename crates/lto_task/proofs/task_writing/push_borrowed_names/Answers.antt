use Rattle.std.proofs.Common.{ℕ, Bor, List, arith, subst, take_all}
use Rattle.std.specs.Prelude.{All}
use Rattle.std.proofs.lemmas.Grind.{common_steps}
use Rattle.std.proofs.lemmas.List.Elements.{All-map, All-more}
use Rattle.ir_tree.specs.Names.{AllBytes}
use Rattle.lto_task.proofs.task_writing.push_borrowed_names.Goals as goal

abbrev IsOfBytes : Bor (List ℕ) → Type 0
IsOfBytes name = AllBytes name.now

pub loop-name-preserved : goal.loop-name-preserved
loop-name-preserved c = record {
  wrote = grind (arith, common_steps);
  bytes = All-more IsOfBytes c.args.names.now c.loop-name.name-index _ c.loop-name-test.true c.loop-name.invariant.bytes c.push_name_line.ensures.bytes;
}

pub returns-clause-bytes : goal.returns-clause-bytes
returns-clause-bytes c =
    All-map AllBytes (λ (name : Bor (List ℕ)). name.now) c.args.names.now
    (subst (All IsOfBytes) (take_all c.loop-name.name-index c.args.names.now (omega (arith, c.loop-name-test.false))) c.loop-name.invariant.bytes)
