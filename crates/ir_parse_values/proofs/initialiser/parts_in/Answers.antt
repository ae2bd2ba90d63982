use Rattle.std.proofs.Common.{sym, ap, ◌∙◌, subst, List, [], Ok}
use Rattle.std.proofs.lemmas.List.{drop_all}
use Rattle.ir_parse_parts.specs.declared.raw.InitPart as written
use Rattle.ir_tree.specs.Initials.{IsFlat, tree_of}
use Rattle.ir_tree.specs.declared.init_node.InitPart.{InitPart}
use Rattle.ir_parse_names.specs.Resolving.{each}
use Rattle.ir_parse_names.specs.Variables.{part_in}
use Rattle.ir_parse_values.proofs.Closings.{tree_onto, started, started_flat, stepped, stepped_flat}
use Rattle.ir_parse_values.proofs.initialiser.parts_in.Goals as goal

pub each-init : goal.each-init
each-init c = record {
  rest = started c.args.root.now c.in_ok-collected.collected (each (part_in c.args.types.now c.args.locals.now) c.args.parts.now) c.in_ok-collected.ensures;
  flat = λ ps. started_flat c.args.root.now c.in_ok-collected.collected ps c.in_ok-collected.ensures;
}

pub each-preserved : goal.each-preserved
each-preserved c =
    let step = stepped c.args.root.now (part_in c.args.types.now c.args.locals.now) c.args.parts.now c.each.part-index c.each.collected c.push.new.collected c.part-item.result c.in_ok-made.made c.each-test.true c.part-item.is c.in_ok-made.ensures c.in_ok-push.ensures in
    record {
      rest = sym step ∙ c.each.invariant.rest;
      flat = stepped_flat c.args.root.now c.each.collected c.push.new.collected c.in_ok-made.made c.in_ok-push.ensures c.each.invariant.flat;
    }

pub returns-clause-flat : goal.returns-clause-flat
returns-clause-flat c =
    subst (λ (ps : List InitPart). IsFlat c.args.root.now ps) (sym c.in_ok-out.ensures) (c.each.invariant.flat [])

pub returns-clause-tree : goal.returns-clause-tree
returns-clause-tree c =
    sym c.each.invariant.rest
    ∙ ap (λ (ps : List written.InitPart). tree_onto c.args.root.now c.each.collected (each (part_in c.args.types.now c.args.locals.now) ps)) (drop_all c.each.part-index c.args.parts.now c.each-test.false)
    ∙ ap (λ (ps : List InitPart). Ok (tree_of (c.args.root.now, ps))) (sym c.in_ok-out.ensures)
