use Rattle.std.proofs.Common.{◌≡◌, ◌++◌, ◌+◌, List, refl}
use Rattle.std.specs.Prelude.{reverse}
use Rattle.ir_lex.specs.Pieces.{bytes_of}
use Rattle.ir_tree.specs.declared.init_node.InitPart.{InitPart}
use Rattle.ir_print.specs.Initials as initials
use Rattle.ir_print.proofs.Written.{goes_on, dropped, all_on}
use Rattle.ir_print.proofs.variable.put_parts.Goals as goal

pub each-preserved : goal.each-preserved
each-preserved c =
    let e = dropped c.args.parts.now c.each.part-index c.part-item.result _ c.each-test.true c.part-item.is (λ (ps : List InitPart). c.each.out.items ++ bytes_of (initials.parts (reverse c.each.levels.items) c.each.is_next_first ps) ≡ c.args.out.now.items ++ bytes_of (initials.parts (reverse c.args.levels.now.items) c.args.is_first c.args.parts.now)) c.each.invariant in
    rw (c.in_ok-is_next_first.ensures.opened, c.in_ok-is_next_first.ensures.first) (goes_on _ _ _ _ _ e c.in_ok-is_next_first.ensures.wrote)

pub returns : goal.returns
returns c = all_on (λ (ps : List InitPart). initials.parts (reverse c.each.levels.items) c.each.is_next_first ps) refl c.args.parts.now c.each.part-index c.each-test.false _ _ _ c.each.invariant
