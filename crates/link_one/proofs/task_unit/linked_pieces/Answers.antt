use Rattle.std.proofs.Common.{Bor, arith, sym}
use Rattle.ir_tree.specs.Wholes.{GlobalSound}
use Rattle.ir_tree.specs.declared.module.GlobalValue.{GlobalValue}
use Rattle.back_end.specs.Walking.{bodies_in}
use Rattle.importer.specs.Tables.{values}
use Rattle.importer.proofs.Members.{image_stands, of_each, standing}
use Rattle.link_one.specs.Units.{IsLinkedPiece}
use Rattle.link_one.proofs.Zipping.{zip_next_mapped}
use Rattle.link_one.proofs.task_unit.linked_pieces.Goals as goal

pub linked_piece-requires-clause-sound : goal.linked_piece-requires-clause-sound
linked_piece-requires-clause-sound c =
    of_each GlobalSound (values c.args.globals.now) c.global-item.result.now c.requires.sound
    (image_stands (λ (g : Bor GlobalValue). g.now) c.args.globals.now c.global-item.result (standing c.args.globals.now c.global-item.result (c.each.global-index, omega arith, sym c.global-item.is)))

pub each-preserved : goal.each-preserved
each-preserved c =
    zip_next_mapped (IsLinkedPiece (bodies_in c.args.bodies.now) c.args.exported.now.exports.now) (λ (g : Bor GlobalValue). g.now) c.args.globals.now c.each.global-index c.global-item.result (omega arith) c.global-item.is
    c.each.rows c.push.new.self c.in_ok-linked_piece.field-0 c.each.invariant c.in_ok-linked_piece.ensures c.in_ok-push.ensures.ok
