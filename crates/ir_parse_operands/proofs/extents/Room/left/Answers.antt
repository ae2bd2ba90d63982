use Rattle.std.proofs.Common.{subst, sym}
use Rattle.ir_parse_operands.specs.Extents.{IsRoom}
use Rattle.ir_parse_operands.proofs.ExtentLaws.{left_room, same_room}
use Rattle.ir_parse_operands.proofs.extents.Room.left.Goals as goal

pub returns-clause-exact : goal.returns-clause-exact
returns-clause-exact c = same_room _ _ _ _ _ _ _ _ c.left_for.ensures c.left_for-2.ensures c.left_for-3.ensures c.left_for-4.ensures

pub returns-clause-room : goal.returns-clause-room
returns-clause-room c =
    subst IsRoom (sym (same_room _ _ _ _ _ _ _ _ c.left_for.ensures c.left_for-2.ensures c.left_for-3.ensures c.left_for-4.ensures))
    (left_room c.args.packed c.args.self c.args.members c.requires.room c.requires.fits)
