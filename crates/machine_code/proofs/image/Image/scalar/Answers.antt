use Rattle.std.proofs.Common.{[], ap, ◌∙◌, arith}
use Rattle.ir_tree.specs.Views.{form_of}
use Rattle.ir_machine.specs.Meant.{meant}
use Rattle.ir_machine.specs.Bytes.{bytes_len}
use Rattle.machine_code.proofs.Writing.{int_room}
use Rattle.machine_code.proofs.image.Image.scalar.Goals as goal

pub put-requires-clause-room : goal.put-requires-clause-room
put-requires-clause-room c =
    let room = int_room c.args.shape.now c.in-Int.width (meant [] c.args.value) c.args.self.now.place (bytes_len c.args.self.now.bytes) (c.node.ensures ∙ ap form_of c.in-Int.is) c.requires.room in
    omega (arith, room, c.from.ensures)
