use Rattle.std.proofs.Common.{◌+◌, ℕ, List, [], drop, refl, ap, subst, ◌∙◌, arith}
use Rattle.std.proofs.lemmas.List.{drop_all}
use Rattle.ir_tree.specs.declared.init_node.InitPart.{InitPart}
use Rattle.ir_meaning.specs.Constants.{zero_bytes}
use Rattle.machine_code.specs.MemoryAddresses.{value_in}
use Rattle.machine_code.proofs.Writing.{IsUnder, all_under, begun_under, head_room, part_room, part_under, under_next}
use Rattle.machine_code.proofs.image.bytes_of.Goals as goal

pub begin-requires-clause-room : goal.begin-requires-clause-room
begin-requires-clause-room c =
    let room = head_room (value_in c.args.bases.now []) c.args.shape.now c.args.init.now c.flat.result.0.now c.flat.result.1.now c.requires.fits c.requires.laid c.flat.ensures in
    omega (arith, room, c.in_ok-bytes.ensures.length, c.size_of.ensures)

pub each-init : goal.each-init
each-init c =
    begun_under c.args.bases.now c.args.shape.now c.args.init.now c.flat.result.0.now c.flat.result.1.now (record { bytes = c.in_ok-bytes.bytes; place = 0; opens = c.new.result }) c.begin.new.self c.requires.fits c.requires.laid c.flat.ensures refl c.new.ensures.items
    (omega (arith, c.in_ok-bytes.ensures.length, c.size_of.ensures)) (λ names. c.in_ok-bytes.ensures.bytes names ∙ ap (λ (n : ℕ). zero_bytes n) c.size_of.ensures) c.in_ok-bytes.ensures.empty
    c.in_ok-begin.ensures.wrote c.in_ok-begin.ensures.holds c.in_ok-begin.ensures.opened

pub part-requires-clause-takes : goal.part-requires-clause-takes
part-requires-clause-takes c =
    (under_next c.args.bases.now c.args.shape.now c.args.init.now c.requires.fits c.requires.laid c.each.image c.flat.result.1.now c.each.part-index c.part-item.result c.each-test.true c.part-item.is c.each.invariant).takes.0

pub part-requires-clause-room : goal.part-requires-clause-room
part-requires-clause-room c =
    part_room c.args.bases.now c.args.shape.now c.args.init.now c.requires.fits c.requires.laid c.each.image c.part-item.result (drop (c.each.part-index + 1) c.flat.result.1.now)
    (under_next c.args.bases.now c.args.shape.now c.args.init.now c.requires.fits c.requires.laid c.each.image c.flat.result.1.now c.each.part-index c.part-item.result c.each-test.true c.part-item.is c.each.invariant)

pub each-preserved : goal.each-preserved
each-preserved c =
    part_under c.args.bases.now c.args.shape.now c.args.init.now c.requires.fits c.requires.laid c.each.image c.part.new.self c.part-item.result (drop (c.each.part-index + 1) c.flat.result.1.now)
    (under_next c.args.bases.now c.args.shape.now c.args.init.now c.requires.fits c.requires.laid c.each.image c.flat.result.1.now c.each.part-index c.part-item.result c.each-test.true c.part-item.is c.each.invariant)
    c.in_ok-part.ensures.wrote c.in_ok-part.ensures.holds c.in_ok-part.ensures.opened

pub returns-clause-bytes : goal.returns-clause-bytes
returns-clause-bytes c =
    all_under c.args.bases.now c.args.shape.now c.args.init.now c.requires.fits c.requires.laid c.each.image
    (subst (λ (ps : List InitPart). IsUnder c.args.bases.now c.args.shape.now c.args.init.now c.each.image ps) (drop_all c.each.part-index c.flat.result.1.now (omega (arith, c.each-test.false))) c.each.invariant)

pub returns-clause-length : goal.returns-clause-length
returns-clause-length c = c.each.invariant.long

pub returns-clause-holds : goal.returns-clause-holds
returns-clause-holds c = c.each.invariant.holds
