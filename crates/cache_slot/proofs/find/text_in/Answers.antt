use Rattle.std.proofs.Common.{sym, length, ◌<◌, ◌^◌, arith}
use Rattle.cache_slot.specs.Files.{bytes_of}
use Rattle.cache_slot.proofs.Loading.{entry_read, small_read, other_key_read}
use Rattle.cache_slot.proofs.find.text_in.Goals.{in_default-via-in-Some+else-eq, in_default-via-in_default}
use Rattle.cache_slot.proofs.find.text_in.Goals as goal

pub returns-in_ok-copied-in-Some : goal.returns-in_ok-copied-in-Some
returns-in_ok-copied-in-Some c =
    let small : length c.args.bytes.now < 2 ^ 64 = omega arith in (
      entry_read c.args.bytes.now c.in-Some.own.now c.args.key.now c.in-Some.text.now c.in_ok-copied-in-Some.field-0 c.in-Some.ensures (sym c.if-eq.ensures) c.in_ok-copied-in-Some.ensures,
      small_read c.args.bytes.now c.in-Some.own.now c.in-Some.text.now c.in_ok-copied-in-Some.field-0 c.in-Some.ensures small c.in_ok-copied-in-Some.ensures,
    )

pub returns-in_default : goal.returns-in_default
unfolding bytes_of
returns-in_default c = elim c.in_default.branch [
  | in_default-via-in-Some+else-eq w ↦ other_key_read c.args.bytes.now w.in-Some.own.now c.args.key.now w.in-Some.text.now w.in-Some.ensures (sym w.if-eq.ensures)
  | in_default-via-in_default w ↦ w.in_default.ensures c.args.key.now
]
