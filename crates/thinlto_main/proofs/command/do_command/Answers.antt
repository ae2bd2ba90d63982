use Rattle.std.proofs.Common.{inl, map, refl}
use Rattle.std.specs.Prelude.{string_bytes}
use Rattle.cache_slot.specs.Decoded.{decoded}
use Rattle.lto_outside.specs.Honest.{IsHonest}
use Rattle.thinlto_main.specs.Seen.{rest_seen, seen}
use Rattle.run_program.specs.Streams.{notes_seen}
use Rattle.thinlto_main.proofs.Asking.{asked_disk, asked_for, said_for}
use Rattle.run_program.proofs.Causes.{comes_map}
use Rattle.thinlto_main.proofs.command.do_command.Goals as goal

pub returns-in-Ok-clause-answer : goal.returns-in-Ok-clause-answer
returns-in-Ok-clause-answer g c = comes_map (asked_for c.one_command.ensures (map string_bytes c.args.words.now) c.in-Ok.command (seen g.F.Files.did g.F.Files.held g.F.Files.faults g.O.ByteOut.sent g.O.ByteOut.faults c.args.files.now c.obey.new.files c.args.out.now c.obey.new.out) (rest_seen g.I.ByteIn.left g.I.ByteIn.faults (IsHonest decoded g.D.CacheDisk.fits (g.D.CacheDisk.held c.args.disk)) c.args.input.now c.obey.new.input) c.in-Ok.ensures) c.obey.result.status c.obey.ensures.answer

pub returns-in-Ok-clause-says : goal.returns-in-Ok-clause-says
returns-in-Ok-clause-says g c = said_for (map string_bytes c.args.words.now) c.in-Ok.command (seen g.F.Files.did g.F.Files.held g.F.Files.faults g.O.ByteOut.sent g.O.ByteOut.faults c.args.files.now c.obey.new.files c.args.out.now c.obey.new.out) (rest_seen g.I.ByteIn.left g.I.ByteIn.faults (IsHonest decoded g.D.CacheDisk.fits (g.D.CacheDisk.held c.args.disk)) c.args.input.now c.obey.new.input) (notes_seen g.N.ByteOut.sent g.N.ByteOut.faults c.args.notes.now c.obey.new.notes) c.in-Ok.ensures c.obey.result.status c.obey.ensures.answer c.obey.ensures.says

pub returns-in-Err-Usage-clause-answer : goal.returns-in-Err-Usage-clause-answer
returns-in-Err-Usage-clause-answer g c =
    let none = rw c.in-Err-Usage.field-0-is at c.in-Err-Usage.ensures in
    (λ d asked offered. none d asked, (g.met.F.Files.did_none _, refl), refl)

pub returns-in-Err-NoMemory-clause-answer : goal.returns-in-Err-NoMemory-clause-answer
returns-in-Err-NoMemory-clause-answer g c = inl ((g.met.F.Files.did_none _, refl), refl)

pub returns-in-Ok-clause-disk : goal.returns-in-Ok-clause-disk
returns-in-Ok-clause-disk g c = asked_disk (map string_bytes c.args.words.now) c.in-Ok.command c.in-Ok.ensures _ _ _ _ c.obey.ensures.disk

pub returns-in-Err-Usage-clause-disk : goal.returns-in-Err-Usage-clause-disk
returns-in-Err-Usage-clause-disk g c = inl refl

pub returns-in-Err-NoMemory-clause-disk : goal.returns-in-Err-NoMemory-clause-disk
returns-in-Err-NoMemory-clause-disk g c = inl refl

pub returns-in-Ok-clause-later : goal.returns-in-Ok-clause-later
returns-in-Ok-clause-later g c = c.obey.ensures.later

pub returns-in-Ok-clause-silent : goal.returns-in-Ok-clause-silent
returns-in-Ok-clause-silent g c = c.obey.ensures.silent

pub returns-in-Err-Usage-clause-silent : goal.returns-in-Err-Usage-clause-silent
returns-in-Err-Usage-clause-silent g c = refl

pub returns-in-Err-NoMemory-clause-silent : goal.returns-in-Err-NoMemory-clause-silent
returns-in-Err-NoMemory-clause-silent g c = refl

pub returns-in-Err-Usage-clause-says : goal.returns-in-Err-Usage-clause-says
returns-in-Err-Usage-clause-says g c = tt

pub returns-in-Err-NoMemory-clause-says : goal.returns-in-Err-NoMemory-clause-says
returns-in-Err-NoMemory-clause-says g c = tt
