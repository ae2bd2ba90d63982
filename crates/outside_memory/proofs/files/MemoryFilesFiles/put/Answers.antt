use Rattle.std.proofs.Common.{ap}
use Rattle.outside_memory.proofs.Putting.{same_part, part_of, replayed_part}
use Rattle.outside_memory.specs.Files.{files_held}
use Rattle.outside_memory.specs.Found.{found}
use Rattle.outside_memory.proofs.files.MemoryFilesFiles.put.Goals as goal

-- memory ran out: nothing was written
pub returns-in-Err-clause-call : goal.returns-in-Err-clause-call
returns-in-Err-clause-call c =
    replayed_part (files_held c.args.self.now) (found c.added.new.entries.items) c.args.name.now c.args.bytes.now
    (same_part (files_held c.args.self.now) (found c.added.new.entries.items) c.args.name.now c.args.bytes.now (λ name. ap (λ entries. found entries name) c.in-Err.ensures.err))

-- it was to fail
pub returns-in-Some-clause-call : goal.returns-in-Some-clause-call
returns-in-Some-clause-call c =
    replayed_part (files_held c.args.self.now) (files_held c.leave.new.self) c.args.name.now c.args.bytes.now
    (part_of c.in-Some.leaves (files_held c.args.self.now) (files_held c.leave.new.self) c.args.name.now c.args.bytes.now c.leave.ensures.left)
