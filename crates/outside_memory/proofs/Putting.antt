-- What a put that failed left.
use Rattle.std.proofs.Common.{false, ℕ, List, [], ◌∷◌, refl, inl, inr}
use Rattle.lto_outside.specs.Calls.{Put}
use Rattle.lto_outside.specs.Replay.{Replays}
use Rattle.lto_outside.specs.Store.{Store, SameFiles, HasPart}
use Rattle.outside_memory.specs.Files.{PutLeaves}
use Rattle.outside_memory.specs.declared.failure.Leaves.{Leaves}
use Rattle.outside_memory.specs.declared.failure.Leaves.TheVariants.{Before, Absent, Front}

pub same_part : (old new : Store) (name bytes : List ℕ) → SameFiles old new → HasPart old new name bytes
same_part old new name bytes same = record { part = inl (same name); others = λ other differs. same other }

pub part_of : (leaves : Leaves) (old new : Store) (name bytes : List ℕ) → PutLeaves leaves old new name bytes → HasPart old new name bytes
part_of Before old new name bytes same = same_part old new name bytes same
part_of Absent old new name bytes same = same_part old new name bytes same
part_of (Front count) old new name bytes (inl put) = record { part = inr (count, put.written); others = put.others }
part_of (Front count) old new name bytes (inr same) = same_part old new name bytes same

pub replayed_part : (old new : Store) (name bytes : List ℕ) → HasPart old new name bytes → Replays old (Put name bytes false ∷ []) new
replayed_part old new name bytes part = (new, part, λ n. refl)
