-- Calls of files in a row.
use Rattle.std.proofs.Common.{[], ◌∷◌, Ok, Err}
use Rattle.lto_outside.specs.Calls.{Fetched, Put}
use Rattle.lto_outside.specs.declared.fault.FetchFault.TheVariants.{Fault, TooLong, NoMemory}
use Rattle.lto_outside.specs.Laws.{NoPutChangesNothing}

pub no_put : NoPutChangesNothing
no_put [] old new none same = same
no_put (Fetched name (Ok bytes) ∷ calls) old new none made = no_put calls old new none made.1
no_put (Fetched name (Err TooLong) ∷ calls) old new none made = no_put calls old new none made.1
no_put (Fetched name (Err Fault) ∷ calls) old new none made = no_put calls old new none made
no_put (Fetched name (Err NoMemory) ∷ calls) old new none made = no_put calls old new none made
no_put (Put name bytes done ∷ calls) old new none made = absurd none
