-- The calls of `Files`, with their answers.
use Rattle.std.specs.Prelude.{ℕ, Bool, List, [], ◌∷◌, Result, ⊤}
use Rattle.lto_outside.specs.declared.fault.FetchFault.{FetchFault}

pub data Call : Type 0 where
  Fetched : (name : List ℕ) (answer : Result (List ℕ) FetchFault) → Call
  Put : (name bytes : List ℕ) (done : Bool) → Call

-- none of the calls is a put
abbrev pub NoPut : List Call → Type 0
NoPut [] = ⊤
NoPut (Fetched name answer ∷ calls) = NoPut calls
NoPut (Put name bytes done ∷ calls) = ⊥

-- of the calls that were made none is a put
pub record DidNoPut (did : List Call → Type 0) : Type 0 where
  pub calls : List Call
  pub made : did calls
  pub no_put : NoPut calls
