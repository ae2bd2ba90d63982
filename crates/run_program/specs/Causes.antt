-- What has to hold for each answer of a command.
use Rattle.std.specs.Prelude.{ℕ, List, Result, Ok, Err, ⊤}
use Rattle.lto_fault.specs.declared.kind.RefusalKind.{RefusalKind}
use Rattle.lto_fault.specs.declared.refusal.Refusal.{Refusal}
use Rattle.lto_fault.specs.declared.refusal.Refusal.TheVariants.{Usage, ReadFault, Refused, TargetClash, DuplicateSymbol, KindClash, UndefinedSymbol, NoExport, NameTaken, BadArguments, WriteFault, NoMemory, Undefined, Uninit, OutOfSteps}

-- a fact for each answer
pub record Causes : Type 1 where
  pub done : Type 0
  pub usage : Type 0
  pub unread : List ℕ → Type 0
  pub refused : List ℕ → ℕ → RefusalKind → Type 0
  pub unlinked : Refusal → Type 0
  -- the root of a run isn't a function that takes the arguments
  pub unfit : List ℕ → Type 0
  pub unwritten : List ℕ → Type 0
  -- a run ended otherwise than by returning
  pub unreturned : Refusal → Type 0
  pub memory : Type 0

abbrev pub Because : Causes → Refusal → Type 0
Because k Usage = k.usage
Because k (ReadFault name) = k.unread name
Because k (Refused file line kind) = k.refused file line kind
Because k (TargetClash target first second) = k.unlinked (TargetClash target first second)
Because k (DuplicateSymbol name first second) = k.unlinked (DuplicateSymbol name first second)
Because k (KindClash name function variable) = k.unlinked (KindClash name function variable)
Because k (UndefinedSymbol name file) = k.unlinked (UndefinedSymbol name file)
Because k (NoExport name) = k.unlinked (NoExport name)
Because k (NameTaken name) = k.unlinked (NameTaken name)
Because k (BadArguments name) = k.unfit name
Because k (WriteFault name) = k.unwritten name
Because k NoMemory = k.memory
Because k (Undefined function file instruction cause) = k.unreturned (Undefined function file instruction cause)
Because k (Uninit function file instruction) = k.unreturned (Uninit function file instruction)
Because k (OutOfSteps steps) = k.unreturned (OutOfSteps steps)

-- the fact of the answer that came
abbrev pub Comes : {A : Type 0} → Causes → Result A Refusal → Type 0
Comes k (Ok _) = k.done
Comes k (Err why) = Because k why

-- this for every answer
abbrev pub always : Type 0 → Causes
always P = record {
  done = P;
  usage = P;
  unread = λ name. P;
  refused = λ file line kind. P;
  unlinked = λ why. P;
  unfit = λ name. P;
  unwritten = λ name. P;
  unreturned = λ why. P;
  memory = P;
}

abbrev pub free : Causes
free = always ⊤

abbrev pub never : Causes
never = always ⊥

-- ---- a fact for one answer

abbrev pub OnUsage : {A : Type 0} → Result A Refusal → Type 0 → Type 0
OnUsage r P = Comes (record free { usage = P }) r

abbrev pub OnReadFault : {A : Type 0} → Result A Refusal → (List ℕ → Type 0) → Type 0
OnReadFault r P = Comes (record free { unread = P }) r

abbrev pub OnRefused : {A : Type 0} → Result A Refusal → (List ℕ → ℕ → RefusalKind → Type 0) → Type 0
OnRefused r P = Comes (record free { refused = P }) r

abbrev pub OnUnlinked : {A : Type 0} → Result A Refusal → (Refusal → Type 0) → Type 0
OnUnlinked r P = Comes (record free { unlinked = P }) r

abbrev pub OnWriteFault : {A : Type 0} → Result A Refusal → (List ℕ → Type 0) → Type 0
OnWriteFault r P = Comes (record free { unwritten = P }) r

abbrev pub OnUnfit : {A : Type 0} → Result A Refusal → (List ℕ → Type 0) → Type 0
OnUnfit r P = Comes (record free { unfit = P }) r

abbrev pub OnUnreturned : {A : Type 0} → Result A Refusal → (Refusal → Type 0) → Type 0
OnUnreturned r P = Comes (record free { unreturned = P }) r

abbrev pub OnNoMemory : {A : Type 0} → Result A Refusal → Type 0 → Type 0
OnNoMemory r P = Comes (record free { memory = P }) r

-- for each answer that comes before anything was put, pushed or taken from the input
abbrev pub OnUnused : {A : Type 0} → Result A Refusal → Type 0 → Type 0
OnUnused r P = Comes (record free { usage = P; refused = λ file line kind. P; unlinked = λ why. P; unfit = λ name. P }) r

-- for each answer with which nothing was put
abbrev pub OnUnwritten : {A : Type 0} → Result A Refusal → Type 0 → Type 0
OnUnwritten r P = Comes (record (always P) { done = ⊤; unwritten = λ name. ⊤ }) r
