-- Causes that imply others.
use Rattle.std.proofs.Common.{ℕ, List, OnOk, Result, Ok, Err}
use Rattle.lto_fault.specs.declared.kind.RefusalKind.{RefusalKind}
use Rattle.lto_fault.specs.declared.refusal.Refusal.{Refusal}
use Rattle.lto_fault.specs.declared.refusal.Refusal.TheVariants.{Usage, ReadFault, Refused, TargetClash, DuplicateSymbol, KindClash, UndefinedSymbol, NoExport, NameTaken, BadArguments, WriteFault, NoMemory, Undefined, Uninit, OutOfSteps}
use Rattle.run_program.specs.Causes.{Because, Causes, Comes, OnNoMemory, OnReadFault, OnRefused, OnUnfit, OnUnlinked, OnUnreturned, OnUnused, OnUnwritten, OnUsage, OnWriteFault, always, free}

-- each fact of the first implies that of the second
pub record Implies (k l : Causes) : Type 0 where
  pub done : k.done → l.done
  pub usage : k.usage → l.usage
  pub unread : (name : List ℕ) → k.unread name → l.unread name
  pub refused : (file : List ℕ) (line : ℕ) (kind : RefusalKind) → k.refused file line kind → l.refused file line kind
  pub unlinked : (why : Refusal) → k.unlinked why → l.unlinked why
  pub unfit : (name : List ℕ) → k.unfit name → l.unfit name
  pub unwritten : (name : List ℕ) → k.unwritten name → l.unwritten name
  pub unreturned : (why : Refusal) → k.unreturned why → l.unreturned why
  pub memory : k.memory → l.memory

pub because_map : {k l : Causes} → Implies k l → (why : Refusal) → Because k why → Because l why
because_map i Usage h = i.usage h
because_map i (ReadFault name) h = i.unread name h
because_map i (Refused file line kind) h = i.refused file line kind h
because_map i (TargetClash target first second) h = i.unlinked (TargetClash target first second) h
because_map i (DuplicateSymbol name first second) h = i.unlinked (DuplicateSymbol name first second) h
because_map i (KindClash name function variable) h = i.unlinked (KindClash name function variable) h
because_map i (UndefinedSymbol name file) h = i.unlinked (UndefinedSymbol name file) h
because_map i (NoExport name) h = i.unlinked (NoExport name) h
because_map i (NameTaken name) h = i.unlinked (NameTaken name) h
because_map i (BadArguments name) h = i.unfit name h
because_map i (WriteFault name) h = i.unwritten name h
because_map i NoMemory h = i.memory h
because_map i (Undefined function file instruction cause) h = i.unreturned (Undefined function file instruction cause) h
because_map i (Uninit function file instruction) h = i.unreturned (Uninit function file instruction) h
because_map i (OutOfSteps steps) h = i.unreturned (OutOfSteps steps) h

pub comes_map : {A : Type 0} {k l : Causes} → Implies k l → (r : Result A Refusal) → Comes k r → Comes l r
comes_map i (Ok x) h = i.done h
comes_map i (Err why) h = because_map i why h

pub both_imply : {k l m : Causes} → Implies k l → Implies l m → Implies k m
both_imply i j = record {
  done = λ x. j.done (i.done x);
  usage = λ x. j.usage (i.usage x);
  unread = λ name x. j.unread name (i.unread name x);
  refused = λ file line kind x. j.refused file line kind (i.refused file line kind x);
  unlinked = λ why x. j.unlinked why (i.unlinked why x);
  unfit = λ name x. j.unfit name (i.unfit name x);
  unwritten = λ name x. j.unwritten name (i.unwritten name x);
  unreturned = λ why x. j.unreturned why (i.unreturned why x);
  memory = λ x. j.memory (i.memory x);
}

-- ---- the fact of one answer

module _ {A : Type 0} (k : Causes) (r : Result A Refusal) (h : Comes k r) where
  pub on_usage : OnUsage r k.usage
  on_usage = comes_map {k = k} {l = record free { usage = k.usage }} (record { done = λ x. tt; usage = λ x. x; unread = λ n x. tt; refused = λ f l w x. tt; unlinked = λ w x. tt; unfit = λ n x. tt; unwritten = λ n x. tt; unreturned = λ w x. tt; memory = λ x. tt }) r h

  pub on_read_fault : OnReadFault r k.unread
  on_read_fault = comes_map {k = k} {l = record free { unread = k.unread }} (record { done = λ x. tt; usage = λ x. tt; unread = λ n x. x; refused = λ f l w x. tt; unlinked = λ w x. tt; unfit = λ n x. tt; unwritten = λ n x. tt; unreturned = λ w x. tt; memory = λ x. tt }) r h

  pub on_refused : OnRefused r k.refused
  on_refused = comes_map {k = k} {l = record free { refused = k.refused }} (record { done = λ x. tt; usage = λ x. tt; unread = λ n x. tt; refused = λ f l w x. x; unlinked = λ w x. tt; unfit = λ n x. tt; unwritten = λ n x. tt; unreturned = λ w x. tt; memory = λ x. tt }) r h

  pub on_unlinked : OnUnlinked r k.unlinked
  on_unlinked = comes_map {k = k} {l = record free { unlinked = k.unlinked }} (record { done = λ x. tt; usage = λ x. tt; unread = λ n x. tt; refused = λ f l w x. tt; unlinked = λ w x. x; unfit = λ n x. tt; unwritten = λ n x. tt; unreturned = λ w x. tt; memory = λ x. tt }) r h

  pub on_unfit : OnUnfit r k.unfit
  on_unfit = comes_map {k = k} {l = record free { unfit = k.unfit }} (record { done = λ x. tt; usage = λ x. tt; unread = λ n x. tt; refused = λ f l w x. tt; unlinked = λ w x. tt; unfit = λ n x. x; unwritten = λ n x. tt; unreturned = λ w x. tt; memory = λ x. tt }) r h

  pub on_write_fault : OnWriteFault r k.unwritten
  on_write_fault = comes_map {k = k} {l = record free { unwritten = k.unwritten }} (record { done = λ x. tt; usage = λ x. tt; unread = λ n x. tt; refused = λ f l w x. tt; unlinked = λ w x. tt; unfit = λ n x. tt; unwritten = λ n x. x; unreturned = λ w x. tt; memory = λ x. tt }) r h

  pub on_unreturned : OnUnreturned r k.unreturned
  on_unreturned = comes_map {k = k} {l = record free { unreturned = k.unreturned }} (record { done = λ x. tt; usage = λ x. tt; unread = λ n x. tt; refused = λ f l w x. tt; unlinked = λ w x. tt; unfit = λ n x. tt; unwritten = λ n x. tt; unreturned = λ w x. x; memory = λ x. tt }) r h

  pub on_no_memory : OnNoMemory r k.memory
  on_no_memory = comes_map {k = k} {l = record free { memory = k.memory }} (record { done = λ x. tt; usage = λ x. tt; unread = λ n x. tt; refused = λ f l w x. tt; unlinked = λ w x. tt; unfit = λ n x. tt; unwritten = λ n x. tt; unreturned = λ w x. tt; memory = λ x. x }) r h

  pub on_done : OnOk r k.done
  on_done = on_ok r h
    where
      on_ok : (q : Result A Refusal) → Comes k q → OnOk q k.done
      on_ok (Ok x) d = d
      on_ok (Err e) d = tt

  -- nothing was taken from the input or printed before each answer that says so
  pub on_unused : (P : Type 0) → (k.usage → P) → ((file : List ℕ) (line : ℕ) (kind : RefusalKind) → k.refused file line kind → P) → ((why : Refusal) → k.unlinked why → P) → ((name : List ℕ) → k.unfit name → P) → OnUnused r P
  on_unused P usage refused unlinked unfit =
      comes_map {k = k} {l = record free { usage = P; refused = λ file line kind. P; unlinked = λ why. P; unfit = λ name. P }}
      (record { done = λ x. tt; usage = usage; unread = λ n x. tt; refused = refused; unlinked = unlinked; unfit = unfit; unwritten = λ n x. tt; unreturned = λ w x. tt; memory = λ x. tt }) r h

pub on_unwritten_map : {A : Type 0} (P Q : Type 0) → (P → Q) → (r : Result A Refusal) → OnUnwritten r P → OnUnwritten r Q
on_unwritten_map P Q f r h =
    comes_map {k = record (always P) { done = Unit {0}; unwritten = λ name. Unit {0} }} {l = record (always Q) { done = Unit {0}; unwritten = λ name. Unit {0} }}
    (record { done = λ x. tt; usage = f; unread = λ n x. f x; refused = λ file l w x. f x; unlinked = λ w x. f x; unfit = λ n x. f x; unwritten = λ n x. tt; unreturned = λ w x. f x; memory = f }) r h
