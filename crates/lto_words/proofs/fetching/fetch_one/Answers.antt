use Rattle.std.proofs.Common.{ℕ, List, [], ◌∷◌, Ok, Err, ap, subst}
use Rattle.lto_outside.specs.Calls.{Fetched}
use Rattle.lto_outside.specs.Cause.{Rose}
use Rattle.lto_outside.specs.declared.fault.FetchFault.TheVariants.{Fault, NoMemory, TooLong}
use Rattle.lto_words.proofs.Fetches.{if_fault_map}
use Rattle.lto_words.proofs.fetching.fetch_one.Goals as goal

pub returns-in-Err-Fault-clause-failed : goal.returns-in-Err-Fault-clause-failed
returns-in-Err-Fault-clause-failed g c =
    let did : g.F.Files.did c.args.files.now (Fetched c.args.name.now (Err Fault) ∷ []) c.fetch.new.self =
    subst (λ (n : List ℕ). g.F.Files.did c.args.files.now (Fetched n (Err Fault) ∷ []) c.fetch.new.self) c.as_str.ensures (rw c.in-Err-Fault.field-0-is at c.in-Err-Fault.ensures.call) in
    let rose : Rose (g.F.Files.faults c.args.files.now) (g.F.Files.faults c.fetch.new.self) = c.in-Err-Fault.ensures.cause (ap Err c.in-Err-Fault.field-0-is) in
    if_fault_map c.fault.result _ _ (λ told is. (is, did, rose)) c.fault.ensures

pub returns-in-Ok-clause-tried : goal.returns-in-Ok-clause-tried
returns-in-Ok-clause-tried g c = record {
  answer = Ok c.in-Ok.bytes;
  call = subst (λ (n : List ℕ). g.F.Files.did c.args.files.now (Fetched n (Ok c.in-Ok.bytes) ∷ []) c.fetch.new.self) c.as_str.ensures c.in-Ok.ensures.call;
}

pub returns-in-Err-TooLong-clause-tried : goal.returns-in-Err-TooLong-clause-tried
returns-in-Err-TooLong-clause-tried g c = record {
  answer = Err TooLong;
  call = subst (λ (n : List ℕ). g.F.Files.did c.args.files.now (Fetched n (Err TooLong) ∷ []) c.fetch.new.self) c.as_str.ensures (rw c.in-Err-TooLong.field-0-is at c.in-Err-TooLong.ensures.call);
}

pub returns-in-Err-Fault-clause-tried : goal.returns-in-Err-Fault-clause-tried
returns-in-Err-Fault-clause-tried g c = record {
  answer = Err Fault;
  call = subst (λ (n : List ℕ). g.F.Files.did c.args.files.now (Fetched n (Err Fault) ∷ []) c.fetch.new.self) c.as_str.ensures (rw c.in-Err-Fault.field-0-is at c.in-Err-Fault.ensures.call);
}

pub returns-in-Err-NoMemory-clause-tried : goal.returns-in-Err-NoMemory-clause-tried
returns-in-Err-NoMemory-clause-tried g c = record {
  answer = Err NoMemory;
  call = subst (λ (n : List ℕ). g.F.Files.did c.args.files.now (Fetched n (Err NoMemory) ∷ []) c.fetch.new.self) c.as_str.ensures (rw c.in-Err-NoMemory.field-0-is at c.in-Err-NoMemory.ensures.call);
}

pub returns-in-Ok-clause-fetched : goal.returns-in-Ok-clause-fetched
returns-in-Ok-clause-fetched g c = subst (λ (n : List ℕ). g.F.Files.did c.args.files.now (Fetched n (Ok c.in-Ok.bytes) ∷ []) c.fetch.new.self) c.as_str.ensures c.in-Ok.ensures.call

pub returns-in-Ok-clause-short : goal.returns-in-Ok-clause-short
returns-in-Ok-clause-short g c = c.in-Ok.ensures.short

pub returns-in-Ok-clause-failed : goal.returns-in-Ok-clause-failed
returns-in-Ok-clause-failed g c = tt

pub returns-in-Err-Fault-clause-fetched : goal.returns-in-Err-Fault-clause-fetched
returns-in-Err-Fault-clause-fetched g c = tt

pub returns-in-Err-Fault-clause-short : goal.returns-in-Err-Fault-clause-short
returns-in-Err-Fault-clause-short g c = tt

pub returns-in-Err-NoMemory-clause-fetched : goal.returns-in-Err-NoMemory-clause-fetched
returns-in-Err-NoMemory-clause-fetched g c = tt

pub returns-in-Err-NoMemory-clause-short : goal.returns-in-Err-NoMemory-clause-short
returns-in-Err-NoMemory-clause-short g c = tt

pub returns-in-Err-NoMemory-clause-failed : goal.returns-in-Err-NoMemory-clause-failed
returns-in-Err-NoMemory-clause-failed g c = tt

pub returns-in-Ok-clause-no_put : goal.returns-in-Ok-clause-no_put
returns-in-Ok-clause-no_put g c = record { calls = Fetched c.as_str.result.now c.fetch.result ∷ []; made = c.fetch.ensures.call; no_put = tt }

pub returns-in-Err-TooLong-clause-no_put : goal.returns-in-Err-TooLong-clause-no_put
returns-in-Err-TooLong-clause-no_put g c = record { calls = Fetched c.as_str.result.now c.fetch.result ∷ []; made = c.fetch.ensures.call; no_put = tt }

pub returns-in-Err-Fault-clause-no_put : goal.returns-in-Err-Fault-clause-no_put
returns-in-Err-Fault-clause-no_put g c = record { calls = Fetched c.as_str.result.now c.fetch.result ∷ []; made = c.fetch.ensures.call; no_put = tt }

pub returns-in-Err-NoMemory-clause-no_put : goal.returns-in-Err-NoMemory-clause-no_put
returns-in-Err-NoMemory-clause-no_put g c = record { calls = Fetched c.as_str.result.now c.fetch.result ∷ []; made = c.fetch.ensures.call; no_put = tt }

pub returns-in-Ok-clause-later : goal.returns-in-Ok-clause-later
returns-in-Ok-clause-later g c = c.fetch.ensures.later

pub returns-in-Err-TooLong-clause-later : goal.returns-in-Err-TooLong-clause-later
returns-in-Err-TooLong-clause-later g c = c.fetch.ensures.later

pub returns-in-Err-Fault-clause-later : goal.returns-in-Err-Fault-clause-later
returns-in-Err-Fault-clause-later g c = c.fetch.ensures.later

pub returns-in-Err-NoMemory-clause-later : goal.returns-in-Err-NoMemory-clause-later
returns-in-Err-NoMemory-clause-later g c = c.fetch.ensures.later
