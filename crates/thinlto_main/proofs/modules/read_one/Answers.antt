use Rattle.std.proofs.Common.{ℕ, List, Option, Some, refl, sym, subst}
use Rattle.link_one.specs.Accepted.{Refuses}
use Rattle.ir_tree.specs.declared.fault_kind.FaultKind.TheVariants.{Limit}
use Rattle.lto_fault.specs.declared.kind.RefusalKind.TheVariants.{Unread}
use Rattle.lto_words.specs.Fetching.{IsShort}
use Rattle.thinlto_main.specs.Modules.{IsBad}
use Rattle.thinlto_main.proofs.Reading.{bad_because}
use Rattle.thinlto_main.proofs.modules.read_one.Goals as goal

pub returns-in-None-clause-because : goal.returns-in-None-clause-because
returns-in-None-clause-because c =
    bad_because c.args.name.now c.args.bytes.now 0 (Unread Limit) (subst (λ (o : Option (List ℕ)). IsBad o 0 (Unread Limit)) (sym c.in-None.is) (refl, refl)) c.refused.result c.refused.ensures

pub returns-in-Err-Fault-clause-because : goal.returns-in-Err-Fault-clause-because
returns-in-Err-Fault-clause-because c =
    let short : IsShort (Some c.in-Some.bytes) = subst IsShort c.in-Some.is c.requires.short in
    let refuses : Refuses c.in-Some.bytes c.from.result c.in-Err-Fault.why.kind =
    subst (λ (n : ℕ). Refuses c.in-Some.bytes n c.in-Err-Fault.why.kind) (sym c.from.ensures)
    (subst (λ (l : List ℕ). Refuses l c.in-Err-Fault.why.line c.in-Err-Fault.why.kind) c.as_slice.ensures (rw c.in-Err-Fault.field-0-is at c.in-Err-Fault.ensures.refused)) in
    bad_because c.args.name.now c.args.bytes.now c.from.result c.in-Err-Fault.why.kind
    (subst (λ (o : Option (List ℕ)). IsBad o c.from.result c.in-Err-Fault.why.kind) (sym c.in-Some.is) (short, refuses))
    c.refused-in-Err-Fault.result c.refused-in-Err-Fault.ensures
