use Rattle.std.proofs.Common.{◌≡◌, ◌∙◌, ℕ, List, length, ap, subst}
use Rattle.std.proofs.lemmas.Result.{IfOk-weaker}
use Rattle.ir_tree.specs.declared.module.GlobalValue.{GlobalValue}
use Rattle.ir_tree.specs.declared.module.Module.{Module}
use Rattle.ir_verify.specs.Modules.{IsFirst}
use Rattle.ir_verify.proofs.Modules.{least_of}
use Rattle.ir_verify.proofs.globals.module_fault_and_flow.Goals as goal

pub returns-clause-fault : goal.returns-clause-fault
returns-clause-fault c =
    let globals : c.as_slice.result.now ≡ c.args.parsed.now.0.globals = c.as_slice.ensures ∙ ap (λ (m : Module). m.globals) c.module.ensures.module in
    IfOk-weaker c.globals_fault.result (λ r. IsFirst c.as_slice.result.now c.lines.result.now (length c.as_slice.result.now) r.0) _
    (λ r first.
    least_of c.args.parsed.now.0.globals c.args.parsed.now.1 r.0
    (subst (λ (ls : List (List ℕ)). IsFirst c.args.parsed.now.0.globals ls (length c.args.parsed.now.0.globals) r.0) c.lines.ensures
    (subst (λ (gs : List GlobalValue). IsFirst gs c.lines.result.now (length gs) r.0) globals first)))
    c.globals_fault.ensures.fault
