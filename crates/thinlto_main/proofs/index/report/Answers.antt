use Rattle.std.proofs.Common.{◌≢◌, ◌∙◌, ℕ, List, subst}
use Rattle.std.specs.Prelude.{IfErr, IfOk}
use Rattle.lto_fault.specs.declared.refusal.Refusal.TheVariants.{NoMemory}
use Rattle.thin_link.specs.Linking.{IsIndexReport}
use Rattle.thin_link.specs.Refusing.{IsRefused}
use Rattle.run_program.specs.Causes.{never}
use Rattle.thinlto_main.proofs.Unlinked.{by_refusal, if_unlinked_because}
use Rattle.thinlto_main.proofs.index.report.Goals as goal

pub returns-clause-done : goal.returns-clause-done
returns-clause-done c =
    subst (λ (fs : List (List ℕ)). IfOk c.index.result (λ text. IsIndexReport fs c.args.modules.now c.args.exports.now c.args.import_limit text)) (c.as_slice.ensures ∙ c.in-Ok.ensures) c.index.ensures.done

pub returns-clause-because : goal.returns-clause-because
returns-clause-because c =
    if_unlinked_because (record never { unlinked = IsRefused c.args.names.now c.args.modules.now c.args.exports.now; memory = Unit {0} }) (IsRefused c.args.names.now c.args.modules.now c.args.exports.now)
    (by_refusal c.args.names.now c.args.exports.now c.args.modules.now (record never { unlinked = IsRefused c.args.names.now c.args.modules.now c.args.exports.now; memory = Unit {0} }) (λ why x. x)) c.index.result
    (subst (λ (fs : List (List ℕ)). IfErr c.index.result (λ why. why ≢ NoMemory → IsRefused fs c.args.modules.now c.args.exports.now why)) (c.as_slice.ensures ∙ c.in-Ok.ensures) c.index.ensures.refused) tt
