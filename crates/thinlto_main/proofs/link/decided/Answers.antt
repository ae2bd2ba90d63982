use Rattle.std.proofs.Common.{◌≢◌, ◌∙◌, ℕ, List, subst}
use Rattle.std.specs.Prelude.{IfErr}
use Rattle.lto_fault.specs.declared.refusal.Refusal.TheVariants.{NoMemory}
use Rattle.thin_link.specs.Refusing.{IsRefused}
use Rattle.run_program.specs.Causes.{never}
use Rattle.thinlto_main.proofs.Unlinked.{by_refusal, if_unlinked_because}
use Rattle.thinlto_main.proofs.link.decided.Goals as goal

pub returns-clause-done : goal.returns-clause-done
returns-clause-done c = c.thinly_linked.ensures.done

pub returns-clause-because : goal.returns-clause-because
returns-clause-because c =
    if_unlinked_because (record never { unlinked = IsRefused c.args.names.now c.args.modules.now c.args.exports.now; memory = Unit {0} }) (IsRefused c.args.names.now c.args.modules.now c.args.exports.now)
    (by_refusal c.args.names.now c.args.exports.now c.args.modules.now (record never { unlinked = IsRefused c.args.names.now c.args.modules.now c.args.exports.now; memory = Unit {0} }) (λ why x. x)) c.thinly_linked.result
    (subst (λ (fs : List (List ℕ)). IfErr c.thinly_linked.result (λ why. why ≢ NoMemory → IsRefused fs c.args.modules.now c.args.exports.now why)) (c.as_slice.ensures ∙ c.in-Ok.ensures) c.thinly_linked.ensures.refused) tt
