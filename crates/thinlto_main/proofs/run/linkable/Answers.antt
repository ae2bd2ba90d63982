use Rattle.std.proofs.Common.{◌≡◌, ℕ, List, [], ◌∷◌, IfErr, OnOk, subst}
use Rattle.lto_fault.specs.declared.refusal.Refusal.{Refusal}
use Rattle.thin_link.specs.Refusing.{IsRefused}
use Rattle.run_program.specs.Causes.{Because, never}
use Rattle.thinlto_main.proofs.Merging.{thin_links}
use Rattle.thinlto_main.proofs.run.linkable.Goals as goal

pub returns-clause-linked : goal.returns-clause-linked
returns-clause-linked c =
    let alone : c.from_ref.result.now ≡ c.args.root.now ∷ [] = c.from_ref.ensures.value in
    subst (λ (es : List (List ℕ)). OnOk c.decided.result ((why : Refusal) → IsRefused c.args.names.now c.args.modules.now es why → ⊥)) alone
    (thin_links c.args.names.now c.from_ref.result.now c.args.modules.now 100 c.decided.result c.decided.ensures.done)

pub returns-clause-because : goal.returns-clause-because
returns-clause-because c =
    let alone : c.from_ref.result.now ≡ c.args.root.now ∷ [] = c.from_ref.ensures.value in
    subst (λ (es : List (List ℕ)). IfErr c.decided.result (Because (record never { unlinked = IsRefused c.args.names.now c.args.modules.now es; memory = Unit {0} }))) alone c.decided.ensures.because
