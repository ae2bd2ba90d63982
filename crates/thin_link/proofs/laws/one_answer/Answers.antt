use Rattle.std.proofs.Common.{◌≡◌, ◌∙◌, inl, inr, ℕ, Bool, List, map, sym, ap, subst}
use Rattle.ir_tree.specs.declared.module.Module.{Module}
use Rattle.combined_index.specs.Combined.{Combined}
use Rattle.thin_link.specs.Plans.{IsPlan}
use Rattle.thin_link.specs.Reports.{IsReport}
use Rattle.combined_index.specs.Liveness.{AreLive, Refuses}
use Rattle.thin_link.specs.Laws.{DecisionsAreOne, RefusalIsOne, ReportIsOne, ReportedIsNotRefused}
use Rattle.thin_link.specs.Linking.{IsIndex}
use Rattle.thin_link.specs.Refusing.{clash_refusal, lack_refusal}
use Rattle.thin_link.proofs.Apart.{decided_not_refused, same_index}
use Rattle.thin_link.proofs.Clashing.{no_clash, one_clash}
use Rattle.thin_link.proofs.Lacking.{one_lack}
use Rattle.thin_link.proofs.Reports.{one_live, one_plan, one_report}
use Rattle.thin_link.proofs.laws.one_answer.Goals as goal

apart : ReportedIsNotRefused
apart files exports ms limit text why r refused = decided_not_refused files exports ms limit r.index r.live r.imports why r.linked refused

decisions : DecisionsAreOne
decisions ms exports limit index other live marks imports lists r q =
    let same : other ≡ index = same_index ms other index q.combined r.combined in
    let kept : marks ≡ live = one_live index exports marks live (subst (λ (c : Combined). AreLive c exports marks) same q.alive) r.alive in
    let brought : lists ≡ imports =
    one_plan index live limit lists imports (subst (λ (ls : List Bool). IsPlan index ls limit lists) kept (subst (λ (c : Combined). IsPlan c marks limit lists) same q.planned)) r.planned in
    (same, kept, brought)

report : ReportIsOne
report files exports ms limit text other r q =
    let one = decisions ms exports limit r.index q.index r.live q.live r.imports q.imports r.linked q.linked in
    one_report r.index r.live r.imports files text other r.report
    (subst (λ (lists : List (List ℕ)). IsReport r.index r.live lists files other) one.2
    (subst (λ (marks : List Bool). IsReport r.index marks q.imports files other) one.1 (subst (λ (c : Combined). IsReport c q.live q.imports files other) one.0 q.report)))

refusal : RefusalIsOne
refusal files exports ms why other x y = elim x [
  | inl h ↦ elim y [
    | inl g ↦ h.told ∙ ap (clash_refusal files) (one_clash ms h.clash g.clash h.clashes g.clashes) ∙ sym g.told
    | inr g ↦ absurd (no_clash ms h.clash g.resolved h.clashes)
  ]
  | inr h ↦ elim y [
    | inl g ↦ absurd (no_clash ms g.clash h.resolved g.clashes)
    | inr g ↦ (
        let same : g.index ≡ h.index = same_index ms g.index h.index g.combined h.combined in
        h.told ∙ ap (lack_refusal files) (one_lack h.index h.combined.index exports h.lack g.lack h.lacks (subst (λ (c : Combined). Refuses c exports g.lack) same g.lacks)) ∙ sym g.told
        )
  ]
]

pub returns : goal.returns
returns c = record { apart = apart; report = report; refusal = refusal; thin = decided_not_refused; decisions = decisions }
