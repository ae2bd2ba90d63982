-- Modules that have a thin link aren't refused one.
use Rattle.std.proofs.Common.{◌≡◌, ◌⊎◌, inl, inr, ℕ, Bool, List, map, subst}
use Rattle.ir_tree.specs.declared.module.Module.{Module}
use Rattle.ir_summary.specs.Summaries.{summaries}
use Rattle.symbol_resolve.specs.Resolved.{symbols}
use Rattle.combined_index.specs.Combined.{Combined}
use Rattle.combined_index.specs.Liveness.{Refuses}
use Rattle.lto_fault.specs.declared.refusal.Refusal.{Refusal}
use Rattle.thin_link.specs.Laws.{ThinLinkIsNotRefused}
use Rattle.thin_link.specs.Linking.{IsIndex}
use Rattle.thin_link.proofs.Clashing.{no_clash}
use Rattle.thin_link.proofs.Indices.{one_index}
use Rattle.thin_link.proofs.Lacking.{no_lack}

pub same_index : (ms : List Module) (c d : Combined) → IsIndex ms c → IsIndex ms d → c ≡ d
same_index ms c d = one_index (symbols ms) (map (λ m. summaries m.globals) ms) c d

pub decided_not_refused : ThinLinkIsNotRefused
decided_not_refused files exports ms limit index live imports why thin (inl c) = no_clash ms c.clash thin.resolved c.clashes
decided_not_refused files exports ms limit index live imports why thin (inr l) =
    let same : l.index ≡ index = same_index ms l.index index l.combined thin.combined in
    no_lack index exports l.lack thin.defined thin.exported (subst (λ (c : Combined). Refuses c exports l.lack) same l.lacks)
