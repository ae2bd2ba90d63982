-- An index has as many modules as its link.
use Rattle.std.proofs.Common.{◌≡◌, ◌∙◌, ℕ, suc, List, [], ◌∷◌, map, length, refl, sym, ap, arith}
use Rattle.std.proofs.lemmas.List.{length-map}
use Rattle.ir_tree.specs.declared.module.Module.{Module}
use Rattle.ir_summary.specs.Summaries.{summaries}
use Rattle.ir_summary.specs.declared.summary.Summary.{Summary}
use Rattle.symbol_resolve.specs.Resolved.{Symbols, symbols}
use Rattle.combined_index.specs.Combined.{Combined}
use Rattle.combined_index.specs.Entries.{Entry, entries_from}
use Rattle.combined_index.specs.Indexed.{named}
use Rattle.thin_link.specs.Linking.{IsIndex}

entries_counted : (table : Symbols) (k : ℕ) (all : List (List Summary)) → length (entries_from table k all) ≡ length all
entries_counted table k [] = refl
entries_counted table k (m ∷ ms) = let rest : length (entries_from table (suc k) ms) ≡ length ms = entries_counted table (suc k) ms in omega arith

pub modules_counted : (ms : List Module) (index : Combined) → IsIndex ms index → length index.modules ≡ length ms
modules_counted ms index h =
    sym (length-map index.modules (λ m. map (named index.symbols) m))
    ∙ ap (λ (all : List (List Entry)). length all) h.entries
    ∙ entries_counted (symbols ms) 0 (map (λ m. summaries m.globals) ms)
    ∙ length-map ms (λ m. summaries m.globals)
