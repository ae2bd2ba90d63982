-- The thin link: what a link decides by summaries alone (Johnson, Amini and Li, "ThinLTO: Scalable and Incremental LTO",
-- CGO 2017).
use Rattle.std.specs.Prelude.{ℕ, Bool, List, map}
use Rattle.ir_tree.specs.declared.module.Module.{Module}
use Rattle.ir_summary.specs.Summaries.{summaries}
use Rattle.symbol_resolve.specs.Clashes.{NoClash}
use Rattle.symbol_resolve.specs.Resolved.{symbols}
use Rattle.combined_index.specs.Combined.{Combined}
use Rattle.combined_index.specs.Indexed.{IsCombined}
use Rattle.combined_index.specs.Liveness.{AllExported, AreLive, NoneUndefined}
use Rattle.thin_link.specs.Plans.{IsPlan}
use Rattle.thin_link.specs.Reports.{IsReport}

-- the combined index of the modules: their summaries, with the definitions that prevail
abbrev pub IsIndex : List Module → Combined → Type 0
IsIndex ms index = IsCombined (symbols ms) (map (λ m. summaries m.globals) ms) index

-- the modules can be linked and lack no definition; these symbols are live, and these functions are imported by each module
pub record IsThinLink (ms : List Module) (exports : List (List ℕ)) (limit : ℕ) (index : Combined) (live : List Bool) (imports : List (List ℕ)) : Type 0 where
  pub resolved : NoClash ms
  pub combined : IsIndex ms index
  pub alive : AreLive index exports live
  pub defined : NoneUndefined index exports
  pub exported : AllExported index exports
  pub planned : IsPlan index live limit imports

-- the report of the thin link of modules from these files
pub record IsIndexReport (files : List (List ℕ)) (ms : List Module) (exports : List (List ℕ)) (limit : ℕ) (text : List ℕ) : Type 0 where
  pub index : Combined
  pub live : List Bool
  pub imports : List (List ℕ)
  pub linked : IsThinLink ms exports limit index live imports
  pub report : IsReport index live imports files text
