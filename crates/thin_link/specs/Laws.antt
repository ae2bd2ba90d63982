-- Modules have one answer.
use Rattle.std.specs.Prelude.{◌≡◌, ℕ, Bool, List}
use Rattle.ir_tree.specs.declared.module.Module.{Module}
use Rattle.lto_fault.specs.declared.refusal.Refusal.{Refusal}
use Rattle.combined_index.specs.Combined.{Combined}
use Rattle.thin_link.specs.Linking.{IsIndexReport, IsThinLink}
use Rattle.thin_link.specs.Refusing.{IsRefused}

-- what has a thin link isn't refused one
abbrev pub ThinLinkIsNotRefused : Type 0
ThinLinkIsNotRefused =
    (files exports : List (List ℕ)) (ms : List Module) (limit : ℕ) (index : Combined) (live : List Bool) (imports : List (List ℕ)) (why : Refusal)
    → IsThinLink ms exports limit index live imports → IsRefused files ms exports why → ⊥

-- what has a report isn't refused
abbrev pub ReportedIsNotRefused : Type 0
ReportedIsNotRefused =
    (files exports : List (List ℕ)) (ms : List Module) (limit : ℕ) (text : List ℕ) (why : Refusal) → IsIndexReport files ms exports limit text → IsRefused files ms exports why → ⊥

-- no modules have two reports
abbrev pub ReportIsOne : Type 0
ReportIsOne =
    (files exports : List (List ℕ)) (ms : List Module) (limit : ℕ) (text other : List ℕ) → IsIndexReport files ms exports limit text → IsIndexReport files ms exports limit other → text ≡ other

-- nor two refusals
abbrev pub RefusalIsOne : Type 0
RefusalIsOne =
    (files exports : List (List ℕ)) (ms : List Module) (why other : Refusal) → IsRefused files ms exports why → IsRefused files ms exports other → why ≡ other

-- and their thin link decides one thing
abbrev pub DecisionsAreOne : Type 0
DecisionsAreOne =
    (ms : List Module) (exports : List (List ℕ)) (limit : ℕ) (index other : Combined) (live marks : List Bool) (imports lists : List (List ℕ))
    → IsThinLink ms exports limit index live imports → IsThinLink ms exports limit other marks lists → (other ≡ index) × (marks ≡ live) × (lists ≡ imports)
