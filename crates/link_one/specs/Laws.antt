-- What is true of files that are accepted, refused and linked.
use Rattle.std.specs.Prelude.{◌≡◌, ℕ, List}
use Rattle.ir_tree.specs.declared.module.Module.{Module}
use Rattle.lto_fault.specs.declared.kind.RefusalKind.{RefusalKind}
use Rattle.link_one.specs.Accepted.{Accepts, Refuses}
use Rattle.link_one.specs.Linking.{IsLinkOf}

-- what is accepted isn't refused
abbrev pub AcceptedIsNotRefused : Type 0
AcceptedIsNotRefused = (bytes : List ℕ) (m : Module) (line : ℕ) (kind : RefusalKind) → Accepts bytes m → Refuses bytes line kind → ⊥

-- no bytes are accepted as two modules
abbrev pub AcceptedIsOne : Type 0
AcceptedIsOne = (bytes : List ℕ) (m n : Module) → Accepts bytes m → Accepts bytes n → m ≡ n

-- none are refused on two lines, or for two kinds
abbrev pub RefusedIsOne : Type 0
RefusedIsOne = (bytes : List ℕ) (line other : ℕ) (kind another : RefusalKind) → Refuses bytes line kind → Refuses bytes other another → (line ≡ other) × (kind ≡ another)

-- no files are linked to two texts
abbrev pub LinkedIsOne : Type 0
LinkedIsOne =
    (exports : List (List ℕ)) (import_limit inline_limit : ℕ) (files : List (List ℕ)) (text other : List ℕ)
    → IsLinkOf exports import_limit inline_limit files text → IsLinkOf exports import_limit inline_limit files other → text ≡ other
