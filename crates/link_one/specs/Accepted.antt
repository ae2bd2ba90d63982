-- Which files are accepted, and why others are refused.
use Rattle.std.specs.Prelude.{◌≡◌, ◌⊎◌, ℕ, List}
use Rattle.ir_tree.specs.Wholes.{IsVerified}
use Rattle.ir_tree.specs.declared.module.Module.{Module}
use Rattle.ir_parse.specs.FirstFault.{FirstFault}
use Rattle.ir_parse.specs.Reading.{Reads}
use Rattle.ir_tree.specs.declared.fault_kind.FaultKind.{FaultKind}
use Rattle.ir_verify.specs.Modules.{IsLeastFault}
use Rattle.ir_verify.specs.declared.fault.VerifyFault.{VerifyFault}
use Rattle.lto_fault.specs.declared.kind.RefusalKind.{RefusalKind}
use Rattle.lto_fault.specs.declared.kind.RefusalKind.TheVariants.{Unread, Unsound}

-- the bytes are read as this module, which is sound
pub record Accepts (bytes : List ℕ) (m : Module) : Type 0 where
  pub lines : List (List ℕ)
  pub reads : Reads bytes m lines
  pub verified : IsVerified m

-- ---- faults

-- the bytes are read as no module
pub record IsUnread (bytes : List ℕ) (line : ℕ) (kind : RefusalKind) : Type 0 where
  pub fault : FaultKind
  pub first : FirstFault bytes line fault
  pub told : kind ≡ Unread fault

-- the bytes are read as a module that isn't sound: this is its least fault
pub record IsUnsound (bytes : List ℕ) (line : ℕ) (kind : RefusalKind) : Type 0 where
  pub m : Module
  pub lines : List (List ℕ)
  pub reads : Reads bytes m lines
  pub fault : VerifyFault
  pub least : IsLeastFault m.globals lines fault
  pub place : line ≡ fault.line
  pub told : kind ≡ Unsound fault.kind

abbrev pub Refuses : List ℕ → ℕ → RefusalKind → Type 0
Refuses bytes line kind = IsUnread bytes line kind ⊎ IsUnsound bytes line kind
