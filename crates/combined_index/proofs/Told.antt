-- What the checks of a link say of it.
use Rattle.std.proofs.Common.{◌≡◌, ℕ, Bool, List, Result, Ok, Err, sym, subst}
use Rattle.std.specs.Result.{IsErrAnd}
use Rattle.combined_index.specs.Combined.{Combined}
use Rattle.combined_index.specs.Liveness.{AreLive, Decides, NoneUndefined}
use Rattle.combined_index.specs.LiveMarks.{ChecksDefined, ChecksExported}
use Rattle.ir_tree.specs.declared.failure.Failure.{Failure}
use Rattle.combined_index.specs.declared.refused.Refused.{Refused}
use Rattle.ir_tree.specs.declared.failure.Failure.TheVariants as error
use Rattle.combined_index.specs.declared.refused.Refused.TheVariants as refused
use Rattle.combined_index.proofs.Lacking.{least-undefined, least-unexported}
use Rattle.combined_index.proofs.Sources.{first_module}

-- ---- what each check refuses

module _ (c : Combined) (roots : List (List ℕ)) (marks : List Bool) (live : AreLive c roots marks) where
  pub undefined_refused : (e : Failure Refused) → ChecksDefined c marks (Err e) → Decides c roots (Err e)
  undefined_refused (error.Fault (refused.Undefined name k)) h =
      let l = least-undefined c roots marks live h.0 name h.1 in
      (l.0, (h.0, l.1, first_module c roots marks live h.0 k h.2))
  undefined_refused (error.Fault (refused.NoExport name)) h = absurd h
  undefined_refused error.NoMemory h = tt

  pub unexported_refused : NoneUndefined c roots → (e : Failure Refused) → ChecksExported c roots (Err e) → Decides c roots (Err e)
  unexported_refused none (error.Fault (refused.Undefined name k)) h = absurd h
  unexported_refused none (error.Fault (refused.NoExport name)) h = (none, least-unexported c roots h.0 name h.1)
  unexported_refused none error.NoMemory h = tt

-- an error that is handed on
pub passed_on : (c : Combined) (roots : List (List ℕ)) (r : Result (List Bool) (Failure Refused)) (e : Failure Refused) → IsErrAnd r (λ given. given ≡ e) → Decides c roots (Err e) → Decides c roots r
passed_on c roots (Ok marks) e is h = absurd is
passed_on c roots (Err given) e is h = subst (λ (y : Failure Refused). Decides c roots (Err y)) (sym is) h
