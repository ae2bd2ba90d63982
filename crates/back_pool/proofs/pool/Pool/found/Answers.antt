use Rattle.std.proofs.Common.{List, Option, ℕ, subst}
use Rattle.std.specs.Prelude.{IfSome}
use Rattle.std.proofs.lemmas.Result.{IfOk-weaker}
use Rattle.back_pool.specs.Making.{IsTrusted}
use Rattle.back_pool.proofs.Answering.{taken_fits, taken_is_unit}
use Rattle.back_pool.proofs.pool.Pool.found.Goals as goal

pub returns-in-Some-clause-unit : goal.returns-in-Some-clause-unit
returns-in-Some-clause-unit g c = IfOk-weaker c.pieces.result _ _ (taken_is_unit _ c.as_slice.result.now) c.pieces.ensures

pub returns-in-Some-clause-fits : goal.returns-in-Some-clause-fits
returns-in-Some-clause-fits g c =
    let fits = g.D.CacheDisk.fits in
    let trusted = IsTrusted g.S.Setting.dir fits g.S.Setting.files in
    let found : trusted → ∥ fits c.args.key.now c.in-Some.text ∥₁ =
    subst (λ (o : Option (List ℕ)). IfSome o (λ text. trusted → ∥ fits c.args.key.now text ∥₁)) c.in-Some.is c.in_ok-text.ensures.fits in
    IfOk-weaker c.pieces.result _ _ (taken_fits _ c.as_slice.result.now c.in-Some.text c.as_slice.ensures trusted (fits c.args.key.now) found) c.pieces.ensures
