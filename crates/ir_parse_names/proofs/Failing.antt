-- What is returned where a part failed.
use Rattle.std.proofs.Common.{◌≡◌, Result, Ok, Err, sym, subst}
use Rattle.ir_tree.specs.declared.failure.Failure.{Failure}
use Rattle.ir_tree.specs.declared.failure.Failure.TheVariants as errors
use Rattle.ir_parse_names.specs.declared.fault.Fault.{Fault}
use Rattle.ir_parse_names.specs.Resolving.{ResolvesTo}

pub ok_is : {A E : Type 0} (x y : A) → ◌≡◌ {A = Result A E} (Ok x) (Ok y) → x ≡ y
ok_is x y e = cc

-- the same, written otherwise
pub resolves_as : {X Y : Type 0} (view : X → Y) (result : Result X (Failure Fault)) (r r' : Result Y Fault) → r ≡ r' → ResolvesTo view result r → ResolvesTo view result r'
resolves_as {Y = Y} view result r r' e h = subst (λ (q : Result Y Fault). ResolvesTo view result q) e h

-- where a part fails, so does the whole
pub fails_too : {V W X Y : Type 0} (part : V → W) (whole : X → Y) (result : Result X (Failure Fault)) (e : Failure Fault) (r : Result W Fault) (r' : Result Y Fault) → result ≡ Err e → ResolvesTo part (Err e) r → ((d : Fault) → r ≡ Err d → r' ≡ Err d) → ResolvesTo whole result r'
fails_too {X = X} part whole result errors.NoMemory r r' is h fails = subst (λ (q : Result X (Failure Fault)). ResolvesTo whole q r') (sym is) tt
fails_too {X = X} part whole result (errors.Fault d) r r' is h fails = subst (λ (q : Result X (Failure Fault)). ResolvesTo whole q r') (sym is) (fails d h)
