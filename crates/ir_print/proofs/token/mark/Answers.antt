use Rattle.std.proofs.Common.{◌++◌, ◌∷◌, [], List, ℕ, ap, ◌∙◌}
use Rattle.ir_print.proofs.Written.{wrote_one}
use Rattle.ir_print.proofs.token.mark.Goals as goal

pub returns : goal.returns
returns c = wrote_one _ _ _ (c.in_ok-push.ensures.items ∙ ap (λ (x : List ℕ). x ++ (c.args.c ∷ [])) c.in_ok-extend_from_slice.ensures.items)
