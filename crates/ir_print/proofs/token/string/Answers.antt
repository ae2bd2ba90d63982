use Rattle.std.proofs.Common.{◌++◌, ◌∷◌, [], List, ℕ, ap, ◌∙◌, append_assoc}
use Rattle.ir_tree.specs.Names.{escaped}
use Rattle.ir_print.proofs.Written.{wrote_one}
use Rattle.ir_print.proofs.token.string.Goals as goal

pub returns : goal.returns
returns c =
    let text = escaped c.args.text.now in
    let quote = 34 ∷ [] in
    wrote_one _ _ _
    (c.in_ok-push-2.ensures.items
    ∙ ap (λ (x : List ℕ). x ++ quote) (c.in_ok-escape_into.ensures ∙ ap (λ (x : List ℕ). x ++ text) (c.in_ok-push.ensures.items ∙ ap (λ (x : List ℕ). x ++ quote) c.in_ok-extend_from_slice.ensures.items))
    ∙ append_assoc ((c.args.out.now.items ++ c.args.lead.now) ++ quote) text quote
    ∙ append_assoc (c.args.out.now.items ++ c.args.lead.now) quote (text ++ quote))
