use Rattle.std.proofs.Common.{rules, sym, ap, ◌∙◌}
use Rattle.claim_word.proofs.Drawing.{draws}
use Rattle.claim_word.proofs.claims.Claims.claim.Goals as goal

pub fetch_add-found-requires : goal.fetch_add-found-requires
fetch_add-found-requires c =
    let key = c.args.self.now.key in
    (search rules, search rules, draws _ _ _ _ _ (c.requires.1 ∙ sym (ap (λ k. k.0) key)) (sym c.args.pass.now.same ∙ c.if-pass.false) c.args.pass.now.holds_one)
