use Rattle.std.proofs.Common.{subst, ℕ, Result, Err, sym, ap, ◌∙◌, ◌≡◌}
use Rattle.ir_lex.specs.Tok.{tok}
use Rattle.ir_parse_parts.specs.declared.fault.TokenFault.{TokenFault}
use Rattle.ir_parse_parts.specs.declared.fault.TokenFault.TheVariants.{Syntax}
use Rattle.ir_parse_parts.specs.Readers.{view_result}
use Rattle.ir_parse_operands.specs.declared.shapes.Measured.{Measured}
use Rattle.ir_parse_operands.specs.ShapeForms.{leaf_means}
use Rattle.ir_parse_operands.proofs.TakenTokens.{no_token, token_read, token_refused}
use Rattle.std.specs.Result.{IfOk}
use Rattle.ir_parse_operands.specs.Extents.{Fits, extent_of}
use Rattle.ir_parse_operands.proofs.shapes.leaf_at.Goals as goal

pub returns-in-Ok-clause-exact : goal.returns-in-Ok-clause-exact
returns-in-Ok-clause-exact c =
    token_read (leaf_means c.args.room) c.args.tokens.now c.take.new.self (tok c.in-Some.t) c.in-Ok.x.typed c.in-Some.ensures
    (sym c.in_ok-x-in-Some.ensures.exact ∙ ap (λ (r : Result Measured TokenFault). view_result (λ x. x.typed) r) c.in-Ok.is)

pub returns-in-Err-clause-exact : goal.returns-in-Err-clause-exact
returns-in-Err-clause-exact c =
    token_refused (leaf_means c.args.room) c.args.tokens.now c.take.new.self (tok c.in-Some.t) c.in-Err.kind c.in-Some.ensures
    (sym c.in_ok-x-in-Some.ensures.exact ∙ ap (λ (r : Result Measured TokenFault). view_result (λ x. x.typed) r) c.in-Err.is)
    ∙ ap (λ (n : ℕ). Err (record { left = n; kind = c.in-Err.kind })) (sym c.left-left.ensures)

pub returns-in-None-clause-exact : goal.returns-in-None-clause-exact
returns-in-None-clause-exact c =
    no_token (leaf_means c.args.room) c.args.tokens.now c.in-None.ensures.0
    ∙ ap (λ (n : ℕ). Err (record { left = n; kind = Syntax })) (sym c.left-left.ensures)

pub returns-in-Ok-clause-measured : goal.returns-in-Ok-clause-measured
returns-in-Ok-clause-measured c = subst (λ (r : Result Measured TokenFault). IfOk r (λ x. x.extent ≡ extent_of x.typed.shape)) c.in-Ok.is c.in_ok-x-in-Some.ensures.measured

pub returns-in-Ok-clause-fits : goal.returns-in-Ok-clause-fits
returns-in-Ok-clause-fits c = subst (λ (r : Result Measured TokenFault). IfOk r (λ x. Fits c.args.room x.extent)) c.in-Ok.is c.in_ok-x-in-Some.ensures.fits
