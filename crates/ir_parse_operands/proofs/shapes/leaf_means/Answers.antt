use Rattle.std.proofs.Common.{◌∙◌, Err, None, Ok, Some, ap, subst, sym}
use Rattle.ir_parse_operands.specs.Extents.{Fits}
use Rattle.ir_parse_operands.specs.ShapeForms.{typed}
use Rattle.ir_parse_operands.proofs.Leaves.{IsBehindScalars, leaf_named, no_bytes_fit, no_leaf}
use Rattle.ir_parse_operands.proofs.shapes.leaf_means.Goals as goal

pub returns-then-not-is-clause-exact : goal.returns-then-not-is-clause-exact
returns-then-not-is-clause-exact c =
    let past : IsBehindScalars _ = record { integer = sym c.is.ensures ∙ c.if-is.false; pointer = sym c.is-else-is.ensures ∙ c.if-is-2.false } in
    ap Err c.memory_refusal.ensures ∙ sym (no_leaf c.args.room _ past (sym c.is-2.ensures ∙ c.if-not-is.true))

pub returns-in_default-clause-exact : goal.returns-in_default-clause-exact
returns-in_default-clause-exact c =
    let past : IsBehindScalars _ = record { integer = sym c.is.ensures ∙ c.if-is.false; pointer = sym c.is-else-is.ensures ∙ c.if-is-2.false } in
    sym (leaf_named c.args.room _ None past (sym c.is-2.ensures ∙ c.if-not-is.false) (sym c.in_ok-name.ensures ∙ c.in_default.is))

pub returns-clause-exact : goal.returns-clause-exact
returns-clause-exact c =
    let past : IsBehindScalars _ = record { integer = sym c.is.ensures ∙ c.if-is.false; pointer = sym c.is-else-is.ensures ∙ c.if-is-2.false } in
    ap (λ s. Ok (typed s c.args.t.now.line)) c.named-2.ensures
    ∙ sym (leaf_named c.args.room _ (Some c.in-Some.name) past (sym c.is-2.ensures ∙ c.if-not-is.false) (sym c.in_ok-name.ensures ∙ c.in-Some.is))

pub returns-clause-fits : goal.returns-clause-fits
returns-clause-fits c = subst (Fits c.args.room) (sym c.no_bytes.ensures) (no_bytes_fit c.args.room c.requires)
