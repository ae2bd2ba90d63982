use Rattle.std.proofs.Common.{arith, sym, subst, ◌∙◌}
use Rattle.ir_parse_parts.specs.Readers.{Fails, done, ◌>>=◌}
use Rattle.ir_parse_operands.specs.ShapeFormsAt.{memory_shape_at}
use Rattle.ir_parse_globals.specs.declared.variables.Body.{Body}
use Rattle.ir_parse_globals.specs.Initialisers.{scalar_of}
use Rattle.ir_parse_globals.specs.Variables.{is_declared}
use Rattle.ir_parse_globals.specs.VariablesAt.{tail_at, value_at}
use Rattle.ir_parse_operands.proofs.Choices.{goes_on}
use Rattle.ir_parse_operands.proofs.Additions.{first_fails}
use Rattle.ir_parse_globals.proofs.variables.body_at.Goals as goal

pub returns : goal.returns
returns c =
    let behind = c.shape_at.new.tokens in
    let typed = c.in_ok-typed.typed in
    let init = c.in_ok-init.init in
    goes_on {B = Body} (λ x. value_at (is_declared c.args.linkage) (scalar_of x.shape) >>= λ i. tail_at >>= λ a. done (record { typed = x; init = i; align = a })) (memory_shape_at c.args.tokens.now) typed behind c.in_ok-typed.ensures.exact
    ∙ goes_on {B = Body} (λ i. tail_at >>= λ a. done (record { typed = typed; init = i; align = a })) (value_at (is_declared c.args.linkage) (scalar_of typed.shape) behind) init c.value_at.new.tokens
    (sym (λ i. value_at (c.is_declared.ensures i) (c.scalar_of.ensures i) behind) ∙ c.in_ok-init.ensures)
    ∙ goes_on {B = Body} (λ a. done (record { typed = typed; init = init; align = a })) (tail_at c.value_at.new.tokens) c.in_ok-align.align c.tail_at.new.tokens c.in_ok-align.ensures

pub returns-in_err-align : goal.returns-in_err-align
returns-in_err-align c =
    let behind = c.shape_at.new.tokens in
    let typed = c.in_ok-typed.typed in
    let init = c.in_ok-init.init in
    let e = c.in_err-align.field-0.0 in
    let here =
    goes_on {B = Body} (λ x. value_at (is_declared c.args.linkage) (scalar_of x.shape) >>= λ i. tail_at >>= λ a. done (record { typed = x; init = i; align = a })) (memory_shape_at c.args.tokens.now) typed behind c.in_ok-typed.ensures.exact
    ∙ goes_on {B = Body} (λ i. tail_at >>= λ a. done (record { typed = typed; init = i; align = a })) (value_at (is_declared c.args.linkage) (scalar_of typed.shape) behind) init c.value_at.new.tokens
    (sym (λ i. value_at (c.is_declared.ensures i) (c.scalar_of.ensures i) behind) ∙ c.in_ok-init.ensures) in
    let f = subst (Fails e) (sym here) (first_fails {B = Body} e (tail_at c.value_at.new.tokens) (λ a. done (record { typed = typed; init = init; align = a })) c.in_err-align.ensures) in
    grind (arith, f)
