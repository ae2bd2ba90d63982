use Rattle.std.proofs.Common.{List, Ok, sym, ap, ◌∙◌}
use Rattle.ir_tree.specs.declared.function.Param.{Param}
use Rattle.ir_tree.specs.declared.operand.Symbol.{Symbol}
use Rattle.ir_parse_values.specs.Blocks.{function_in, params_from}
use Rattle.ir_parse_values.proofs.Bodies.{or_else}
use Rattle.ir_parse_values.proofs.Following.{follows}
use Rattle.ir_parse_values.proofs.function.function_in.Goals as goal

pub returns : goal.returns
unfolding function_in
returns c =
    follows _ c.in_ok-blocks.ensures
    ∙ ap (λ (s : Symbol). Ok (record { symbol = s; linkage = c.args.head.now.linkage; result = c.args.head.now.result; params = params_from 0 c.args.head.now.params; noinline = c.args.noinline; optnone = c.args.optnone; blocks = c.in_ok-blocks.blocks })) (sym c.in_ok-symbol.ensures)
    ∙ ap (λ (ps : List Param). Ok (record { symbol = c.in_ok-symbol.symbol; linkage = c.args.head.now.linkage; result = c.args.head.now.result; params = ps; noinline = c.args.noinline; optnone = c.args.optnone; blocks = c.in_ok-blocks.blocks })) (ap (params_from 0) (sym c.as_slice.ensures) ∙ ap (or_else c.in_ok-params.params) c.in_ok-params.ensures)
