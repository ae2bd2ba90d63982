use Rattle.std.proofs.Common.{Bool, Some, Ok, sym, ap, ◌∙◌}
use Rattle.ir_tree.specs.declared.module.GlobalValue.TheVariants as global
use Rattle.ir_parse_names.specs.Groups.{is_optnone}
use Rattle.ir_parse_names.specs.Resolving.{◌>>=◌}
use Rattle.ir_parse_values.specs.Blocks.{function_in}
use Rattle.ir_parse.proofs.values.defined_value.Goals as goal

pub returns : goal.returns
returns c =
    ap (λ r. r >>= λ f. Ok (Some (global.Function f)))
    (ap (λ (b : Bool). function_in c.args.types.now c.args.head.now c.args.blocks.now b (is_optnone c.args.groups.now c.args.head.now)) (sym c.is_noinline-noinline.ensures)
    ∙ ap (λ (b : Bool). function_in c.args.types.now c.args.head.now c.args.blocks.now c.is_noinline-noinline.result b) (sym c.is_optnone-optnone.ensures)
    ∙ c.in_ok-made.ensures)
