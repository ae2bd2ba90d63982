use Rattle.std.proofs.Common.{Some, Ok, ap}
use Rattle.ir_tree.specs.declared.module.GlobalValue.TheVariants as global
use Rattle.ir_parse_names.specs.Resolving.{◌>>=◌}
use Rattle.ir_parse.proofs.values.declared_value.Goals as goal

pub returns : goal.returns
returns c = ap (λ r. r >>= λ f. Ok (Some (global.Function f))) c.in_ok-made.ensures
