use Rattle.std.proofs.Common.{List, ◌++◌, Result, sym, ap, subst, ◌∙◌}
use Rattle.ir_tree.specs.declared.module.Module.{Module}
use Rattle.ir_parse_names.specs.declared.fault.Fault.{Fault}
use Rattle.ir_parse_names.specs.Marks.{Mark, marks_of}
use Rattle.ir_parse_names.specs.Resolving.{◌>>=◌, ResolvesTo}
use Rattle.ir_parse_names.specs.TypeNames.{type_names}
use Rattle.ir_parse_names.specs.Types.{Types}
use Rattle.ir_parse.specs.Stages.{module_behind, module_in}
use Rattle.ir_parse.proofs.stages.module_in.Goals as goal

pub module_behind-requires : goal.module_behind-requires
module_behind-requires c = c.in_ok-gather.ensures ∙ ap (λ (ms : List Mark). ms ++ marks_of c.args.items.now) c.new-marks.ensures

pub returns : goal.returns
unfolding module_in
returns c =
    subst (λ (r : Result Module Fault). ResolvesTo (λ m. m) c.module_behind.result r)
    (sym (ap (λ (r : Result Types Fault). r >>= λ types. module_behind types c.args.items.now) (ap type_names (sym (c.in_ok-gather.ensures ∙ ap (λ (ms : List Mark). ms ++ marks_of c.args.items.now) c.new-marks.ensures)) ∙ c.in_ok-types.ensures)))
    c.module_behind.ensures
