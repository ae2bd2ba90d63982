use Rattle.std.proofs.Common.{ℕ, List, Result, Ok, sym, ap, ◌∙◌}
use Rattle.ir_tree.specs.declared.module.GlobalValue.{GlobalValue}
use Rattle.ir_parse_names.specs.declared.fault.Fault.{Fault}
use Rattle.ir_parse_names.specs.Resolving.{◌>>=◌}
use Rattle.ir_parse.specs.Stages.{module_with}
use Rattle.ir_parse.specs.Targets.{datalayout_of, triple_of}
use Rattle.ir_parse.proofs.stages.module_with.Goals as goal

pub returns : goal.returns
unfolding module_with
returns c =
    ap (λ (r : Result (List GlobalValue) Fault). r >>= λ values. Ok (record { datalayout = datalayout_of c.args.items.now; triple = triple_of c.args.items.now; globals = values })) c.in_ok-globals.ensures
    ∙ ap (λ (text : List ℕ). Ok (record { datalayout = text; triple = triple_of c.args.items.now; globals = c.in_ok-globals.globals })) (sym c.in_ok-datalayout.ensures)
    ∙ ap (λ (text : List ℕ). Ok (record { datalayout = c.in_ok-datalayout.datalayout; triple = text; globals = c.in_ok-globals.globals })) (sym c.in_ok-triple.ensures)
