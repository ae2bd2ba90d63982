use Rattle.std.proofs.Common.{List, ◌++◌, ap, ◌∙◌}
use Rattle.ir_parse_names.specs.Marks.{Mark, uses}
use Rattle.ir_parse_names.specs.TypeNames.{uses_in}
use Rattle.ir_parse_stages.proofs.name_graph.uses_at.Goals as goal

pub returns-in_ok-uses-in-Some : goal.returns-in_ok-uses-in-Some
returns-in_ok-uses-in-Some c = c.in_ok-uses-in-Some.ensures ∙ ap (λ (ms : List Mark). ms ++ uses c.in-Some.shape.now) c.new-marks.ensures ∙ ap uses_in c.in-Some.ensures

pub returns-in-None : goal.returns-in-None
returns-in-None c = c.new-marks.ensures ∙ ap uses_in c.in-None.ensures
