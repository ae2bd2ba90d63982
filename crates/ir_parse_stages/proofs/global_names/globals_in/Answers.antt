use Rattle.std.proofs.Common.{ℕ, List, [], Result, sym, ap, subst, ◌∙◌}
use Rattle.ir_parse_names.specs.declared.fault.Fault.{Fault}
use Rattle.ir_parse_names.specs.Globals.{Globals, no_globals}
use Rattle.ir_parse_names.specs.Marks.{Mark}
use Rattle.ir_parse_names.specs.Resolving.{ResolvesTo}
use Rattle.ir_parse_names.specs.Stages.{all_named, global_names, globals_named}
use Rattle.ir_parse_stages.specs.MarkViews.{marks}
use Rattle.ir_parse_stages.proofs.Runs.{same_value}
use Rattle.ir_parse_stages.proofs.global_names.globals_in.Goals as goal

pub returns : goal.returns
unfolding globals_named
returns c = subst (λ (r : Result Globals Fault). ResolvesTo (λ g. g) c.all_named.result r) (ap (λ (found : List (List ℕ)). all_named found no_globals (marks c.as_slice-rows.result.now)) (sym (same_value _ _ c.in_ok-names.ensures)) ∙ ap (λ (ms : List Mark). all_named (global_names [] ms) no_globals ms) c.as_slice-rows.ensures) c.all_named.ensures
