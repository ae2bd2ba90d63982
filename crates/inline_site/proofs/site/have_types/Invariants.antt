use Rattle.std.proofs.Common.{◌≡◌, take}
use Rattle.ir_tree.specs.Types.{argument_types, param_types}
use Rattle.inline_site.proofs.site.have_types.Given as goal

abbrev pub invariant-loop-place : goal.invariant-loop-place
invariant-loop-place l = argument_types (take l.place l.arguments) ≡ param_types (take l.place l.params)
