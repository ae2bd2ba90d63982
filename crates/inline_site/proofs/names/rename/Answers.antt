use Rattle.std.proofs.Common.{◌∙◌, arith}
use Rattle.inline_site.proofs.Later.{no_names, renamed}
use Rattle.inline_site.proofs.names.rename.Goals as goal

pub returns-then-halves-eq0 : goal.returns-then-halves-eq0
returns-then-halves-eq0 c = no_names c.args.halves.now c.args.blocks.now.items (omega (arith, c.if-halves-eq0.true))

pub returns : goal.returns
returns c = c.in_ok-rename.ensures ∙ renamed c.in_ok-names.names c.args.halves.now c.args.blocks.now.items c.in_ok-names.ensures
