use Rattle.std.proofs.Common.{◌∙◌, ap}
use Rattle.inline_site.specs.Sites.{counted_in}
use Rattle.back_end.proofs.Ahead.{first_ahead}
use Rattle.back_end.proofs.walker.Walker.of.Goals as goal

pub returns : goal.returns
returns c = λ bodies.
    first_ahead bodies c.args.f.now (record { caller = c.of-caller.result; count = c.in_ok-count.count }) c.of-caller.ensures.function c.of-caller.ensures.ready c.of-caller.ensures.count
    (c.in_ok-count.ensures ∙ ap counted_in c.as_slice.ensures)
