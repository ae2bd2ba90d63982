use Rattle.std.proofs.Common.{◌∙◌, ap}
use Rattle.std.proofs.lemmas.Result.{IfOk-weaker}
use Rattle.merge_meaning.specs.Given.{parts_in}
use Rattle.merge_meaning.proofs.Tabled.{parts_kept}
use Rattle.merge_meaning.proofs.parting.parts.Goals as goal

pub returns : goal.returns
returns c =
    IfOk-weaker c.all_parts.result _ _
    (λ all is index marks live.
    is ∙ ap (λ table. parts_in table (record { live = c.args.live; suffixes = c.args.suffixes }) 0 c.args.modules.now) c.requires.resolved
    ∙ parts_kept c.args.modules.now (record { live = c.args.live; suffixes = c.args.suffixes }) index marks live) c.all_parts.ensures
