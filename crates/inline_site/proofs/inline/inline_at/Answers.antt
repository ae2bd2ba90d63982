use Rattle.std.proofs.Common.{List, subst}
use Rattle.ir_tree.specs.declared.block.Block.{Block}
use Rattle.ir_tree.specs.declared.instr.Line.{Line}
use Rattle.inline_site.specs.Copying.{site_of}
use Rattle.inline_site.specs.Sites.{IsCallOf, StandsAt}
use Rattle.inline_site.proofs.Standing.{one_line}
use Rattle.inline_site.proofs.InlinedSound.{is_sound}
use Rattle.inline_site.proofs.Lost.{is_better}
use Rattle.inline_site.proofs.inline.inline_at.Goals as goal

pub returns-in_default-arguments_of-clause-inlined : goal.returns-in_default-arguments_of-clause-inlined
returns-in_default-arguments_of-clause-inlined c = λ sound s as' at is.
    absurd (c.in_default-arguments_of.ensures as'
    (subst (λ (l : Line). IsCallOf c.args.callee.now l.instr as') (one_line c.args.f.now.blocks c.args.place s (site_of c.in-Some.site) at (subst (λ (bs : List Block). StandsAt bs c.args.place (site_of c.in-Some.site)) c.as_slice.ensures c.in-Some.ensures)) is))

pub returns-clause-better : goal.returns-clause-better
returns-clause-better c = λ sound sound'.
    is_better c.args.f.now c.args.callee.now c.in_ok-g.g c.args.place (c.in_ok-g.ensures sound') sound sound'

pub returns-clause-sound : goal.returns-clause-sound
returns-clause-sound c = λ sound sound'.
    is_sound c.args.f.now c.args.callee.now c.in_ok-g.g c.args.place (c.in_ok-g.ensures sound') sound sound'
