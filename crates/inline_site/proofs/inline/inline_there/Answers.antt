use Rattle.inline_site.specs.Callers.{made_of}
use Rattle.inline_site.specs.Copying.{site_of}
use Rattle.std.proofs.Common.{[]}
use Rattle.inline_site.proofs.Later.{inlined_at}
use Rattle.inline_site.proofs.inline.inline_there.Goals as goal

pub returns : goal.returns
returns c = λ f place same ready none stands sound.
    inlined_at f (made_of f c.from_there.new.caller []) c.args.callee.now place (site_of c.args.site) c.args.caller.now c.up_to.new.caller c.inline.new.self c.in_ok-current.current c.inline.new.current stands
    same ready none c.in_ok-current.ensures.block c.in_ok-current.ensures.done c.in_ok-current.ensures.free c.in_ok-current.ensures.late
    (c.in_ok-inline.ensures.inlined f c.args.site.after.now c.args.site.block.now.end c.args.site.back.now sound) (c.in_ok-from_there.ensures f)
