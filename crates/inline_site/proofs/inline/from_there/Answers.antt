use Rattle.std.proofs.Common.{◌∙◌, [], ◌∷◌, append-nil, ap}
use Rattle.inline_site.specs.Callers.{ended, made_of}
use Rattle.inline_site.specs.declared.open.Open.{Open}
use Rattle.inline_site.proofs.Later.{made_more}
use Rattle.inline_site.proofs.inline.from_there.Goals as goal

pub returns : goal.returns
returns c = λ f.
    made_more f c.end.new.self c.pass.new.self c.args.site.back.now [] c.in_ok-pass.ensures.done c.in_ok-pass.ensures.late
    ∙ ap (made_of f c.end.new.self) (append-nil c.args.site.back.now)
    ∙ c.in_ok-end.ensures.function f c.args.site.back.now
    ∙ ap (λ (o : Open). made_of f c.args.caller.now (ended o c.args.site.block.now.end ∷ c.args.site.back.now)) c.in_ok-push_all.ensures
