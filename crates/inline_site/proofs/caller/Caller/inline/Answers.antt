use Rattle.std.proofs.Common.{◌≡◌, ◌∙◌, ◌++◌, [], ◌∷◌}
use Rattle.inline_site.specs.Copies.{behind_call, copied}
use Rattle.inline_site.specs.Copying.{empty}
use Rattle.inline_site.proofs.Later.{counted_put, inlines}
use Rattle.inline_site.proofs.caller.Caller.inline.Goals as goal

pub returns-clause-inlined : goal.returns-clause-inlined
returns-clause-inlined c = λ f lines end ahead sound.
    let all : c.as_slice.result.now ≡ copied c.args.self.now.free c.args.callee.now c.args.arguments.now ++ empty (behind_call c.args.self.now.free c.args.callee.now) ∷ [] = c.as_slice.ensures ∙ c.in_ok-rows.ensures sound in
    inlines c.args.callee.now c.args.self.now c.put.new.self c.args.current.now c.put.new.current c.args.call.now c.args.arguments.now c.in-Some.copy.now c.in-Some.behind
    (c.in-Some.ensures.copy (copied c.args.self.now.free c.args.callee.now c.args.arguments.now) (empty (behind_call c.args.self.now.free c.args.callee.now)) all)
    (c.in-Some.ensures.number (copied c.args.self.now.free c.args.callee.now c.args.arguments.now) (empty (behind_call c.args.self.now.free c.args.callee.now)) all) c.in_ok-put.ensures.done
    f lines end ahead c.requires.some c.requires.call c.in_ok-put.ensures.current c.in_ok-put.ensures.halves c.in_ok-put.ensures.lost c.in_ok-put.ensures.free

pub returns-clause-count : goal.returns-clause-count
returns-clause-count c = λ sound.
    let all : c.as_slice.result.now ≡ copied c.args.self.now.free c.args.callee.now c.args.arguments.now ++ empty (behind_call c.args.self.now.free c.args.callee.now) ∷ [] = c.as_slice.ensures ∙ c.in_ok-rows.ensures sound in
    counted_put c.args.callee.now c.args.self.now c.put.new.self c.args.current.now c.put.new.current c.args.call.now c.args.arguments.now c.in-Some.copy.now c.in-Some.behind
    (c.in-Some.ensures.copy (copied c.args.self.now.free c.args.callee.now c.args.arguments.now) (empty (behind_call c.args.self.now.free c.args.callee.now)) all)
    (c.in-Some.ensures.number (copied c.args.self.now.free c.args.callee.now c.args.arguments.now) (empty (behind_call c.args.self.now.free c.args.callee.now)) all) c.in_ok-put.ensures.done
