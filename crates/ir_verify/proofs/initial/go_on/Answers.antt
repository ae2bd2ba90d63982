use Rattle.std.proofs.Common.{◌≡◌, [], ◌∷◌, ap, ◌∙◌, reverse}
use Rattle.std.proofs.lemmas.List.{reverse-append}
use Rattle.ir_verify.proofs.Wants.{goes_ok}
use Rattle.ir_verify.proofs.initial.go_on.Goals as goal

pub returns-in_ok-push-in-Typed : goal.returns-in_ok-push-in-Typed
returns-in_ok-push-in-Typed c =
    let was : reverse c.args.wants.now.items ≡ c.in-Some.innermost ∷ reverse c.pop.new.self.items = ap reverse c.in-Some.ensures.items ∙ reverse-append c.pop.new.self.items (c.in-Some.innermost ∷ []) in
    let pushed : reverse c.push.new.self.items ≡ c.in-Some-taken.rest ∷ reverse c.pop.new.self.items = ap reverse c.in_ok-push-in-Typed.ensures.items ∙ reverse-append c.pop.new.self.items (c.in-Some-taken.rest ∷ []) in
    rw (was, c.in-Typed.is)
    (goes_ok c.begin.result c.in-Typed.shape c.in-Typed.head c.in-Some.innermost c.in-Some-taken.rest (reverse c.pop.new.self.items) (reverse c.push.new.self.items) (reverse c.begin.new.wants.items) pushed c.in-Some-taken.ensures c.begin.ensures)
