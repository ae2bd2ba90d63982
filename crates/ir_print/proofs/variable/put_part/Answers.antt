use Rattle.std.proofs.Common.{◌≡◌, [], ◌∷◌, refl, sym, ap, ◌∙◌}
use Rattle.std.proofs.lemmas.List.{reverse-append}
use Rattle.std.specs.Prelude.{reverse}
use Rattle.ir_print.proofs.Written.{finish}
use Rattle.ir_print.proofs.variable.put_part.Goals as goal

pub returns-in_ok-push-in-Typed-clause-wrote : goal.returns-in_ok-push-in-Typed-clause-wrote
returns-in_ok-push-in-Typed-clause-wrote c =
    let open_ones : reverse c.args.levels.now.items ≡ c.in-Some.level ∷ reverse c.pop.new.self.items = ap reverse c.in-Some.ensures.items ∙ reverse-append c.pop.new.self.items (c.in-Some.level ∷ []) in
    rw (open_ones, c.in-Typed.is) (finish _ _ _ _ _ _ c.in_ok-part_shape-in-Typed.ensures c.put_head.ensures.wrote)

pub returns-in_ok-push-in-Typed-clause-opened : goal.returns-in_ok-push-in-Typed-clause-opened
returns-in_ok-push-in-Typed-clause-opened c =
    let open_ones : reverse c.args.levels.now.items ≡ c.in-Some.level ∷ reverse c.pop.new.self.items = ap reverse c.in-Some.ensures.items ∙ reverse-append c.pop.new.self.items (c.in-Some.level ∷ []) in
    let again = ap reverse (c.in_ok-push-in-Typed.ensures.items ∙ sym c.in-Some.ensures.items) ∙ open_ones in
    rw (open_ones, c.in-Typed.is) (rw again at c.put_head.ensures.opened)

pub returns-in_ok-push-in-Typed-clause-first : goal.returns-in_ok-push-in-Typed-clause-first
returns-in_ok-push-in-Typed-clause-first c =
    let open_ones : reverse c.args.levels.now.items ≡ c.in-Some.level ∷ reverse c.pop.new.self.items = ap reverse c.in-Some.ensures.items ∙ reverse-append c.pop.new.self.items (c.in-Some.level ∷ []) in
    rw (open_ones, c.in-Typed.is) c.put_head.ensures.first

pub returns-in_ok-put_closing-in-End-clause-wrote : goal.returns-in_ok-put_closing-in-End-clause-wrote
returns-in_ok-put_closing-in-End-clause-wrote c =
    let open_ones : reverse c.args.levels.now.items ≡ c.in-Some.level ∷ reverse c.pop.new.self.items = ap reverse c.in-Some.ensures.items ∙ reverse-append c.pop.new.self.items (c.in-Some.level ∷ []) in
    rw (open_ones, c.in-End.is) c.in_ok-put_closing-in-End.ensures

pub returns-in_ok-put_closing-in-End-clause-opened : goal.returns-in_ok-put_closing-in-End-clause-opened
returns-in_ok-put_closing-in-End-clause-opened c =
    let open_ones : reverse c.args.levels.now.items ≡ c.in-Some.level ∷ reverse c.pop.new.self.items = ap reverse c.in-Some.ensures.items ∙ reverse-append c.pop.new.self.items (c.in-Some.level ∷ []) in
    rw (open_ones, c.in-End.is) refl

pub returns-in_ok-put_closing-in-End-clause-first : goal.returns-in_ok-put_closing-in-End-clause-first
returns-in_ok-put_closing-in-End-clause-first c =
    let open_ones : reverse c.args.levels.now.items ≡ c.in-Some.level ∷ reverse c.pop.new.self.items = ap reverse c.in-Some.ensures.items ∙ reverse-append c.pop.new.self.items (c.in-Some.level ∷ []) in
    rw (open_ones, c.in-End.is) refl
