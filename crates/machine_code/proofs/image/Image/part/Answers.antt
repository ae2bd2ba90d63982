use Rattle.std.proofs.Common.{ℕ, List, reverse, refl, subst, ◌∙◌}
use Rattle.ir_tree.specs.declared.operand.Symbol.{Symbol}
use Rattle.ir_meaning.specs.Constants.{zero_bytes}
use Rattle.machine_code.specs.MemoryAddresses.{value_in}
use Rattle.machine_code.specs.Images.{Wrote, head_bytes, padding}
use Rattle.machine_code.specs.declared.image.Image.{Image}
use Rattle.machine_code.proofs.Telling.{on_ok}
use Rattle.machine_code.proofs.Writing.{pushed, same_keeps, wrote_part, wrote_typed}
use Rattle.machine_code.proofs.image.Image.part.Goals as goal

pub returns-in_ok-enter-in-Typed-clause-wrote : goal.returns-in_ok-enter-in-Typed-clause-wrote
returns-in_ok-enter-in-Typed-clause-wrote c =
    let old = c.args.self.now in
    let t = c.args.bases.now in
    let o = c.in-Some.aggregate in
    let f = c.in-Typed.shape in
    let head = c.in-Typed.head in
    let popped : Image = record old { opens = c.pop.new.self } in
    let was = pushed c.pop.new.self.items old.opens.items o c.in-Some.ensures.items in
    let first = subst (λ (n : ℕ). Wrote popped (λ (names : List Symbol). zero_bytes n) c.skip.new.self) c.padding.ensures c.skip.ensures.wrote in
    on_ok c.begin.result
    (λ h. wrote_typed t (reverse old.opens.items) (reverse c.pop.new.self.items) o c.args.part.now f head old c.begin.new.self was c.in-Typed.is
    (wrote_part old popped c.skip.new.self c.enter.new.self c.begin.new.self (padding o f) (λ (names : List Symbol). head_bytes (value_in t names) f head) refl refl first c.in_ok-enter-in-Typed.ensures.wrote h))
    c.begin.ensures.wrote

pub returns-in_ok-enter-in-Typed-clause-holds : goal.returns-in_ok-enter-in-Typed-clause-holds
returns-in_ok-enter-in-Typed-clause-holds c =
    on_ok c.begin.result (λ h k. h (same_keeps c.args.bases.now c.args.self.now.bytes c.enter.new.self.bytes (c.enter.ensures.bytes ∙ c.skip.ensures.bytes) k)) c.begin.ensures.holds

pub returns-in-End-clause-holds : goal.returns-in-End-clause-holds
returns-in-End-clause-holds c = same_keeps c.args.bases.now c.args.self.now.bytes c.skip-in-End.new.self.bytes c.skip-in-End.ensures.bytes
