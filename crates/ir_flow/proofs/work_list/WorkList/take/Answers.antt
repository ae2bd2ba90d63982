use Rattle.std.proofs.Common.{◌≡◌, ◌∙◌, ◌<◌, ◌∷◌, ℕ, List, Bool, false, length, set, ap, sym, subst}
use Rattle.std.proofs.lemmas.List.{length-set}
use Rattle.std.proofs.lemmas.List.Elements.{All-head, All-tail}
use Rattle.ir_flow.specs.Waiting.{AreHeld, AreBelow}
use Rattle.ir_flow.proofs.Queues.{held-rest}
use Rattle.ir_flow.proofs.work_list.WorkList.take.Goals as goal

pub invariant_of-self-2 : goal.invariant_of-self-2
invariant_of-self-2 c =
    let s : List Bool = c.args.self.now.waiting in
    let y : ℕ = c.in_ok-block.block in
    let ys : List ℕ = c.pop_front.new.self.items in
    let was : c.args.self.now.queue.items ≡ y ∷ ys = c.in_ok-block.ensures.items in
    let below : AreBelow (length s) (y ∷ ys) = subst (AreBelow (length s)) was c.args.self.now.below in
    let inside : y < length s = All-head (λ (b : ℕ). b < length s) y ys below in
    let new : c.without.new.self ≡ set s y false = c.without.ensures in
    record {
      held = subst (λ (w : List Bool). AreHeld w ys) (sym new) (held-rest s ys y inside (subst (AreHeld s) was c.args.self.now.held));
      below = subst (λ (n : ℕ). AreBelow n ys) (sym (ap length new ∙ length-set s y false)) (All-tail (λ (b : ℕ). b < length s) y ys below);
    }
