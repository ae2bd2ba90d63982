use Rattle.std.proofs.Common.{◌≡◌, ◌∙◌, ◌<◌, ◌++◌, ◌∷◌, [], ℕ, List, Bool, true, length, ap, sym, subst, inl, inr, arith}
use Rattle.std.proofs.lemmas.Bool.{cases_lt}
use Rattle.std.proofs.lemmas.List.{length-replicate}
use Rattle.std.proofs.lemmas.List.Elements.{All-push}
use Rattle.ir_tree.specs.Flow.{holds}
use Rattle.ir_flow.specs.Waiting.{AreBelow}
use Rattle.ir_flow.proofs.Queues.{holds-kept, holds-last, contains_within}
use Rattle.ir_flow.proofs.work_list.WorkList.all.Goals as goal

pub loop-block-preserved : goal.loop-block-preserved
loop-block-preserved c =
    let i : ℕ = c.loop-block.block in
    let old : List ℕ = c.loop-block.queue.items in
    let grown : c.push_back.new.self.items ≡ old ++ i ∷ [] = c.in_ok-push_back.ensures.items in
    record {
      there = λ b h.
          ap (λ (q : List ℕ). holds q b) grown
          ∙ elim (cases_lt b i) [
            | inl below ↦ holds-kept old (i ∷ []) b (c.loop-block.invariant.there b below)
            | inr above ↦ let same : b ≡ i = omega arith in ap (holds (old ++ i ∷ [])) same ∙ holds-last old i
          ];
      below = subst (AreBelow c.args.count) (sym grown) (All-push (λ (b : ℕ). b < c.args.count) old i c.loop-block.invariant.below (omega arith));
    }

pub invariant_of-result : goal.invariant_of-result
invariant_of-result c =
    let full : List Bool = c.in_ok-full.field-0 in
    let long : length full ≡ c.args.count = ap length c.in_ok-full.ensures ∙ length-replicate c.args.count true in
    record {
      held = λ b m. let inside : b < length full = contains_within full b m in c.loop-block.invariant.there b (omega arith);
      below = subst (λ (n : ℕ). AreBelow n c.loop-block.queue.items) (sym long) c.loop-block.invariant.below;
    }
