use Rattle.std.proofs.Common.{◌∙◌, ◌++◌, ℕ, List, ap}
use Rattle.lto_fault.specs.Texts.{refusal_text}
use Rattle.lto_fault.proofs.message.text.Goals as goal

pub returns-then-push_refusal : goal.returns-then-push_refusal
returns-then-push_refusal c = c.if-push_refusal.ensures.pushed ∙ ap (λ (l : List ℕ). l ++ refusal_text c.args.refusal.now) c.new-none.ensures
