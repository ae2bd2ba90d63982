use Rattle.ir_parse_parts.specs.Alphabet.{among}
use Rattle.ir_parse_parts.specs.Classes.{tokens}
use Rattle.ir_parse_parts.specs.Metadata.{META}
use Rattle.std.proofs.Common.{Bool, List, Ok, ap, refl, sym, ◌∙◌}
use Rattle.ir_parse_bodies.specs.PhisAt.{behind_comma_at}
use Rattle.std.proofs.Common.{false}
use Rattle.ir_parse_parts.specs.declared.raw.Incoming.{Incoming}
use Rattle.ir_parse_bodies.specs.PhisAt.{attaching_at, entering_at}
use Rattle.ir_parse_bodies.proofs.Successions.{out_of_memory, passed_on, reads_behind}
use Rattle.ir_parse_operands.proofs.Choices.{passes_over, picks}
use Rattle.ir_parse_bodies.proofs.phis.behind_comma_into.Goals as goal

pub returns-in_ok-push : goal.returns-in_ok-push
unfolding attaching_at entering_at
returns-in_ok-push c = reads_behind (ap (λ (b : Bool). behind_comma_at c.args.reg b c.args.tokens.now) c.if-attached.false ∙ passes_over (among tokens META) attaching_at (entering_at c.args.reg) c.args.tokens.now (sym c.comes_meta.ensures ∙ c.if-comes_meta.false) ∙ reads_behind c.in_ok-incoming.ensures _ refl) _ (ap (λ (all : List Incoming). Ok ((all, false), c.incoming_at.new.tokens)) (sym c.in_ok-push.ensures.pushed))

pub returns-in_ok-attached_at-2 : goal.returns-in_ok-attached_at-2
unfolding attaching_at entering_at
returns-in_ok-attached_at-2 c = reads_behind (ap (λ (b : Bool). behind_comma_at c.args.reg b c.args.tokens.now) c.if-attached.false ∙ picks (among tokens META) attaching_at (entering_at c.args.reg) c.args.tokens.now (sym c.comes_meta.ensures ∙ c.if-comes_meta.true) ∙ reads_behind c.in_ok-attached_at-2.ensures _ refl) _ refl

pub returns-then-attached : goal.returns-then-attached
unfolding attaching_at entering_at
returns-then-attached c = reads_behind (ap (λ (b : Bool). behind_comma_at c.args.reg b c.args.tokens.now) c.if-attached.true ∙ reads_behind c.in_ok-attached_at.ensures _ refl) _ refl

pub returns-in_err-push : goal.returns-in_err-push
unfolding attaching_at entering_at
returns-in_err-push c = passed_on _ _ _ _ c.from_residual-in_err-push.ensures (out_of_memory _ _ c.in_err-push.ensures.memory)
