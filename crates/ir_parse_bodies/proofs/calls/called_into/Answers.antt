use Rattle.std.proofs.Common.{List, Ok, ap, refl, sym}
use Rattle.std.proofs.Common.{Result}
use Rattle.ir_lex.specs.Tok.{Tok}
use Rattle.ir_parse_parts.specs.declared.fault.Fault.{Fault}
use Rattle.ir_parse_parts.specs.Readers.{done, follow}
use Rattle.ir_parse_parts.specs.declared.raw.WrittenLine.{WrittenLine}
use Rattle.ir_parse_bodies.specs.Blocks.{keep}
use Rattle.ir_parse_bodies.specs.Calls.{called}
use Rattle.ir_parse_bodies.specs.Lines.{lined}
use Rattle.ir_parse_bodies.proofs.Successions.{out_of_memory, passed_on, reads_behind, returns_as, returns_through, within}
use Rattle.ir_parse_operands.proofs.Additions.{first_fails}
use Rattle.ir_parse_bodies.proofs.calls.called_into.Goals as goal

pub returns : goal.returns
returns c = returns_as (within (within (reads_behind c.in_ok-call_attributes_at.ensures _ refl) _) _) _ _ (returns_through (λ (r : Result (Unit {0} × List Tok) Fault). follow (follow (follow r (λ _. done (called c.args.reg c.args.callee c.args.arguments.items))) (λ i. done (lined c.args.list.now.name c.args.list.now.line i))) (λ x. done (keep c.args.list.now.lines.items x))) _ _ _ _ (λ f. refl) (ap (λ (lines : List WrittenLine). Ok (lines, c.attachments_at.new.tokens)) (sym c.in_ok-put_call.ensures.put)) c.attachments_at.ensures)

pub returns-in_err-put_call : goal.returns-in_err-put_call
returns-in_err-put_call c = passed_on _ _ _ _ c.from_residual.ensures (out_of_memory _ _ c.in_err-put_call.ensures.memory)

pub returns-in_err-call_attributes_at : goal.returns-in_err-call_attributes_at
returns-in_err-call_attributes_at c = passed_on _ _ _ _ c.from_residual-in_err-call_attributes_at.ensures (first_fails _ _ _ (first_fails _ _ _ (first_fails _ _ _ c.in_err-call_attributes_at.ensures)))
