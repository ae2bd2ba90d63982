use Rattle.std.proofs.Common.{List, ap, subst, sym, ◌∙◌}
use Rattle.std.proofs.Common.{◌≡◌, Option}
use Rattle.std.specs.Prelude.{OnOk}
use Rattle.ir_parse_parts.specs.declared.raw.Argument.{Argument}
use Rattle.ir_parse_parts.specs.declared.raw.Instr.TheVariants as instrs
use Rattle.ir_parse_parts.specs.declared.raw.Operand.{Operand}
use Rattle.ir_parse_parts.specs.declared.raw.WrittenLine.{WrittenLine}
use Rattle.ir_parse_operands.specs.Listing.{put}
use Rattle.ir_parse_bodies.specs.Calls.{called}
use Rattle.ir_parse_bodies.specs.Listed.{kept_in}
use Rattle.ir_parse_bodies.proofs.calls.put_call.Goals as goal

pub returns-in-None-clause-put : goal.returns-in-None-clause-put
returns-in-None-clause-put c = sym (ap (λ (f : Option Operand). kept_in c.args.list.now (called c.args.reg f c.args.arguments.items)) c.in-None.is)

pub returns-in-Some-clause-put : goal.returns-in-Some-clause-put
returns-in-Some-clause-put c = subst (λ (lines : List WrittenLine). OnOk c.put.result (c.put.new.self.lines.items ≡ lines)) (ap (λ (all : List Argument). put c.args.list.now (instrs.Call c.args.reg c.in-Some.callee all)) c.of.ensures ∙ sym (ap (λ (f : Option Operand). kept_in c.args.list.now (called c.args.reg f c.args.arguments.items)) c.in-Some.is)) c.put.ensures.put
