use Rattle.std.proofs.Common.{Result, List, ◌∙◌, ap}
use Rattle.ir_lex.specs.Tok.{Tok}
use Rattle.ir_parse_parts.specs.declared.fault.Fault.{Fault}
use Rattle.ir_parse_parts.specs.declared.raw.Instr.{Instr}
use Rattle.ir_parse_parts.specs.declared.raw.Instr.TheVariants as instrs
use Rattle.ir_parse_parts.specs.Readers.{done, follow, ◌>>=◌}
use Rattle.ir_parse_operands.specs.Addressing.{slots_fit}
use Rattle.ir_parse_operands.specs.AddressingAt.{reserving_at, slots_behind_at}
use Rattle.ir_parse_operands.specs.Listing.{line_of, put}
use Rattle.ir_parse_operands.specs.ShapeFormsAt.{memory_shape_at}
use Rattle.ir_parse_operands.proofs.Choices.{goes_on}
use Rattle.ir_parse_operands.proofs.Additions.{pushed_returns}
use Rattle.ir_parse_operands.proofs.addressing.reserving_into.Goals as goal

pub returns : goal.returns
unfolding reserving_at
returns c =
    let list = c.args.list.now in
    let typed = c.in_ok-shape.shape.typed in
    let slots = c.in_ok-slots.slots in
    pushed_returns c.put.result c.put.new.self.lines.items list.lines.items (line_of list (instrs.Alloca typed slots.count slots.align)) c.slots_behind_at.new.tokens _ c.put.ensures.put c.put.ensures.memory
    (ap (λ (r : Result (Instr × List Tok) Fault). follow r (λ i. done (put list i)))
    (goes_on (λ x. slots_behind_at (slots_fit x.shape) >>= λ s. done (instrs.Alloca x s.count s.align)) (memory_shape_at c.args.tokens.now) typed c.memory_shape_at.new.tokens c.in_ok-shape.ensures.exact
    ∙ goes_on (λ s. done (instrs.Alloca typed s.count s.align)) (slots_behind_at (slots_fit typed.shape) c.memory_shape_at.new.tokens) slots c.slots_behind_at.new.tokens c.in_ok-slots.ensures))
