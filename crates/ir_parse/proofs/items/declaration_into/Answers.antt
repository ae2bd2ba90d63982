use Rattle.ir_parse_parts.specs.declared.places.Before.TheVariants as befores
use Rattle.ir_parse.specs.ItemForms.{declared, keep}
use Rattle.ir_parse.proofs.Putting.{declaration_read, put_returns}
use Rattle.ir_parse.proofs.items.declaration_into.Goals as goal

pub returns : goal.returns
returns c =
    put_returns c.push_declared.result c.push_declared.new.items.items (keep c.args.items.now.items (declared c.in_ok-head.head)) befores.Declaration c.head_at.new.tokens _ c.push_declared.ensures.pushed c.push_declared.ensures.memory
    (declaration_read c.args.items.now.items c.args.tokens.now c.args.room c.in_ok-head.head c.expect.new.tokens c.attached_before_at.new.tokens c.head_at.new.tokens c.in_ok-expect.ensures c.in_ok-attached_before_at.ensures c.in_ok-head.ensures)
