use Rattle.std.proofs.Common.{ℕ, ◌+◌, ◌%◌, ◌^◌, drop, Result, sym, ap, ◌∙◌}
use Rattle.std.proofs.lemmas.List.{drop_all}
use Rattle.ir_parse_names.specs.declared.fault.Fault.{Fault}
use Rattle.ir_parse_names.specs.Addresses.{offset_behind}
use Rattle.ir_parse_names.specs.Resolving.{◌>>=◌}
use Rattle.ir_parse_names.proofs.Each.{here}
use Rattle.ir_parse_names.proofs.address.address_offset.Goals as goal

pub each-preserved : goal.each-preserved
each-preserved c =
    sym (ap (offset_behind c.each.offset c.args.types.now) (here c.args.levels.now c.each.level-index c.level-item.result c.each-test.true c.level-item.is)
    ∙ ap (λ (r : Result ℕ Fault). r >>= λ m. offset_behind ((c.each.offset + m) % 2 ^ 64) c.args.types.now (drop (c.each.level-index + 1) c.args.levels.now)) c.in_ok-offset.ensures)
    ∙ c.each.invariant

pub returns : goal.returns
returns c = sym c.each.invariant ∙ ap (offset_behind c.each.offset c.args.types.now) (drop_all c.each.level-index c.args.levels.now c.each-test.false)
