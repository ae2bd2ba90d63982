use Rattle.std.proofs.Common.{List, ℤ, Some, option_map, ap, sym, ◌∙◌}
use Rattle.std.proofs.Math.ListN.{drop_of_length-le}
use Rattle.ir_tree.specs.declared.operand.Argument.{Argument}
use Rattle.ir_meaning.specs.Address.{sum_from}
use Rattle.lto_bits.specs.Word.{wrapped}
use Rattle.ir_meaning.specs.Table.{constant_indices}
use Rattle.fold_rules.specs.Walking.{offset_behind}
use Rattle.fold_rules.proofs.Indices.{none_behind}
use Rattle.fold_rules.proofs.address.walked.Goals as goal

pub returns : goal.returns
returns c =
    let walk = c.loop-argument.walk in
    let none = drop_of_length-le c.args.indices.now c.loop-argument-test.false in
    ap Some (c.offset_at.ensures ∙ ap (λ (ds : List ℤ). wrapped 64 (sum_from walk.place ds)) (sym (none_behind (option_map (λ s. s.now) walk.inside))))
    ∙ ap (λ (ys : List Argument). option_map (offset_behind walk) (constant_indices ys)) (sym none)
    ∙ c.loop-argument.invariant.sum
