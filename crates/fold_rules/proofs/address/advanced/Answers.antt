use Rattle.std.proofs.Common.{List, ℤ, ◌∷◌, Option, option_map, ap, sym, ◌∙◌, w64, FitsSigned, rules, Bor}
use Rattle.std.proofs.lemmas.Int.{to_z-of_z}
use Rattle.ir_meaning.specs.Address.{displacements_into, sum_from}
use Rattle.lto_bits.specs.Word.{wrapped}
use Rattle.ir_tree.specs.Forms.{Form}
use Rattle.fold_rules.specs.Walking.{displacements_in}
use Rattle.ir_meaning.proofs.Wraps.{stepped}
use Rattle.fold_rules.proofs.address.advanced.Goals as goal

pub returns-in-Some-step_into-clause-sum : goal.returns-in-Some-step_into-clause-sum
returns-in-Some-step_into-clause-sum c =
    let place = c.args.walk.place in
    let step = c.in-Some-step_into.step in
    let fits : FitsSigned w64 place = search rules in
    let fits' : FitsSigned w64 step.bytes = search rules in
    λ is. stepped place step.bytes c.in-Some-step_into.ensures.step.0 (displacements_into step.part.now is) fits fits' c.in-Some-step_into.ensures.step.1
    ∙ ap (λ (ds : List ℤ). wrapped 64 (sum_from place ds)) (sym (c.in-Some-step_into.ensures.step.2 is))
    ∙ ap (λ (i : ℤ). wrapped 64 (sum_from place (displacements_into c.in-Some.shape.now (i ∷ is)))) (to_z-of_z w64 c.args.index c.ranges.index)
    ∙ ap (λ (o : Option (Bor Form)). wrapped 64 (sum_from place (displacements_in (option_map (λ s. s.now) o) (c.args.index ∷ is)))) (sym c.in-Some.is)
