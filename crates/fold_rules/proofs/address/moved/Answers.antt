use Rattle.std.proofs.Common.{◌∷◌, List, ℤ, Option, option_map, ap, sym, ◌∙◌, w64, FitsSigned, rules}
use Rattle.std.proofs.lemmas.Int.{to_z-of_z}
use Rattle.std.proofs.lemmas.List.Elements.{All-rest}
use Rattle.ir_tree.specs.Formed.{IsReg}
use Rattle.ir_tree.specs.declared.operand.Argument.{Argument}
use Rattle.ir_meaning.specs.Frame.{cons_index}
use Rattle.ir_meaning.specs.Table.{constant_indices}
use Rattle.fold_rules.specs.Walking.{offset_behind, offset_from}
use Rattle.fold_rules.proofs.Indices.{behind_index}
use Rattle.fold_rules.proofs.address.moved.Goals as goal

pub walked-requires-clause-typed : goal.walked-requires-clause-typed
walked-requires-clause-typed c =
    All-rest (λ a. IsReg a.reg) c.in-Some.first.now c.in-Some.rest.now c.args.indices.now c.in-Some.ensures.cases.0 c.requires.typed

pub returns : goal.returns
returns c =
    let from = offset_from c.args.shape.now c.args.offset in
    let rest = constant_indices c.in-Some.rest.now in
    let fits : FitsSigned w64 c.in_ok-index.index = search rules in
    let index = sym c.constant_index.ensures ∙ c.in_ok-index.was in
    c.walked.ensures
    ∙ behind_index (offset_behind c.begun.result) from c.in_ok-index.index rest
    (λ js. c.begun.ensures.sum js ∙ ap (λ (i : ℤ). from (i ∷ js)) (to_z-of_z w64 c.in_ok-index.index fits))
    ∙ ap (λ (i : Option ℤ). option_map from (cons_index i rest)) (sym index)
    ∙ ap (λ (xs : List Argument). option_map from (constant_indices xs)) (sym c.in-Some.ensures.cases.0)
