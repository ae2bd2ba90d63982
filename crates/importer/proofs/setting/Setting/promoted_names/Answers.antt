use Rattle.std.proofs.Common.{◌≡◌, ◌∙◌, ◌++◌, ℕ, List, ap, subst, sym}
use Rattle.std.specs.List.{Contains}
use Rattle.ir_summary.specs.Once.{texts}
use Rattle.importer.specs.Brought.{names_of}
use Rattle.importer.proofs.setting.Setting.promoted_names.Goals as goal

pub returns-clause-are : goal.returns-clause-are
returns-clause-are c = λ name.
    let sorted : c.into_vec.result.items ≡ texts c.sort_names.new.names.items = c.into_vec.ensures ∙ c.in_ok-copied.ensures ∙ ap texts c.deref.ensures.value in
    let before : texts c.in_ok-sorted.sorted.items ≡ names_of c.args.self.now.symbols.now c.args.self.now.suffixes.now c.args.numbers.now =
    c.in_ok-sorted.ensures ∙ c.as_slice.ensures ∙ c.in_ok-push_names.ensures ∙ ap (λ (l : List (List ℕ)). l ++ names_of c.args.self.now.symbols.now c.args.self.now.suffixes.now c.args.numbers.now) c.new-names.ensures in
    let same = c.sort_names.ensures.same name in (
      λ h. subst (λ (l : List (List ℕ)). Contains l name) before (same.0 (subst (λ (l : List (List ℕ)). Contains l name) sorted h)),
      λ h. subst (λ (l : List (List ℕ)). Contains l name) (sym sorted) (same.1 (subst (λ (l : List (List ℕ)). Contains l name) (sym before) h)),
    )
