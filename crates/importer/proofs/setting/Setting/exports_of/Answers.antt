use Rattle.std.proofs.Common.{ℕ, List, map, subst, sym}
use Rattle.std.specs.List.{Contains}
use Rattle.merge_meaning.specs.ByName.{has}
use Rattle.importer.specs.Tasks.{name_of}
use Rattle.importer.proofs.NameSets.{shared_are}
use Rattle.importer.proofs.setting.Setting.exports_of.Goals as goal

pub returns-clause-are : goal.returns-clause-are
returns-clause-are c = λ name.
    let same = c.sort_names.ensures.same name in
    let shared = shared_are (has c.args.self.now.exported) c.args.self.now.exports.now (map name_of c.args.part.now) c.args.self.now.knows name in (
      λ h. shared.0 (subst (λ (l : List (List ℕ)). Contains l name) c.in_ok-names.ensures (same.0 h)),
      λ both. same.1 (subst (λ (l : List (List ℕ)). Contains l name) (sym c.in_ok-names.ensures) (shared.1 both)),
    )
