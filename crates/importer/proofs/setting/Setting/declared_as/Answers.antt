use Rattle.std.proofs.Common.{◌∙◌, Some, ap, sym}
use Rattle.std.proofs.lemmas.Result.{IfOk-weaker}
use Rattle.std.specs.Prelude.{option_copied}
use Rattle.lto_task.specs.Declarations.{declaration_of}
use Rattle.importer.specs.Brought.{joined}
use Rattle.importer.proofs.Declared.{declared_outside, declared_there}
use Rattle.importer.proofs.setting.Setting.declared_as.Goals as goal

pub returns-in_ok-declared-in-Some : goal.returns-in_ok-declared-in-Some
returns-in_ok-declared-in-Some c =
    ap Some (c.in_ok-declared-in-Some.ensures ∙ ap declaration_of c.value.ensures)
    ∙ declared_there (joined c.args.self.now.parts.now) c.args.name.now c.in-Some.value.now (sym c.value_named.ensures ∙ ap option_copied c.in-Some.is)

pub returns-in-None : goal.returns-in-None
returns-in-None c =
    IfOk-weaker c.host_named.result _ _
    (λ found is. is ∙ declared_outside (joined c.args.self.now.parts.now) c.args.name.now (sym c.value_named.ensures ∙ ap option_copied c.in-None.is))
    c.host_named.ensures
