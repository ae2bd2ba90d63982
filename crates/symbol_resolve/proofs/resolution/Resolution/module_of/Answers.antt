use Rattle.std.proofs.Common.{◌∙◌, ap, sym}
use Rattle.symbol_resolve.specs.Resolved.{Symbols, module_of}
use Rattle.symbol_resolve.proofs.Found.{looked_up, prevails_of}
use Rattle.symbol_resolve.proofs.resolution.Resolution.module_of.Goals as goal

pub returns-in-Some : goal.returns-in-Some
returns-in-Some c =
    c.prevails.ensures ∙ ap prevails_of c.in-Some.ensures.value
    ∙ sym (looked_up c.self.inside.names.entries c.args.name.now) ∙ ap (λ (table : Symbols). module_of table c.args.name.now) c.self.view_is

pub returns-in-None : goal.returns-in-None
returns-in-None c =
    ap prevails_of c.in-None.ensures.value
    ∙ sym (looked_up c.self.inside.names.entries c.args.name.now) ∙ ap (λ (table : Symbols). module_of table c.args.name.now) c.self.view_is
