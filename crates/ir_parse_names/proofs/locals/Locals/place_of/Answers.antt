use Rattle.std.proofs.Common.{ap, ◌∙◌}
use Rattle.ir_parse_names.specs.KeyViews.{key}
use Rattle.ir_parse_names.specs.Locals.{LocalTable, place_of, sort_of}
use Rattle.ir_parse_names.proofs.SameKeys.{places, sorts}
use Rattle.ir_parse_names.proofs.locals.Locals.place_of.Goals as goal

pub returns-in-None-clause-place : goal.returns-in-None-clause-place
returns-in-None-clause-place c =
    c.in-None.ensures.index ∙ places c.args.wanted.now c.self.inside.map.entries ∙ ap (λ (k : LocalTable). place_of k.definitions (key c.args.wanted.now)) c.self.view_is

pub returns-in-None-clause-sort : goal.returns-in-None-clause-sort
returns-in-None-clause-sort c =
    c.in-None.ensures.value ∙ sorts c.args.wanted.now c.self.inside.map.entries ∙ ap (λ (k : LocalTable). sort_of k.definitions (key c.args.wanted.now)) c.self.view_is

pub returns-in-Some-clause-place : goal.returns-in-Some-clause-place
returns-in-Some-clause-place c =
    c.in-Some.ensures.index ∙ places c.args.wanted.now c.self.inside.map.entries ∙ ap (λ (k : LocalTable). place_of k.definitions (key c.args.wanted.now)) c.self.view_is

pub returns-in-Some-clause-sort : goal.returns-in-Some-clause-sort
returns-in-Some-clause-sort c =
    c.in-Some.ensures.value ∙ sorts c.args.wanted.now c.self.inside.map.entries ∙ ap (λ (k : LocalTable). sort_of k.definitions (key c.args.wanted.now)) c.self.view_is
