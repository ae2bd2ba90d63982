use Rattle.std.proofs.Common.{◌∙◌, ap, sym, List, ℕ}
use Rattle.symbol_resolve.specs.Clashes.{first_other}
use Rattle.symbol_resolve.proofs.Targets.{agree_then, differ_as, differ_then, none_given}
use Rattle.symbol_resolve.proofs.target.differing.Goals as goal

pub returns-in_default : goal.returns-in_default
returns-in_default c = none_given c.args.line c.args.modules.now (sym c.in_default.ensures.given)

pub returns-in_default-first_other : goal.returns-in_default-first_other
returns-in_default-first_other c =
    agree_then c.args.line c.args.modules.now c.in-Some.first c.index-modules-first.result (sym c.in-Some.ensures.given) c.index-modules-first.is
    (sym (c.in_default-first_other.ensures ∙ ap (λ (text : List ℕ). first_other c.args.line text c.args.modules.now) c.target_text-text.ensures))

pub returns : goal.returns
returns c =
    differ_as c.args.line c.args.modules.now c.in-Some.first c.in-Some-first_other.second c.in_ok-first.first c.in_ok-second.second
    (differ_then c.args.line c.args.modules.now c.in-Some.first c.in-Some-first_other.second c.index-modules-first.result (sym c.in-Some.ensures.given) c.index-modules-first.is
    (sym (c.in-Some-first_other.ensures ∙ ap (λ (text : List ℕ). first_other c.args.line text c.args.modules.now) c.target_text-text.ensures)))
    c.in_ok-first.ensures c.in_ok-second.ensures
